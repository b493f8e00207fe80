-- How many words are room enough for a binary file: its object has at most (n - 7) / 2, so that a read with this room never gives 3. Of each
-- record, twice what it adds to the words is at most its bytes, the kind byte left over. Assumes nothing.
use mathlib.Core.Path.{◌≡◌, refl, ◌∙◌, ap}
use mathlib.Core.Bool.{true, false}
use mathlib.Core.List.{List, [], ◌∷◌, ◌++◌, flat_map, append-nil}
use mathlib.Core.Option.{Option, none, some}
use Prim.Native.Nat.{ℕ, zero, suc, ◌+◌, ◌-◌, ◌*◌, ◌/◌, ◌^◌, ◌≤◌, ◌<◌}
use native.Mathlib.Omega.{arith}
use lib.ListN.{length, drop, length-append, length-take, length-drop}
use lib.Dec.{leb, eqb}
use borrow.Author.Tests.{leb-true, lt-ltb, lt-leb}
use Rattle.format.specs.Basics.{Outcome, given, chain, begins_with, All, is_empty, is_some}
use Rattle.format.specs.Tokens.{tokens}
use Rattle.format.specs.Utf8.{is_utf8}
use Rattle.format.specs.Sorted.{upsert}
use Rattle.format.specs.ObjectFile.{LineBlock, ObjectFile, source_text, strictly_rise, apart}
use Rattle.format.specs.Records.{Record, block, label, line_block, source, relocation, empty_object, put_record, gather_records, drop_stray_relocations}
use Rattle.format.specs.Records.{binary_questions, ask_all, concluded}
use Rattle.format.specs.Words.{words_of}
use Rattle.format.specs.Binary.{number_at, bytes_at, addresses_from, block_from, label_from, lines_from, source_from, relocation_from}
use Rattle.format.specs.Binary.{record_at, magic, version, header, record_bytes, binary_records, binary_object}
use Rattle.format.specs.Calls.{read_binary, Filled, fill, ReadsBinary}
use Rattle.format.specs.Bounds.{binary_room, WordsFit, NeverShort, numbers_from, line_file, RoomMet, RoomNeeded}
use Rattle.format.proofs.Outcomes.{by_if, Gives, gives_map, gives_ask, gives_bind}
use Rattle.format.proofs.Numbered.{binary_above}
use Rattle.format.proofs.Rooms.{words_fit, never_short}
use Rattle.format.proofs.BinaryBack.{Writable, size_of, size-bytes, records_back}
use Rattle.format.proofs.Counts.{memories_length, addresses-length}
use Rattle.format.proofs.Totals.{total, weight, source_count, word_counts, block_adds, label_adds, line_adds, source_adds, relocation_adds}
use Rattle.format.proofs.Totals.{concluded-few, words-counted}

-- WHAT A RECORD ADDS: its words; of a line block one more, since it "makes the source exist"
unfoldable added : Record → ℕ
added (block b) = word_counts.of_block b
added (label l) = word_counts.of_label l
added (line_block l) = 1 + word_counts.of_lines l
added (source s) = source_count (some s)
added (relocation r) = word_counts.of_relocation r

module _ (h : ObjectFile) where
  put_adds : (r : Record) → weight word_counts (put_record h r) ≤ weight word_counts h + added r
  unfolding added source_text
  put_adds (block b) = block_adds word_counts h b
  put_adds (label l) = label_adds word_counts h l
  put_adds (line_block l) = omega (arith, line_adds word_counts h l, go h.source)
    where
      go : (o : Option (List ℕ)) → source_count (some (source_text o)) ≤ source_count o + 1
      go none = omega arith
      go (some s) = omega arith
  put_adds (source t) = omega (arith, source_adds word_counts h t, go h.source)
    where
      go : (o : Option (List ℕ)) → source_count (some (source_text o ++ t)) ≤ source_count o + source_count (some t)
      go none = omega arith
      go (some s) = omega (arith, length-append s t)
  put_adds (relocation r) = relocation_adds word_counts h r

gather_adds : (h : ObjectFile) (rs : List Record) → weight word_counts (gather_records h rs) ≤ weight word_counts h + total added rs
unfolding gather_records
gather_adds h [] = omega arith
gather_adds h (r ∷ rs) = omega (arith, put_adds h r, gather_adds (put_record h r) rs)

-- ITS BYTES PAY FOR IT: those after the kind byte, which are there
module _ (bs : List ℕ) where
  abbrev Paid : Record × ℕ → Type 0
  Paid t = (2 * added t.0 ≤ t.1) × (t.1 ≤ length bs)

  block_paid : Gives Paid (block_from bs)
  unfolding block_from added
  block_paid =
      let n : ℕ = number_at 2 2 bs in
      let ms : List ℕ = bytes_at 4 (3 * n) bs in
      gives_ask _ 12 (leb 4 (length bs)) _ λ _. gives_ask _ 12 (leb (4 + 3 * n) (length bs)) _ λ k.
      (omega (arith, memories_length ms, length-take (3 * n) (drop 4 bs)), leb-true (4 + 3 * n) (length bs) k)

  label_paid : Gives Paid (label_from bs)
  unfolding label_from added
  label_paid =
      let n : ℕ = number_at 11 8 bs in
      gives_ask _ 12 (leb 19 (length bs)) _ λ _. gives_ask _ 12 (leb (19 + n) (length bs)) _ λ k.
      gives_ask _ 13 (is_utf8 (bytes_at 19 n bs)) _ λ _. (omega (arith, length-take n (drop 19 bs)), leb-true (19 + n) (length bs) k)

  lines_paid : Gives Paid (lines_from bs)
  unfolding lines_from added
  lines_paid =
      let n : ℕ = number_at 8 2 bs in
      let xs : List ℕ = bytes_at 10 (2 * n) bs in
      gives_ask _ 12 (leb 10 (length bs)) _ λ _. gives_ask _ 12 (leb (10 + 2 * n) (length bs)) _ λ k.
      gives_ask _ 14 (strictly_rise (addresses_from xs)) _ λ _.
      (omega (arith, addresses-length xs, length-take (2 * n) (drop 10 bs)), leb-true (10 + 2 * n) (length bs) k)

  source_paid : Gives Paid (source_from bs)
  unfolding source_from added
  source_paid =
      let n : ℕ = number_at 0 8 bs in
      gives_ask _ 12 (leb 8 (length bs)) _ λ _. gives_ask _ 12 (leb (8 + n) (length bs)) _ λ k.
      gives_ask _ 13 (is_utf8 (bytes_at 8 n bs)) _ λ _. (omega (arith, length-take n (drop 8 bs)), leb-true (8 + n) (length bs) k)

  relocation_paid : Gives Paid (relocation_from bs)
  unfolding relocation_from added
  relocation_paid =
      let n : ℕ = number_at 2 8 bs in
      gives_ask _ 12 (leb 10 (length bs)) _ λ _. gives_ask _ 12 (leb (10 + n) (length bs)) _ λ k.
      gives_ask _ 13 (is_utf8 (bytes_at 10 n bs)) _ λ _. (omega (arith, length-take n (drop 10 bs)), leb-true (10 + n) (length bs) k)

  record_paid : (k : ℕ) → Gives Paid (record_at (k ∷ bs))
  unfolding record_at
  record_paid k =
      by_if (Gives Paid) (eqb k 0) _ _ (λ _. block_paid)
      (λ _. by_if (Gives Paid) (eqb k 1) _ _ (λ _. label_paid)
      (λ _. by_if (Gives Paid) (eqb k 2) _ _ (λ _. lines_paid)
      (λ _. by_if (Gives Paid) (eqb k 3) _ _ (λ _. source_paid)
      (λ _. by_if (Gives Paid) (eqb k 4) _ _ (λ _. relocation_paid) (λ _. tt)))))

records_paid : (k : ℕ) (bs : List ℕ) → Gives (λ rs. 2 * total added rs ≤ length (drop k bs) - 1) (tokens record_at k bs)
unfolding tokens
records_paid k [] = omega arith
records_paid (suc k) (b ∷ bs) = records_paid k bs
records_paid zero (b ∷ bs) =
    gives_bind _ (Paid bs) (record_at (b ∷ bs)) _ (record_paid bs b) λ t p.
    gives_bind _ (λ rs. 2 * total added rs ≤ length (drop t.1 bs) - 1) (tokens record_at t.1 bs) _ (records_paid t.1 bs) λ rs q.
    omega (arith, p.0, p.1, q, length-drop t.1 bs)

-- THE BOUND
object_paid : (bs : List ℕ) → Gives (λ h. 2 * weight word_counts h ≤ length bs - 8) (binary_object bs)
unfolding binary_object binary_records empty_object
object_paid bs =
    gives_bind _ (λ rs. 2 * total added rs ≤ length (drop 7 bs) - 1) (binary_records bs) _
    (gives_ask _ 10 (begins_with header bs) _ λ _. records_paid 0 (drop 7 bs)) λ rs p.
    let g : ObjectFile = gather_records empty_object rs in
    gives_map (λ h. weight word_counts h ≤ weight word_counts g) (λ h. 2 * weight word_counts h ≤ length bs - 8)
    (λ h q. omega (arith, p, q, length-drop 7 bs, gather_adds empty_object rs)) (concluded binary_questions g)
    (concluded-few word_counts g binary_questions)

-- A record leaves its kind byte over, so that (n - 8) / 2 holds too: for an odd n above 7 that is one word less.
pub binary-words_fewer : WordsFit read_binary (λ n. (n - 8) / 2)
unfolding read_binary
binary-words_fewer =
    words_fit binary_object (λ n. (n - 8) / 2) λ bs.
    gives_map (λ h. 2 * weight word_counts h ≤ length bs - 8) (λ h. length (words_of h) ≤ (length bs - 8) / 2)
    (λ h p. omega (arith, p, words-counted h)) (binary_object bs) (object_paid bs)

pub binary-words_fit : WordsFit read_binary binary_room
binary-words_fit bs ws e = omega (arith, binary-words_fewer bs ws e)

pub binary_never_short : NeverShort ReadsBinary binary_room
binary_never_short = never_short read_binary binary_room binary-words_fit binary_above

-- IT IS MET
numbers_length : (a n : ℕ) → length (numbers_from a n) ≡ n
unfolding numbers_from
numbers_length a zero = refl
numbers_length a (suc n) = ap suc (numbers_length (suc a) n)

numbers_below : (limit a n : ℕ) → a + n ≤ limit → All (λ x. x < limit) (numbers_from a n)
unfolding numbers_from
numbers_below limit a zero h = tt
numbers_below limit a (suc n) h = (omega arith, numbers_below limit (suc a) n (omega arith))

numbers_rise : (a n : ℕ) → strictly_rise (numbers_from a n) ≡ true
unfolding numbers_from chain
numbers_rise a zero = refl
numbers_rise a (suc zero) = refl
numbers_rise a (suc (suc n)) = rw (lt-ltb a (suc a) (omega arith), numbers_rise (suc a) (suc n))

module _ (k : ℕ) where
  abbrev lines : LineBlock
  lines = record { first = 0; addresses = numbers_from 0 k }

  -- its object: no record but the line block, and the source that this makes exist
  abbrev object : ObjectFile
  object = record { blocks = []; labels = []; line_blocks = lines ∷ []; source = some []; relocations = [] }

  file_length : length (line_file k) ≡ 18 + 2 * k
  unfolding line_file header magic version size_of
  file_length = omega (arith, size-bytes (line_block lines), numbers_length 0 k)

  module _ (few : k ≤ 65535) where
    writable : Writable (line_block lines)
    writable = (omega arith, omega (arith, numbers_length 0 k), numbers_below (2 ^ 16) 0 k (omega arith), numbers_rise 0 k)

    file_read : binary_object (line_file k) ≡ given object
    unfolding line_file binary_object binary_records header magic version begins_with flat_map gather_records empty_object put_record upsert source_text
        concluded ask_all apart chain drop_stray_relocations is_empty is_some
    file_read =
        let e : tokens record_at 0 (record_bytes (line_block lines)) ≡ given (line_block lines ∷ []) =
        rw (append-nil (record_bytes (line_block lines))) at (records_back (line_block lines ∷ []) (writable, tt)) in
        rw e refl

pub room_met : RoomMet
unfolding read_binary
room_met k few =
    (file_length k, words_of (object k), rw (file_read k few) refl, omega (arith, words-counted (object k), numbers_length 0 k))

pub room_needed : RoomNeeded
unfolding fill
room_needed k few buffer r less e =
    let m = room_met k few in
    let short : leb (length m.1) (length buffer) ≡ false = lt-leb (length m.1) (length buffer) (omega (arith, m.0, m.3)) in
    let f : r ≡ fill (given m.1) buffer = e ∙ ap (λ (o : Outcome (List ℕ)). fill o buffer) m.2 in
    ap (λ (x : Filled). x.number) (rw short at f)
