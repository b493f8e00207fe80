-- Of a text file that reads, the words of its object are those of the five parts. Assumes nothing.
use mathlib.Core.Path.{◌≡◌, refl, sym, ap, ap₂, ◌∙◌, subst}
use mathlib.Core.Bool.{Bool, true, false, ◌&&◌, not}
use mathlib.Core.List.{List, [], ◌++◌, map, flat_map, append_assoc}
use mathlib.Core.Option.{Option, some}
use Prim.Native.Nat.{ℕ, ◌+◌, ◌-◌, ◌^◌, ◌%◌, ◌≤◌, ◌<◌}
use native.Mathlib.Omega.{arith}
use lib.ListN.{length, take, length-append, length-take}
use borrow.Author.Tests.{lt-leb}
use Rattle.format.specs.Calls.{fill, measured, read_text}
use Rattle.std.specs.Prelude.{if◌then◌else◌}
use Rattle.format.specs.Basics.{Outcome, refused, given, ◌>>=◌, is_empty, is_some}
use Rattle.format.specs.Utf8.{trim}
use Rattle.format.specs.ObjectFile.{Block, Label, LineBlock, ObjectFile, source_text}
use Rattle.format.specs.Records.{Record, block, label, line_block, relocation, source_records, records_of, drop_stray_relocations}
use Rattle.format.specs.TextReader.{text_object}
use Rattle.format.specs.Words.{record_words, words_of}
use Rattle.format.proofs.ListLaws.{flat_map-append, flat_map-map, by_test}
use Rattle.format.proofs.Outcomes.{gives}
use Rattle.format.proofs.TextBound.{text-words-few, text-source-few}
use Rattle.text_tables.specs.Debug.{line_view}
use Rattle.text_source.specs.Stream.{source_from}
use Rattle.text_blocks.specs.Blocks.{blocks_length}
use Rattle.text_scan.specs.Walk.{line_blocks_of, source_of}
use Rattle.text_scan.specs.Scan.{Scan, Read, Scans}
use Rattle.text_rows.proofs.FileLaws.{PartsOf, text-parts}
use Rattle.text_labels.specs.Labels.{labels_of}
use Rattle.text_labels.proofs.FileLaws.{text-words}
use Rattle.text_debug.specs.DebugGroup.{line_blocks_in}
use Rattle.text_runs.specs.Runs.{block_words}
use Rattle.text_runs.proofs.RunLaws.{runs_words}
use Rattle.known_labels.specs.Known.{label_parts}
use Rattle.text_read.specs.SourceText.{source_at, Unescapes, Counted}
use Rattle.text_read.specs.Parts.{joined, row_parts, line_parts, source_parts, relocation_parts, keeps_relocations, object_parts, debug_words, fixed_words, rest_words}
use Rattle.text_read.proofs.PartLaws.{lines_some, from1, from3, from4, joined-parts, joined1, joined2, joined3, total_words, debug_is}

-- the words of records, one after the other
records_joined : (rs : List Record) → flat_map record_words rs ≡ joined (map record_words rs)
records_joined rs = sym (flat_map-map (λ (p : List ℕ). p) record_words rs)

-- five lists, grouped to the right
regroup : {A : Type 0} (a b c d e : List A) → a ++ b ++ c ++ d ++ e ≡ a ++ (b ++ (c ++ (d ++ e)))
regroup a b c d e = append_assoc (a ++ b ++ c) d e ∙ append_assoc (a ++ b) c (d ++ e) ∙ append_assoc a b (c ++ (d ++ e))

-- dropping relocations leaves the line blocks, the source and the blocks
dropped_lines : (h : ObjectFile) → (drop_stray_relocations h).line_blocks ≡ h.line_blocks
unfolding drop_stray_relocations
dropped_lines h = by_test (is_empty h.labels && not (is_some h.source)) (λ e. simp e) (λ e. simp e)

dropped_source : (h : ObjectFile) → (drop_stray_relocations h).source ≡ h.source
unfolding drop_stray_relocations
dropped_source h = by_test (is_empty h.labels && not (is_some h.source)) (λ e. simp e) (λ e. simp e)

dropped_blocks : (h : ObjectFile) → (drop_stray_relocations h).blocks ≡ h.blocks
unfolding drop_stray_relocations
dropped_blocks h = by_test (is_empty h.labels && not (is_some h.source)) (λ e. simp e) (λ e. simp e)

some_source : (sourced : Bool) (ls : List (List ℕ)) → is_some (source_of sourced ls) ≡ sourced
unfolding source_of is_some
some_source true ls = refl
some_source false ls = refl

relocations_are : (sourced : Bool) (u : List ℕ)
    → (if is_empty (labels_of u) && not sourced then [] else joined (row_parts 2 u)) ≡ joined (relocation_parts (keeps_relocations sourced u) u)
unfolding relocation_parts keeps_relocations flat_map
relocations_are sourced u = by_test (is_empty (labels_of u) && not sourced) (λ e. simp e) (λ e. simp e)

module _ (s t : List ℕ) (r : Scan) (h : ObjectFile) (e : text_object s ≡ given h) (x : Read t r h) where
  abbrev u : List ℕ
  u = trim s

  abbrev ls : List (List ℕ)
  ls = (line_view t r.rows).0

  lines_are : h.line_blocks ≡ line_blocks_of r.sourced ls
  lines_are = ap (λ (o : ObjectFile). o.line_blocks) x.whole ∙ dropped_lines x.object ∙ x.lines.blocks

  source_is : h.source ≡ source_of r.sourced ls
  source_is = ap (λ (o : ObjectFile). o.source) x.whole ∙ dropped_source x.object ∙ x.lines.source

  labels_are : h.labels ≡ labels_of u
  unfolding labels_of
  labels_are = (gives (PartsOf u) (text_object s) h (text-parts s) e).labels

  lines-words : flat_map record_words (map line_block h.line_blocks) ≡ joined (line_parts r.sourced t r.rows)
  lines-words =
      records_joined (map line_block h.line_blocks) ∙ ap (λ (xs : List LineBlock). joined (map record_words (map line_block xs))) lines_are

  source-words : flat_map record_words (source_records h.source) ≡ joined (source_parts r.sourced t r.rows)
  source-words =
      records_joined (source_records h.source) ∙ ap (λ (o : Option (List ℕ)). joined (map record_words (source_records o))) source_is

  relocation-words : flat_map record_words (map relocation h.relocations) ≡ joined (from4 u t r.sourced r.rows)
  relocation-words =
      (text-words s h e).relocations
      ∙ ap₂ (λ (xs : List Label) (b : Bool). if is_empty xs && not b then [] else joined (row_parts 2 u)) labels_are
      (ap is_some source_is ∙ some_source r.sourced ls)
      ∙ relocations_are r.sourced u

  -- the words of the file are those of its five parts
  pub file_words : words_of h ≡ joined (object_parts u t r.sourced r.rows)
  unfolding words_of records_of
  file_words =
      ap (flat_map record_words)
      (regroup (map block h.blocks) (map label h.labels) (map line_block h.line_blocks) (source_records h.source)
      (map relocation h.relocations))
      ∙ flat_map-append record_words (map block h.blocks) _
      ∙ ap₂ (λ (a b : List ℕ). a ++ b) (text-words s h e).blocks
      (flat_map-append record_words (map label h.labels) _
      ∙ ap₂ (λ (a b : List ℕ). a ++ b) (text-words s h e).labels
      (flat_map-append record_words (map line_block h.line_blocks) _
      ∙ ap₂ (λ (a b : List ℕ). a ++ b) lines-words
      (flat_map-append record_words (source_records h.source) _ ∙ ap₂ (λ (a b : List ℕ). a ++ b) source-words relocation-words
      ∙ sym (joined3 u t r.sourced r.rows))
      ∙ sym (joined2 u t r.sourced r.rows))
      ∙ sym (joined1 u t r.sourced r.rows))
      ∙ sym (joined-parts u t r.sourced r.rows)

  -- as many are of blocks as were counted
  pub file_blocks : r.words ≡ length (joined (row_parts 0 u)) % 2 ^ 64
  unfolding blocks_length
  file_blocks =
      x.words
      ∙ ap (λ (bs : List Block). blocks_length bs % 2 ^ 64) (sym (ap (λ (o : ObjectFile). o.blocks) x.whole ∙ dropped_blocks x.object))
      ∙ ap (λ (l : List ℕ). length l % 2 ^ 64) (text-words s h e).blocks

  -- and its source unescapes
  pub file_unescapes : r.sourced ≡ true → Unescapes t r.rows
  unfolding source_from
  file_unescapes q = x.lines.reads q

  -- to at most as many bytes as the file has
  pub file_source : r.sourced ≡ true → length (source_at t r.rows) ≤ length s
  unfolding source_text source_of
  file_source q =
      let is : h.source ≡ some (source_at t r.rows) = source_is ∙ ap (λ (b : Bool). source_of b ls) q in
      omega (arith, text-source-few s h e, ap (λ (o : Option (List ℕ)). length (source_text o)) is)

-- THE CALLS: a refusal, a buffer that is too short, and the words
pub read-refused : (s t : List ℕ) (r : Scan) (buffer : List ℕ) → Scans t (text_object s) r → (r.number ≡ 0 → ⊥)
    → record { number = r.number; len = 0; buffer = buffer } ≡ fill (read_text s) buffer
unfolding read_text fill
read-refused s t r buffer q z = go (text_object s) q
  where
    go : (o : Outcome ObjectFile) → Scans t o r
        → record { number = r.number; len = 0; buffer = buffer } ≡ fill (o >>= λ h. given (words_of h)) buffer
    go (refused n) q = ap (λ (x : Scan). record { number = x.number; len = 0; buffer = buffer }) q.0
    go (given h) q = absurd (z q.yes)

pub read-given : (s t : List ℕ) (r : Scan) → Scans t (text_object s) r → r.number ≡ 0
    → (h : ObjectFile) × (text_object s ≡ given h) × Read t r h
read-given s t r q z = go (text_object s) refl q
  where
    go : (o : Outcome ObjectFile) → text_object s ≡ o → Scans t o r → (h : ObjectFile) × (text_object s ≡ given h) × Read t r h
    go (refused n) e q = let k : 0 ≡ n = sym z ∙ ap (λ (x : Scan). x.number) q.0 in absurd (omega (arith, q.1))
    go (given h) e q = (h, e, q)

pub length-refused : (s t : List ℕ) (r : Scan) → Scans t (text_object s) r → (r.number ≡ 0 → ⊥)
    → record { number = r.number; len = 0 } ≡ measured (read_text s)
unfolding read_text measured
length-refused s t r q z = go (text_object s) q
  where
    go : (o : Outcome ObjectFile) → Scans t o r → record { number = r.number; len = 0 } ≡ measured (o >>= λ h. given (words_of h))
    go (refused n) q = ap (λ (x : Scan). record { number = x.number; len = 0 }) q.0
    go (given h) q = absurd (z q.yes)

module _ (s t : List ℕ) (r : Scan) (q : Scans t (text_object s) r) (z : r.number ≡ 0) where
  answer : read_text s ≡ given (joined (object_parts (trim s) t r.sourced r.rows))
  unfolding read_text
  answer =
      let x = read-given s t r q z in
      ap (λ (o : Outcome ObjectFile). o >>= λ h. given (words_of h)) x.1 ∙ ap given (file_words s t r x.0 x.1 x.2)

  pub read_unescapes : r.sourced ≡ true → Unescapes t r.rows
  read_unescapes y = let x = read-given s t r q z in file_unescapes s t r x.0 x.1 x.2 y

  all-few : length (joined (object_parts (trim s) t r.sourced r.rows)) ≤ length s
  all-few =
      let x = read-given s t r q z in
      omega (arith, text-words-few s x.0 x.1, ap length (file_words s t r x.0 x.1 x.2))

  -- and so have the line blocks
  few-lines : r.sourced ≡ true → length (joined (block_words (line_blocks_in (line_view t r.rows).0))) ≤ length s
  few-lines y =
      let u = trim s in
      omega (
        arith,
        all-few,
        ap length (joined-parts u t r.sourced r.rows ∙ ap (λ (l : List ℕ). joined (row_parts 0 u) ++ l) (joined1 u t r.sourced r.rows ∙ ap (λ (l : List ℕ). joined (label_parts u) ++ l) (joined2 u t r.sourced r.rows))),
        length-append (joined (row_parts 0 u)) (joined (label_parts u) ++ (joined (line_parts r.sourced t r.rows) ++ joined (from3 u t r.sourced r.rows))),
        length-append (joined (label_parts u)) (joined (line_parts r.sourced t r.rows) ++ joined (from3 u t r.sourced r.rows)),
        length-append (joined (line_parts r.sourced t r.rows)) (joined (from3 u t r.sourced r.rows)),
        ap (λ (ps : List (List ℕ)). length (joined ps)) (lines_some r.sourced t r.rows y),
      )

  pub read-counted : length s < 2 ^ 63 → r.sourced ≡ true → Counted t r.rows r.lines
  read-counted l y =
      let x = read-given s t r q z in
      let few = file_source s t r x.0 x.1 x.2 y in
      let made = x.2.lines.makes y in
      let n : ℕ = length (joined (block_words (line_blocks_in (line_view t r.rows).0))) in
      let words : n ≤ length s = few-lines y in
      (omega (arith, made.0, few), omega (arith, made.0, few), (let z : n % 2 ^ 64 ≡ n = omega arith in made.1 ∙ runs_words (line_view t r.rows).0 ∙ z))

  pub read-words : length s < 2 ^ 63 → r.words ≡ length (joined (row_parts 0 (trim s)))
  read-words l =
      let x = read-given s t r q z in
      let u = trim s in
      let n : ℕ = length (joined (row_parts 0 u)) in
      let few : n ≤ length s =
      omega (
        arith,
        all-few,
        ap length (joined-parts u t r.sourced r.rows),
        length-append (joined (row_parts 0 u)) (joined (from1 u t r.sourced r.rows)),
      ) in
      let m : n % 2 ^ 64 ≡ n = omega arith in
      file_blocks s t r x.0 x.1 x.2 ∙ m

  pub read-inside : r.end ≡ length t
  read-inside = let x = read-given s t r q z in x.2.end

  -- as many words are of blocks, line blocks and source as were counted
  pub read_fixed : length s < 2 ^ 63 → r.words + debug_words r.sourced r.lines ≡ fixed_words (trim s) t r.sourced r.rows
  read_fixed l = ap₂ (λ (a b : ℕ). a + b) (read-words l) (debug_is r.sourced t r.rows r.lines (read-counted l))

  pub read-few : fixed_words (trim s) t r.sourced r.rows + rest_words (trim s) r.sourced ≤ length s
  read-few = omega (arith, all-few, total_words (trim s) t r.sourced r.rows)

  pub length-given : (n : ℕ) → n ≡ fixed_words (trim s) t r.sourced r.rows + rest_words (trim s) r.sourced
      → record { number = 0; len = n } ≡ measured (read_text s)
  unfolding measured
  length-given n e =
      ap (λ (k : ℕ). record { number = 0; len = k }) (e ∙ sym (total_words (trim s) t r.sourced r.rows)) ∙ sym (ap measured answer)

  pub read-fill : (buffer : List ℕ) → fill (given (joined (object_parts (trim s) t r.sourced r.rows))) buffer ≡ fill (read_text s) buffer
  read-fill buffer = sym (ap (λ (x : Outcome (List ℕ)). fill x buffer) answer)

-- a buffer that is too short
pub fill-short : (ws buffer : List ℕ) → length buffer < length ws → record { number = 3; len = 0; buffer = buffer } ≡ fill (given ws) buffer
unfolding fill
fill-short ws buffer h = rw (lt-leb (length ws) (length buffer) h) refl

module _ (u t : List ℕ) (sourced : Bool) (rows fixed : ℕ) (e : fixed ≡ fixed_words u t sourced rows) (buffer : List ℕ) where
  pub fill_lacks : length buffer < fixed + rest_words u sourced
      → record { number = 3; len = 0; buffer = buffer } ≡ fill (given (joined (object_parts u t sourced rows))) buffer
  fill_lacks h = fill-short _ buffer (omega (arith, h, e, total_words u t sourced rows))

  pub fill-fits : (m : ℕ) → fixed + rest_words u sourced + m ≡ length buffer → length (joined (object_parts u t sourced rows)) ≤ length buffer
  fill-fits m h = omega (arith, h, e, total_words u t sourced rows)

-- THE FILE'S RANGES, as the calls lend them: what trimming leaves, and the file up to the end of it
module _ (s : List ℕ) (r : Scan) (q : Scans (take r.end s) (text_object s) r) (z : r.number ≡ 0) where
  cut_is : take r.end s ≡ take (r.end - 0) s
  cut_is = let k : r.end ≡ r.end - 0 = omega arith in ap (λ (n : ℕ). take n s) k

  pub lent_inside : r.end ≤ length s
  lent_inside = omega (arith, read-inside s (take r.end s) r q z, length-take r.end s)

  pub lent_unescapes : r.sourced ≡ true → Unescapes (take (r.end - 0) s) r.rows
  lent_unescapes y = subst (λ (t : List ℕ). Unescapes t r.rows) cut_is (read_unescapes s (take r.end s) r q z y)

  module _ (l : length s < 2 ^ 63) where
    abbrev fixed : ℕ
    fixed = r.words + debug_words r.sourced r.lines

    pub lent_small : fixed < 2 ^ 64
    lent_small = omega (arith, read_fixed s (take r.end s) r q z l, read-few s (take r.end s) r q z)

    pub lent_length : r.sourced ≡ true → r.lines.len < 2 ^ 63
    lent_length y = (read-counted s (take r.end s) r q z l y).1

    module _ (u : List ℕ) (w : trim s ≡ u) where
      pub lent_few : fixed + rest_words u r.sourced < 2 ^ 64
      lent_few =
          subst (λ (x : List ℕ). fixed + rest_words x r.sourced < 2 ^ 64) w
          (omega (arith, read_fixed s (take r.end s) r q z l, read-few s (take r.end s) r q z))

      pub lent_given : (n : ℕ) → n ≡ fixed + rest_words u r.sourced → record { number = 0; len = n } ≡ measured (read_text s)
      lent_given n e =
          length-given s (take r.end s) r q z n
          (e ∙ ap₂ (λ (a : ℕ) (x : List ℕ). a + rest_words x r.sourced) (read_fixed s (take r.end s) r q z l) (sym w))

      pub lent_fixed : fixed ≡ fixed_words u (take (r.end - 0) s) r.sourced r.rows
      lent_fixed =
          read_fixed s (take r.end s) r q z l ∙ ap₂ (λ (u t : List ℕ). fixed_words u t r.sourced r.rows) w cut_is

  pub lent_fill : (u : List ℕ) → trim s ≡ u → (buffer : List ℕ)
      → fill (given (joined (object_parts u (take (r.end - 0) s) r.sourced r.rows))) buffer ≡ fill (read_text s) buffer
  lent_fill u w buffer =
      ap₂ (λ (u t : List ℕ). fill (given (joined (object_parts u t r.sourced r.rows))) buffer) (sym w) (sym cut_is)
      ∙ read-fill s (take r.end s) r q z buffer
