-- The words of a kind that begins a record are as many as the records. Assumes nothing.
use mathlib.Core.Path.{◌≡◌, refl, sym, ap, ap₂, ◌∙◌}
use mathlib.Core.Bool.{Bool, true, false, ◌||◌}
use mathlib.Core.List.{List, [], ◌∷◌, flat_map}
use mathlib.Core.Option.{Option, none, some}
use Prim.Native.Nat.{ℕ, ◌+◌, ◌*◌, ◌/◌, ◌^◌, ◌≤◌, ◌<◌}
use native.Mathlib.Omega.{arith}
use native.Mathlib.Numerals.{add-one}
use native.Mathlib.Nat.{mul-suc}
use lib.ListN.{length, drop, get_or, drop_of_length-le}
use lib.Seq.{drop-cons}
use lib.Dec.{eqb}
use borrow.Author.Tests.{ne_eqb}
use Rattle.std.specs.Prelude.{if◌then◌else◌}
use Rattle.format.specs.Basics.{given, All}
use Rattle.format.specs.Utf8.{is_between}
use Rattle.format.specs.ObjectFile.{ObjectFile}
use Rattle.format.specs.Records.{Record, block, label, line_block, source, relocation, records_of, source_records}
use Rattle.format.specs.Words.{flag_bit, word, is_head, record_words, words_of, object_of}
use Rattle.format.proofs.ListLaws.{by_test}
use Rattle.format.proofs.Ranges.{InWords, range_records}
use Rattle.format.proofs.Totals.{total, total_append, total_records}
use Rattle.format.proofs.WordsBack.{group_of, group_words, group_body}
use Rattle.format.proofs.WordsTrip.{words-only}
use Rattle.part_counts.specs.declared.PartCounts.{PartCounts}
use Rattle.part_counts.specs.Parts.{indicator, of_kind, part_counts, counts_of}

-- THE LOOP

is_total : (k : ℕ) (ws : List ℕ) → of_kind k ws ≡ total (indicator k) ws
unfolding of_kind
is_total k [] = refl
is_total k (w ∷ ws) = omega (arith, is_total k ws)

-- a word is counted once at most
one_at_most : (k w : ℕ) → indicator k w ≤ 1
unfolding indicator
one_at_most k w = by_test (eqb (w / 2 ^ 29) k) (λ t. rw t (omega arith)) (λ t. rw t (omega arith))

-- no more than there are
at_most_lem : (k : ℕ) (ws : List ℕ) → of_kind k ws ≤ length ws
unfolding of_kind
at_most_lem k [] = omega arith
at_most_lem k (w ∷ ws) = omega (arith, at_most_lem k ws, one_at_most k w)

-- so many words of a kind before a place, with those from there on, are all
abbrev pub Counted : List ℕ → ℕ → ℕ → ℕ → Type 0
Counted ws i k n = n + of_kind k (drop i ws) ≡ of_kind k ws

module _ (ws : List ℕ) (i k n : ℕ) (c : Counted ws i k n) where
  pub counted-few : n ≤ length ws
  counted-few = omega (arith, c, at_most_lem k ws)

  pub counted_next : i < length ws → (x : ℕ) → x ≡ indicator k (get_or ws i 0) → Counted ws (i + 1) k (n + x)
  unfolding of_kind
  counted_next h x e =
      let step : of_kind k (drop i ws) ≡ indicator k (get_or ws i 0) + of_kind k (drop (i + 1) ws) =
      ap (of_kind k) (drop-cons ws i 0 h) ∙ ap (λ j. indicator k (get_or ws i 0) + of_kind k (drop j ws)) (sym (add-one i)) in
      omega (arith, c, step, e)

  pub counted-end : length ws ≤ i → n ≡ of_kind k ws
  unfolding of_kind
  counted-end l = let none : of_kind k (drop i ws) ≡ 0 = ap (of_kind k) (drop_of_length-le ws l) in omega (arith, c, none)

-- THE RECORDS

abbrev kind_of : Record → ℕ
kind_of (block b) = 0
kind_of (label l) = 2
kind_of (line_block l) = 3
kind_of (source s) = 4
kind_of (relocation r) = 5

-- 1 for a kind, and 0 for another
abbrev same : ℕ → ℕ → ℕ
same k j = if eqb j k then 1 else 0

-- the kinds that begin a record
abbrev Begins : ℕ → Type 0
Begins k = (eqb k 0 || is_between 2 5 k) ≡ true

body_none : (k : ℕ) → Begins k → (ws : List ℕ) → All (λ w. is_head w ≡ false) ws → total (indicator k) ws ≡ 0
unfolding indicator is_head
body_none k b [] h = refl
body_none k b (w ∷ ws) h =
    let other : eqb (w / 2 ^ 29) k ≡ false = ne_eqb (w / 2 ^ 29) k λ e.
    (let z : ◌≡◌ {A = Bool} true false = sym b ∙ ap (λ x. eqb x 0 || is_between 2 5 x) (sym e) ∙ h.0 in
    let n : ◌≡◌ {A = ℕ} 0 1 = cc in omega arith) in
    rw other (omega (arith, body_none k b ws h.1))

head-kind : (r : Record) → InWords r → (group_of r).0 / 2 ^ 29 ≡ kind_of r
unfolding group_of record_words
head-kind (block b) h = let a = h.0 in omega arith
head-kind (label l) h = let a = h.0 in flagged l.external
  where
    flagged : (e : Bool) → word 2 (l.address + 2 ^ 16 * flag_bit e) / 2 ^ 29 ≡ 2
    flagged true = omega arith
    flagged false = omega arith
head-kind (line_block l) h = refl
head-kind (source s) h = refl
head-kind (relocation r) h = let a = h.0 in omega arith

module _ (k : ℕ) (b : Begins k) where
  of_record : (r : Record) → InWords r → total (indicator k) (record_words r) ≡ same k (kind_of r)
  unfolding indicator
  of_record r h =
      let rest = body_none k b (group_of r).1 (group_body r h) in
      ap (total (indicator k)) (group_words r) ∙ ap₂ (λ x n. same k x + n) (head-kind r h) rest ∙ omega arith

  of_records : (rs : List Record) → All InWords rs → total (indicator k) (flat_map record_words rs) ≡ total (λ r. same k (kind_of r)) rs
  unfolding flat_map
  of_records [] h = refl
  of_records (r ∷ rs) h =
      omega (arith, total_append (indicator k) (record_words r) (flat_map record_words rs), of_record r h.0, of_records rs h.1)

-- a sum of equal weights
alike : {A : Type 0} (n : ℕ) (xs : List A) → total (λ x. n) xs ≡ n * length xs
alike n [] = omega arith
alike n (x ∷ xs) = simp mul-suc (omega (arith, alike n xs))

alike_source : (k : ℕ) (s : Option (List ℕ)) → total (λ r. same k (kind_of r)) (source_records s) ≡ same k 4 * length (source_records s)
unfolding source_records
alike_source k none = omega arith
alike_source k (some s) = omega arith

pub same-counts : {a b c d e a' b' c' d' e' : ℕ} → a ≡ a' → b ≡ b' → c ≡ c' → d ≡ d' → e ≡ e'
    → ◌≡◌ {A = PartCounts} (record { blocks = a; labels = b; line_blocks = c; sources = d; relocations = e })
    (record { blocks = a'; labels = b'; line_blocks = c'; sources = d'; relocations = e' })
same-counts p q r s t = rw (p, q, r, s, t)

module _ (ws : List ℕ) (h : ObjectFile) (e : object_of ws ≡ given h) where
  -- how many elements each part has, where it is of the kind
  by_parts : (k : ℕ) → Begins k
      → of_kind k ws
      ≡ same k 0 * length h.blocks + same k 2 * length h.labels + same k 3 * length h.line_blocks
      + same k 4 * length (source_records h.source) + same k 5 * length h.relocations
  unfolding words_of
  by_parts k b =
      let w = words-only ws h e in
      ap (of_kind k) (sym w.0) ∙ is_total k (words_of h) ∙ of_records k b (records_of h) (range_records h w.2)
      ∙ omega (
        arith,
        total_records (λ r. same k (kind_of r)) h,
        alike (same k 0) h.blocks,
        alike (same k 2) h.labels,
        alike (same k 3) h.line_blocks,
        alike_source k h.source,
        alike (same k 5) h.relocations,
      )

  -- of a well formed object, the words that begin records are its elements
  pub parts-counted : part_counts ws ≡ counts_of h
  unfolding part_counts counts_of
  parts-counted =
      same-counts (by_parts 0 refl ∙ omega arith) (by_parts 2 refl ∙ omega arith) (by_parts 3 refl ∙ omega arith)
      (by_parts 4 refl ∙ omega arith) (by_parts 5 refl ∙ omega arith)

pub few-labels : (ws : List ℕ) → (part_counts ws).labels ≤ length ws
unfolding part_counts
few-labels ws = at_most_lem 2 ws
