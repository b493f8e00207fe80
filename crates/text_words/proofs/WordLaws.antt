-- The words of a row, part by part. Assumes nothing.
use mathlib.Core.Path.{◌≡◌, refl, sym, ap, ◌∙◌, subst}
use mathlib.Core.Bool.{true, false, not, true≢false}
use mathlib.Core.List.{List, [], ◌∷◌, map}
use mathlib.Core.Option.{Option, none, some}
use Prim.Native.Nat.{ℕ, zero, suc, ◌+◌, ◌-◌, ◌/◌, ◌%◌, ◌≤◌, ◌<◌, min}
use native.Mathlib.Omega.{arith}
use lib.ListN.{length, set, length-drop, length-map}
use lib.Dec.{eqb}
use borrow.Author.Tests.{eq-eqb, ne_eqb}
use Rattle.format.proofs.ListLaws.{by_test}
use Rattle.format.specs.Basics.{and_then, is_some}
use Rattle.format.specs.TextReader.{parse_decimal, maybe_hex2u16}
use Rattle.format.specs.Records.{label, relocation}
use Rattle.format.specs.Words.{word, memory_word, record_words}
use Rattle.trim.specs.Span.{part}
use Rattle.format.proofs.Counts.{label-length, relocation-length}
use borrow.Author.Rules.{part_to_end}
use Rattle.writing.proofs.Parts.{State, Emits, rest, begin, emit_one, room-one, has_room}
use Rattle.text_lines.specs.Groups.{parts_from, RowAt}
use Rattle.text_lines.proofs.RowLaws.{rows_on}
use Rattle.text_cells.proofs.NumberLaws.{number_small}
use Rattle.text_blocks.specs.Blocks.{words_in}
use Rattle.text_rows.specs.Rows.{or_zero, or_none, first_line, count_in, block_row, symbol_row, linker_row, label_row, row_in, row_at}
use Rattle.text_gather.specs.Keys.{line_at, cell_at, address_at, key_cell}
use Rattle.text_words.specs.declared.Entries.{Entries}
use Rattle.text_words.specs.Written.{external_at, index_at, symbol_words, entry_word, entries_from, EntriesOf, words_at}

-- what is left fits in the rest that is lent
pub rest-room : (whole room left : List ℕ) (s : State ℕ) → Emits whole room left s → length left ≤ length (rest s)
rest-room whole room left s f = omega (arith, has_room f, ap length (part_to_end s.out s.at), length-drop s.at s.out)

-- ENTRIES
pub known-word : (v : ℕ) → 0x2001_0000 + v ≡ memory_word (some v)
unfolding memory_word
known-word v = omega arith

pub unknown_word : 0x2000_0000 ≡ memory_word none
unfolding memory_word
unknown_word = refl

entry-on : (k : ℕ) (l : List ℕ) (ls : List (List ℕ)) → is_some (words_in (suc k) (l ∷ ls)) ≡ true
    → (is_some (words_in k ls) ≡ true) × (map memory_word (or_none (words_in (suc k) (l ∷ ls))) ≡ entry_word (maybe_hex2u16 l) ∷ map memory_word (or_none (words_in k ls)))
unfolding words_in is_some
entry-on k l ls h = go (maybe_hex2u16 l) (words_in k ls) h
  where
    go : (o : Option (Option ℕ)) (p : Option (List (Option ℕ))) → is_some (and_then o λ w. and_then p λ ws. some (w ∷ ws)) ≡ true
        → (is_some p ≡ true) × (map memory_word (or_none (and_then o λ w. and_then p λ ws. some (w ∷ ws))) ≡ entry_word o ∷ map memory_word (or_none p))
    go none p h = absurd (true≢false (sym h))
    go (some w) none h = absurd (true≢false (sym h))
    go (some w) (some ws) h = (refl, refl)

none-there : (k : ℕ) → is_some (words_in (suc k) []) ≡ true → ⊥
unfolding words_in is_some
none-there k h = true≢false (sym h)

words-length : (k : ℕ) (ls : List (List ℕ)) → is_some (words_in k ls) ≡ true → length (or_none (words_in k ls)) ≡ k
unfolding words_in is_some
words-length zero ls h = refl
words-length (suc k) [] h = absurd (true≢false (sym h))
words-length (suc k) (l ∷ ls) h = go (maybe_hex2u16 l) (words_in k ls) h (words-length k ls)
  where
    go : (o : Option (Option ℕ)) (p : Option (List (Option ℕ))) → is_some (and_then o λ w. and_then p λ ws. some (w ∷ ws)) ≡ true
        → (is_some p ≡ true → length (or_none p) ≡ k) → length (or_none (and_then o λ w. and_then p λ ws. some (w ∷ ws))) ≡ suc k
    go none p h ih = absurd (true≢false (sym h))
    go (some w) none h ih = absurd (true≢false (sym h))
    go (some w) (some ws) h ih = ap suc (ih refl)

pub entries-length : (t : List ℕ) (at n : ℕ) → is_some (words_in n (parts_from t at).before) ≡ true → length (map memory_word (entries_from t at n)) ≡ n
entries-length t at n h = length-map (entries_from t at n) memory_word ∙ words-length n (parts_from t at).before h

-- entries written so far
pub record Putting (t : List ℕ) (from n : ℕ) (room out : List ℕ) (i at : ℕ) : Type 0 where
  pub count : i ≤ n
  pub all : is_some (words_in (n - i) (parts_from t at).before) ≡ true
  pub emits : Emits (map memory_word (entries_from t from n)) room (map memory_word (entries_from t at (n - i))) (record { at = i; out = out })

pub putting_begin : (t : List ℕ) (from n : ℕ) (room : List ℕ) → n ≤ length room → is_some (words_in n (parts_from t from).before) ≡ true → Putting t from n room room 0 from
putting_begin t from n room h a =
    let z : n ≡ n - 0 = omega arith in
    let w : List ℕ = map memory_word (entries_from t from n) in
    record {
      count = omega arith;
      all = ap (λ (k : ℕ). is_some (words_in k (parts_from t from).before)) (sym z) ∙ a;
      emits = subst (λ (k : ℕ). Emits w room (map memory_word (entries_from t from k)) (record { at = 0; out = room })) z (begin w room (omega (arith, entries-length t from n a)));
    }

module _ (t : List ℕ) (from n : ℕ) (room out : List ℕ) (i at : ℕ) (s : Putting t from n room out i at) (h : i < n) where
  less : n - i ≡ suc (n - (i + 1))
  less = omega arith

  pub putting_none : (parts_from t at).before ≡ [] → ⊥
  putting_none e =
      none-there (n - (i + 1)) (ap (λ (ls : List (List ℕ)). is_some (words_in (suc (n - (i + 1))) ls)) (sym e) ∙ ap (λ (k : ℕ). is_some (words_in k (parts_from t at).before)) (sym less) ∙ s.all)

  module _ (a e m : ℕ) (l : RowAt t at a e m) (w : ℕ) (q : w ≡ entry_word (maybe_hex2u16 (part a e t))) where
    next-entry : (is_some (words_in (n - (i + 1)) (parts_from t m).before) ≡ true)
        × (map memory_word (entries_from t at (n - i)) ≡ w ∷ map memory_word (entries_from t m (n - (i + 1))))
    next-entry =
        let k = n - (i + 1) in
        let r = rows_on t at a e m l in
        let there : is_some (words_in (suc k) (part a e t ∷ (parts_from t m).before)) ≡ true =
        ap (λ (ls : List (List ℕ)). is_some (words_in (suc k) ls)) (sym r) ∙ ap (λ (j : ℕ). is_some (words_in j (parts_from t at).before)) (sym less) ∙ s.all in
        let g = entry-on k (part a e t) (parts_from t m).before there in (
          g.0,
          ap (λ (j : ℕ). map memory_word (entries_from t at j)) less ∙ ap (λ (ls : List (List ℕ)). map memory_word (or_none (words_in (suc k) ls))) r ∙ g.1
              ∙ ap (λ (x : ℕ). x ∷ map memory_word (entries_from t m k)) (sym q),
        )

    pub putting_room : i < length out
    putting_room = room-one s.emits w (map memory_word (entries_from t m (n - (i + 1)))) next-entry.1

    pub putting_on : Putting t from n room (set out i w) (i + 1) m
    putting_on =
        record { count = omega arith; all = next-entry.0; emits = emit_one s.emits w (map memory_word (entries_from t m (n - (i + 1)))) next-entry.1 }

pub putting_end : (t : List ℕ) (at n i : ℕ) → n ≤ i → map memory_word (entries_from t at (n - i)) ≡ []
unfolding words_in
putting_end t at n i h = let e : n - i ≡ 0 = omega arith in ap (λ (k : ℕ). map memory_word (entries_from t at k)) e

-- where a block's entries stand
no_words : (k : ℕ) → or_none (words_in k []) ≡ []
unfolding words_in
no_words zero = refl
no_words (suc k) = refl

not_some : {A : Type 0} (o : Option (List A)) → is_some o ≡ false → or_none o ≡ []
unfolding is_some
not_some none h = refl
not_some (some xs) h = absurd (true≢false h)

few-read : (bs : List ℕ) → or_zero (parse_decimal 65536 bs) < 65536
few-read bs = go (parse_decimal 65536 bs) refl
  where
    go : (o : Option ℕ) → parse_decimal 65536 bs ≡ o → or_zero o < 65536
    go none e = omega arith
    go (some v) e = number_small 10 65536 bs v e

module _ (t : List ℕ) (p : ℕ) where
  pub entries_none : (parts_from t p).before ≡ [] → EntriesOf t p (record { from = p; count = 0 })
  unfolding words_in is_some block_row
  entries_none e = record { all = refl; few = omega arith; same = sym (ap (λ (ls : List (List ℕ)). (block_row ls).words) e ∙ no_words (count_in [])) }

  module _ (a e n : ℕ) (l : RowAt t p a e n) where
    pub entries_uncounted : (parts_from t n).before ≡ [] → EntriesOf t p (record { from = n; count = 0 })
    unfolding words_in is_some block_row
    entries_uncounted z =
        record {
          all = refl;
          few = omega arith;
          same = sym (ap (λ (ls : List (List ℕ)). (block_row ls).words) (rows_on t p a e n l ∙ ap (λ (ls : List (List ℕ)). part a e t ∷ ls) z) ∙ no_words (count_in []));
        }

    module _ (b f m : ℕ) (k : RowAt t n b f m) (c : ℕ) (q : c ≡ or_zero (parse_decimal 65536 (part b f t))) where
      words_are : (block_row (parts_from t p).before).words ≡ entries_from t m c
      unfolding block_row count_in first_line
      words_are =
          ap (λ (ls : List (List ℕ)). (block_row ls).words) (rows_on t p a e n l ∙ ap (λ (ls : List (List ℕ)). part a e t ∷ ls) (rows_on t n b f m k))
          ∙ ap (λ (j : ℕ). entries_from t m j) (sym q)

      pub entries-all : is_some (words_in c (parts_from t m).before) ≡ true → EntriesOf t p (record { from = m; count = c })
      entries-all h = record { all = h; few = subst (λ (j : ℕ). j < 65536) (sym q) (few-read (part b f t)); same = sym words_are }

      pub entries-bad : is_some (words_in c (parts_from t m).before) ≡ false → EntriesOf t p (record { from = m; count = 0 })
      unfolding words_in is_some
      entries-bad h = record { all = refl; few = omega arith; same = sym (words_are ∙ not_some (words_in c (parts_from t m).before) h) }

-- ROWS by kind
pub block_words_lem : (t : List ℕ) (p a : ℕ) (ws : List (Option ℕ)) → a ≡ address_at 0 t p → ws ≡ (block_row (parts_from t p).before).words
    → words_at 0 t p ≡ a ∷ map memory_word ws
unfolding words_at row_at row_in record_words address_at cell_at line_at block_row
block_words_lem t p a ws e f =
    let w : word 0 (address_at 0 t p) ≡ a = omega (arith, e) in
    ap (λ (x : ℕ). x ∷ map memory_word (block_row (parts_from t p).before).words) w ∙ ap (λ (xs : List (Option ℕ)). a ∷ map memory_word xs) (sym f)

module _ (t : List ℕ) (p : ℕ) where
  pub symbol-words : (a n start : ℕ) (bs : List ℕ) → a ≡ address_at 2 t p → n ≡ or_zero (parse_decimal 256 (cell_at 2 t p 1)) → bs ≡ cell_at 2 t p 2
      → record_words (label (record { name = bs; address = a; external = not (eqb n 0); start = start })) ≡ symbol_words t p start
  unfolding symbol_words external_at
  symbol-words a n start bs e f g = rw (e, f, g) refl

module _ (kind : ℕ) (t : List ℕ) (p : ℕ) where
  pub row_block : kind ≡ 0 → words_at 0 t p ≡ words_at kind t p
  row_block e = ap (λ (k : ℕ). words_at k t p) (sym e)

  pub row-symbol : kind ≡ 1 → symbol_words t p 0 ≡ words_at kind t p
  unfolding symbol_words words_at row_at row_in address_at cell_at external_at line_at symbol_row
  row-symbol k = let z : kind ≡ 0 → ⊥ = λ h. omega arith in rw (ne_eqb kind 0 z, eq-eqb kind 1 k) refl

  pub row-linker : (a : ℕ) (bs : List ℕ) → (kind ≡ 0 → ⊥) → (kind ≡ 1 → ⊥) → kind ≡ 2 → a ≡ address_at 1 t p → bs ≡ cell_at 1 t p 1
      → record_words (relocation (record { address = a; name = bs })) ≡ words_at kind t p
  unfolding words_at row_at row_in address_at cell_at line_at linker_row
  row-linker a bs z o k e g = rw (e, g, ne_eqb kind 0 z, ne_eqb kind 1 o, eq-eqb kind 2 k) refl

  pub row-start : (i : ℕ) (bs : List ℕ) → (kind ≡ 0 → ⊥) → (kind ≡ 1 → ⊥) → (kind ≡ 2 → ⊥) → i ≡ index_at t p → bs ≡ cell_at 1 t p 0
      → record_words (label (record { name = bs; address = 0; external = false; start = i })) ≡ words_at kind t p
  unfolding words_at row_at row_in cell_at index_at line_at label_row
  row-start i bs z o w e g = rw (e, g, ne_eqb kind 0 z, ne_eqb kind 1 o, ne_eqb kind 2 w) refl

  -- and their lengths
  pub linker-words : (bs : List ℕ) → kind ≡ 2 → bs ≡ cell_at 1 t p 1 → 1 + (length bs + 2) / 3 ≡ length (words_at kind t p)
  linker-words bs k g =
      let z : kind ≡ 0 → ⊥ = λ h. omega arith in
      let o : kind ≡ 1 → ⊥ = λ h. omega arith in
      sym (relocation-length (record { address = address_at 1 t p; name = bs })) ∙ ap length (row-linker (address_at 1 t p) bs z o k refl g)

  pub label-words : (bs : List ℕ) → (kind ≡ 0 → ⊥) → (kind ≡ 2 → ⊥) → bs ≡ key_cell kind t p → 4 + (length bs + 2) / 3 ≡ length (words_at kind t p)
  unfolding key_cell words_at row_at row_in symbol_row label_row line_at cell_at
  label-words bs z w g =
      ap (λ (x : List ℕ). 4 + (length x + 2) / 3) g
      ∙ by_test (eqb kind 1)
      (λ u. rw (ne_eqb kind 0 z, u) (sym (label-length (symbol_row (line_at t p)))))
      (λ u. rw (ne_eqb kind 0 z, u, ne_eqb kind 2 w) (sym (label-length (label_row (line_at t p)))))

pub block-count : (kind : ℕ) (t : List ℕ) (p : ℕ) (e : Entries) → EntriesOf t p e → kind ≡ 0 → 1 + e.count ≡ length (words_at kind t p)
block-count kind t p e w k =
    let l : length (words_at 0 t p) ≡ suc e.count = ap length (block_words_lem t p (address_at 0 t p) _ refl w.same) ∙ ap suc (entries-length t e.from e.count w.all) in
    omega (arith, l, ap (λ (j : ℕ). length (words_at j t p)) k)

-- words of three bytes each, the last one perhaps of fewer
pub thirds : (n : ℕ) → n / 3 + min 1 (n % 3) ≡ (n + 2) / 3
thirds n = omega arith
