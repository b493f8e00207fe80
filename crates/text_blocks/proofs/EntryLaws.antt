-- An entry of four bytes: by a table of what each stands for. Assumes nothing.
use Rattle.std.proofs.Common.{◌≡◌, ℕ, zero, suc, ◌+◌, ◌-◌, ◌*◌, ◌<◌, ◌≤◌, Bool, true, false, ◌&&◌, eqb, ltb, List, [], ◌∷◌, length, get_or, take, drop, sym, refl, ap, ◌∙◌, subst, arith, ltb-false, ltb-true, le-ltb, lt-ltb, eq-eqb, ne_eqb, eqb-true}
use mathlib.Core.Option.{none, some}
use borrow.Author.Tests.{eqb-false}
use Rattle.format.specs.Basics.{eqs}
use Rattle.format.specs.TextReader.{digits_from, maybe_hex2u16}
use Rattle.format.specs.Words.{memory_word}
use Rattle.trim.specs.Span.{part}
use Rattle.text_cells.specs.Cells.{digit_or16}
use Rattle.text_cells.proofs.NumberLaws.{from_on, hex_four, entry_unknown, entry_hex}
use Rattle.text_lines.specs.Lines.{is_four_long}
use Rattle.text_lines.proofs.ShortLaws.{four-fits, short_row}
use Rattle.text_lines.proofs.TestLaws.{by_test, front, within_low, within-high}
use Rattle.text_blocks.specs.Blocks.{entry_digit, table_from, is_table, EntryAt, four_word, short_entry, ShortEntry}

-- THE TABLE, by one test of all its bytes
both_left : (a b : Bool) → (a && b) ≡ true → a ≡ true
both_left true b e = refl
both_left false b e = e

both_right : (a b : Bool) → (a && b) ≡ true → b ≡ true
both_right true b e = e
both_right false b e = let z : ◌≡◌ {A = ℕ} 0 1 = cc in absurd (omega arith)

table_from_lem : (xs : List ℕ) (i : ℕ) → table_from i xs ≡ true → (k : ℕ) → k < length xs → get_or xs k 0 ≡ entry_digit (i + k)
unfolding table_from
table_from_lem [] i e k h = absurd (omega arith)
table_from_lem (x ∷ xs) i e zero h =
    let z : i ≡ i + 0 = omega arith in
    eqb-true x (entry_digit i) (both_left (eqb x (entry_digit i)) (table_from (suc i) xs) e) ∙ ap entry_digit z
table_from_lem (x ∷ xs) i e (suc k) h =
    let z : suc i + k ≡ i + suc k = omega arith in
    table_from_lem xs (suc i) (both_right (eqb x (entry_digit i)) (table_from (suc i) xs) e) k (omega arith) ∙ ap entry_digit z

pub table_is : (xs : List ℕ) → is_table xs ≡ true → (b : ℕ) → b < 256 → get_or xs b 0 ≡ entry_digit b
unfolding is_table
table_is xs e b h =
    let l = eqb-true (length xs) 256 (both_left (eqb (length xs) 256) (table_from 0 xs) e) in
    let z : 0 + b ≡ b = omega arith in
    table_from_lem xs 0 (both_right (eqb (length xs) 256) (table_from 0 xs) e) b (omega arith) ∙ ap entry_digit z

-- WHAT A BYTE STANDS FOR
pub is_digit : (b : ℕ) → entry_digit b < 61 → (digit_or16 b ≡ entry_digit b) × (entry_digit b < 16)
unfolding entry_digit
is_digit b h =
    by_test (eqb b 63)
    (λ t. let z : entry_digit b ≡ 61 = rw t refl in absurd (omega arith))
    (λ t. by_test (ltb (digit_or16 b) 16)
    (λ u. rw (t, u) (refl, ltb-true (digit_or16 b) 16 u))
    (λ u. let z : entry_digit b ≡ 255 = rw (t, u) refl in absurd (omega arith)))

pub is_unknown : (b : ℕ) → 60 < entry_digit b → entry_digit b < 255 → b ≡ 63
unfolding entry_digit
is_unknown b l h =
    by_test (eqb b 63)
    (λ t. eqb-true b 63 t)
    (λ t. by_test (ltb (digit_or16 b) 16)
    (λ u. let z : entry_digit b ≡ digit_or16 b = rw (t, u) refl in absurd (omega (arith, ltb-true (digit_or16 b) 16 u)))
    (λ u. let z : entry_digit b ≡ 255 = rw (t, u) refl in absurd (omega arith)))

not-over : (b : ℕ) → entry_digit b < 255 → entry_digit b ≤ 61
unfolding entry_digit
not-over b h =
    by_test (eqb b 63)
    (λ t. let z : entry_digit b ≡ 61 = rw t refl in omega arith)
    (λ t. by_test (ltb (digit_or16 b) 16)
    (λ u. let z : entry_digit b ≡ digit_or16 b = rw (t, u) refl in omega (arith, ltb-true (digit_or16 b) 16 u))
    (λ u. let z : entry_digit b ≡ 255 = rw (t, u) refl in absurd (omega arith)))

digit_from : (b : ℕ) → digit_or16 b < 16 → (0x30 ≤ b) × (b ≤ 0x66) × (b ≡ 63 → ⊥)
unfolding digit_or16
digit_from b h =
    by_test (ltb b 48)
    (λ t. let l = ltb-true b 48 t in
    let z : digit_or16 b ≡ 16 = simp (within_low 48 57 b (omega arith), within_low 65 70 b (omega arith), within_low 97 102 b (omega arith)) in
    absurd (omega arith))
    (λ t. by_test (ltb 102 b)
    (λ u. let l = ltb-true 102 b u in
    let z : digit_or16 b ≡ 16 = simp (within-high 48 57 b (omega arith), within-high 65 70 b (omega arith), within-high 97 102 b (omega arith)) in
    absurd (omega arith))
    (λ u. (ltb-false b 48 t, ltb-false 102 b u, λ e. let z : digit_or16 b ≡ 16 = ap digit_or16 e in omega arith)))

-- FOUR BYTES
part-four : (t : List ℕ) (at : ℕ) → at + 4 ≤ length t
    → part at (at + 4) t ≡ get_or t at 0 ∷ get_or t (at + 1) 0 ∷ get_or t (at + 2) 0 ∷ get_or t (at + 3) 0 ∷ []
part-four t at h =
    let n : at + 4 - at ≡ 4 = omega arith in
    let p : at + 1 + 1 ≡ at + 2 = omega arith in
    let q : at + 2 + 1 ≡ at + 3 = omega arith in
    ap (λ (k : ℕ). take k (drop at t)) n
    ∙ ap (take 4)
    (front 0 t at (omega arith)
    ∙ ap (λ (l : List ℕ). get_or t at 0 ∷ l) (front 0 t (at + 1) (omega arith) ∙ ap (λ (j : ℕ). get_or t (at + 1) 0 ∷ drop j t) p
    ∙ ap (λ (l : List ℕ). get_or t (at + 1) 0 ∷ l) (front 0 t (at + 2) (omega arith) ∙ ap (λ (j : ℕ). get_or t (at + 2) 0 ∷ drop j t) q
    ∙ ap (λ (l : List ℕ). get_or t (at + 2) 0 ∷ l) (front 0 t (at + 3) (omega arith)))))

read_digits : (p q r s a b c d : ℕ) → a ≡ digit_or16 p → b ≡ digit_or16 q → c ≡ digit_or16 r → d ≡ digit_or16 s
    → a < 16 → b < 16 → c < 16 → d < 16 → some (some (((a * 16 + b) * 16 + c) * 16 + d)) ≡ maybe_hex2u16 (p ∷ q ∷ r ∷ s ∷ [])
unfolding eqs
read_digits p q r s a b c d ea eb ec ed la lb lc ld =
    let l : List ℕ = p ∷ q ∷ r ∷ s ∷ [] in
    let v : (((0 * 16 + digit_or16 p) * 16 + digit_or16 q) * 16 + digit_or16 r) * 16 + digit_or16 s ≡ ((a * 16 + b) * 16 + c) * 16 + d = omega arith in
    let e : digits_from 16 0 l ≡ digits_from 16 (((a * 16 + b) * 16 + c) * 16 + d) (drop 4 l) =
    from_on 16 0 l 0 (omega arith) (omega arith) ∙ from_on 16 _ l 1 (omega arith) (omega arith) ∙ from_on 16 _ l 2 (omega arith) (omega arith)
    ∙ from_on 16 _ l 3 (omega arith) (omega arith) ∙ ap (λ (n : ℕ). digits_from 16 n (drop 4 l)) v in
    entry_hex l (some (((a * 16 + b) * 16 + c) * 16 + d))
    (simp (ne_eqb p 63 (digit_from p (omega arith)).2))
    (hex_four l (((a * 16 + b) * 16 + c) * 16 + d) refl (omega arith) (sym e))

module _ (t : List ℕ) (at : ℕ) (l : at + 5 ≤ length t) (lf : get_or t (at + 4) 0 ≡ 0x0A) (a b c d : ℕ)
    (ea : a ≡ entry_digit (get_or t at 0)) (eb : b ≡ entry_digit (get_or t (at + 1) 0)) (ec : c ≡ entry_digit (get_or t (at + 2) 0))
    (ed : d ≡ entry_digit (get_or t (at + 3) 0)) where
  pub entry_digits : a + b + c + d < 61 → EntryAt t at (0x2001_0000 + (((a * 16 + b) * 16 + c) * 16 + d))
  unfolding memory_word
  entry_digits h =
      let pa = is_digit (get_or t at 0) (omega arith) in
      let pb = is_digit (get_or t (at + 1) 0) (omega arith) in
      let pc = is_digit (get_or t (at + 2) 0) (omega arith) in
      let pd = is_digit (get_or t (at + 3) 0) (omega arith) in
      let fa = digit_from (get_or t at 0) (omega arith) in
      let fb = digit_from (get_or t (at + 1) 0) (omega arith) in
      let fc = digit_from (get_or t (at + 2) 0) (omega arith) in
      let fd = digit_from (get_or t (at + 3) 0) (omega arith) in
      record {
        row = short_row t at l (omega arith) (omega arith) (λ e. omega arith) (λ e. omega arith) (omega arith) lf;
        entry = some (((a * 16 + b) * 16 + c) * 16 + d);
        read = read_digits _ _ _ _ a b c d (ea ∙ sym pa.0) (eb ∙ sym pb.0) (ec ∙ sym pc.0) (ed ∙ sym pd.0) (omega arith) (omega arith) (omega arith) (omega arith)
            ∙ ap maybe_hex2u16 (sym (part-four t at (omega arith)));
        made = omega arith;
      }

  pub entry_unread : a + b + c + d ≡ 244 → EntryAt t at 0x2000_0000
  unfolding memory_word eqs
  entry_unread h =
      let ba = not-over (get_or t at 0) (omega arith) in
      let bb = not-over (get_or t (at + 1) 0) (omega arith) in
      let bc = not-over (get_or t (at + 2) 0) (omega arith) in
      let bd = not-over (get_or t (at + 3) 0) (omega arith) in
      let fa = is_unknown (get_or t at 0) (omega arith) (omega arith) in
      let fb = is_unknown (get_or t (at + 1) 0) (omega arith) (omega arith) in
      let fc = is_unknown (get_or t (at + 2) 0) (omega arith) (omega arith) in
      let fd = is_unknown (get_or t (at + 3) 0) (omega arith) (omega arith) in
      let four : part at (at + 4) t ≡ 63 ∷ 63 ∷ 63 ∷ 63 ∷ [] = part-four t at (omega arith) ∙ rw (fa, fb, fc, fd) refl in
      record {
        row = short_row t at l (omega arith) (omega arith) (λ e. omega arith) (λ e. omega arith) (omega arith) lf;
        entry = none;
        read = entry_unknown (part at (at + 4) t) (ap (λ (x : List ℕ). eqs x (63 ∷ 63 ∷ 63 ∷ 63 ∷ [])) four);
        made = refl;
      }

-- THE WORD, by the sum
module _ (a b c d : ℕ) where
  pub word_digits : a + b + c + d < 61 → 0x2001_0000 + (((a * 16 + b) * 16 + c) * 16 + d) ≡ four_word a b c d
  unfolding four_word
  word_digits h = simp (lt-ltb (a + b + c + d) 61 h)

  pub word_unread : 61 ≤ a + b + c + d → a + b + c + d ≡ 244 → 0x2000_0000 ≡ four_word a b c d
  unfolding four_word
  word_unread l e = simp (le-ltb (a + b + c + d) 61 l, eq-eqb (a + b + c + d) 244 e)

  pub word_none : 61 ≤ a + b + c + d → (a + b + c + d ≡ 244 → ⊥) → 0 ≡ four_word a b c d
  unfolding four_word
  word_none l e = simp (le-ltb (a + b + c + d) 61 l, ne_eqb (a + b + c + d) 244 e)

pub short_none : (digits t : List ℕ) (at : ℕ) → is_four_long t at ≡ false → 0 ≡ short_entry digits t at
unfolding short_entry
short_none digits t at f = simp f

pub short-word : (digits t : List ℕ) (at : ℕ) → is_four_long t at ≡ true → (a b c d : ℕ)
    → a ≡ get_or digits (get_or t at 0) 0 → b ≡ get_or digits (get_or t (at + 1) 0) 0 → c ≡ get_or digits (get_or t (at + 2) 0) 0
    → d ≡ get_or digits (get_or t (at + 3) 0) 0 → four_word a b c d ≡ short_entry digits t at
unfolding short_entry
short-word digits t at f a b c d ea eb ec ed =
    ap (λ (x : ℕ). four_word x b c d) ea ∙ ap (λ (x : ℕ). four_word (get_or digits (get_or t at 0) 0) x c d) eb
    ∙ ap (λ (x : ℕ). four_word (get_or digits (get_or t at 0) 0) (get_or digits (get_or t (at + 1) 0) 0) x d) ec
    ∙ ap (four_word (get_or digits (get_or t at 0) 0) (get_or digits (get_or t (at + 1) 0) 0) (get_or digits (get_or t (at + 2) 0) 0)) ed ∙ simp f

-- what the word says, of bytes
pub short-entry_at : (digits t : List ℕ) (at w : ℕ) → ((k : ℕ) → get_or t k 0 < 256) → w ≡ short_entry digits t at → ShortEntry digits t at w
short-entry_at digits t at w bytes e table some_word =
    by_test (is_four_long t at)
    (λ f.
    let four = four-fits t at f in
    let a : ℕ = get_or digits (get_or t at 0) 0 in
    let b : ℕ = get_or digits (get_or t (at + 1) 0) 0 in
    let c : ℕ = get_or digits (get_or t (at + 2) 0) 0 in
    let d : ℕ = get_or digits (get_or t (at + 3) 0) 0 in
    let q : w ≡ four_word a b c d = e ∙ sym (short-word digits t at f a b c d refl refl refl refl) in
    let is : (k : ℕ) → get_or digits (get_or t k 0) 0 ≡ entry_digit (get_or t k 0) = λ k. table_is digits table (get_or t k 0) (bytes k) in
    by_test (ltb (a + b + c + d) 61)
    (λ u.
    let l = ltb-true (a + b + c + d) 61 u in
    subst (EntryAt t at) (word_digits a b c d l ∙ sym q)
    (entry_digits t at four.0 four.1 a b c d (is at) (is (at + 1)) (is (at + 2)) (is (at + 3)) l))
    (λ u.
    let l = ltb-false (a + b + c + d) 61 u in
    by_test (eqb (a + b + c + d) 244)
    (λ v.
    let z = eqb-true (a + b + c + d) 244 v in
    subst (EntryAt t at) (word_unread a b c d l z ∙ sym q)
    (entry_unread t at four.0 four.1 a b c d (is at) (is (at + 1)) (is (at + 2)) (is (at + 3)) z))
    (λ v. absurd (some_word (q ∙ sym (word_none a b c d l (eqb-false (a + b + c + d) 244 v)))))))
    (λ f. absurd (some_word (e ∙ sym (short_none digits t at f))))
