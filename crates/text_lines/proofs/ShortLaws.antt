-- The line at a place by its bytes: a line of four bytes, and whether the group has a line left. Assumes nothing.
use mathlib.Core.Path.{◌≡◌, refl, sym, ap, ◌∙◌, subst}
use mathlib.Core.Bool.{true, false, true≢false, not}
use mathlib.Core.List.{List, [], ◌∷◌}
use Prim.Native.Nat.{ℕ, zero, suc, ◌+◌, ◌-◌, ◌≤◌, ◌<◌}
use native.Mathlib.Omega.{arith}
use lib.ListN.{length, drop, get_or, length-drop}
use lib.Seq.{get_or-drop, get_or-take}
use lib.Dec.{eqb, ltb}
use borrow.Author.Tests.{lt-ltb, le-ltb, eq-eqb, ne_eqb, eqb-true, eqb-false, ltb-true, ltb-false}
use Rattle.std.specs.Prelude.{Option, Some, None}
use Rattle.std.specs.Option.{is_some}
use Rattle.format.specs.Basics.{ascii, begins_with, is_empty}
use Rattle.format.specs.Utf8.{char_at, is_white_space, trim_from, trim_start, is_blank}
use Rattle.format.specs.TextReader.{lines}
use Rattle.trim.specs.Span.{part}
use Rattle.text_lines.specs.Lines.{line_length, LineAt, is_kept, is_four_long}
use Rattle.text_lines.specs.Groups.{parts_from, RowAt, NextRow, Spaces, ShowsRow}
use Rattle.text_lines.specs.declared.Line.{Line}
use Rattle.text_lines.proofs.LineLaws.{line-here, line_on, line-fits, line_lf, line_crlf, line-last, kept-yes, length_part, begins_at}
use Rattle.text_lines.proofs.RowLaws.{row_line, rows_on}
use Rattle.text_lines.proofs.TestLaws.{by_test, within_low, within-high}

-- before a line's end there is no LF
no_lf : (bs : List ℕ) (i : ℕ) → i < line_length bs → get_or bs i 0 ≡ 0x0A → ⊥
unfolding line_length
no_lf [] i h e = omega arith
no_lf (b ∷ bs) zero h e = let z : 0 < 0 = simp (eq-eqb b 0x0A e) at h in omega arith
no_lf (b ∷ bs) (suc i) h e =
    by_test (eqb b 0x0A)
    (λ t. let z : suc i < 0 = simp t at h in omega arith)
    (λ t. let z : suc i < suc (line_length bs) = simp t at h in no_lf bs i (omega arith) e)

-- a line that is not the last ends at LF
stops : (bs : List ℕ) → line_length bs < length bs → get_or bs (line_length bs) 0 ≡ 0x0A
unfolding line_length
stops [] h = absurd (omega arith)
stops (b ∷ bs) h =
    by_test (eqb b 0x0A)
    (λ t. simp t (eqb-true b 0x0A t))
    (λ t. let z : suc (line_length bs) < suc (length bs) = simp t at h in simp t (stops bs (omega arith)))

module _ (t : List ℕ) (at : ℕ) (h : at < length t) where
  abbrev end : ℕ
  end = at + line_length (drop at t)

  fits : end ≤ length t
  fits = omega (arith, line-fits (drop at t), length-drop at t)

  inner : (i : ℕ) → at ≤ i → i < end → get_or t i 0 ≡ 0x0A → ⊥
  inner i l k e =
      let m : at + (i - at) ≡ i = omega arith in
      no_lf (drop at t) (i - at) (omega arith) (get_or-drop at t (i - at) 0 ∙ ap (λ (j : ℕ). get_or t j 0) m ∙ e)

  lf : end < length t → (i : ℕ) → i + 1 ≡ end + 1 → get_or t i 0 ≡ 0x0A
  lf b i q =
      let z : i ≡ at + line_length (drop at t) = omega arith in
      ap (λ (j : ℕ). get_or t j 0) z ∙ sym (get_or-drop at t (line_length (drop at t)) 0) ∙ stops (drop at t) (omega (arith, length-drop at t))

  -- a byte up to which there is no LF is before the LF
  reach : (i : ℕ) → i < length t → ((j : ℕ) → at ≤ j → j ≤ i → get_or t j 0 ≡ 0x0A → ⊥) → i < end
  reach i k n =
      by_test (ltb i end)
      (λ w. ltb-true i end w)
      (λ w. let g : end ≤ i = ltb-false i end w in absurd (n end (omega arith) g (lf (omega arith) end refl)))

  -- the line at a place: it has no LF before its last byte, and has the bytes up to the first LF or CR
  pub line-there : {P : Type 0} → ((e n : ℕ) → LineAt lines t at at e n → ((i : ℕ) → at ≤ i → i + 1 < n → get_or t i 0 ≡ 0x0A → ⊥)
      → ((i : ℕ) → i < length t → ((j : ℕ) → at ≤ j → j ≤ i → get_or t j 0 ≡ 0x0A → ⊥) → (get_or t i 0 ≡ 0x0D → ⊥) → i < e) → (n < length t → (i : ℕ) → i + 1 ≡ n → get_or t i 0 ≡ 0x0A) → P) → P
  line-there k =
      by_test (eqb end (length t))
      (λ w. k end end (line-last t at end (omega arith) refl h (eqb-true end (length t) w)) (λ i l m e. inner i l (omega arith) e) (λ i g m _. reach i g m)
      (λ x. let z = eqb-true end (length t) w in absurd (omega arith)))
      (λ w.
      let b : end < length t = let n = eqb-false end (length t) w in omega (arith, fits) in
      by_test (ltb at end)
      (λ u.
      let g : at < end = ltb-true at end u in
      by_test (eqb (get_or t (end - 1) 0) 0x0D)
      (λ v. k (end - 1) (end + 1) (line_crlf t at end (omega arith) refl g b (eqb-true _ _ v)) (λ i l m e. inner i l (omega arith) e)
      (λ i x m y.
      let c : (i ≡ end - 1) → ⊥ = λ q. y (ap (λ (j : ℕ). get_or t j 0) q ∙ eqb-true _ _ v) in
      let r : i < end = reach i x m in omega arith) (λ _. lf b))
      (λ v. k end (end + 1) (line_lf t at end (omega arith) refl b (λ _ q. eqb-false _ _ v q)) (λ i l m e. inner i l (omega arith) e) (λ i g m _. reach i g m) (λ _. lf b)))
      (λ u.
      let g : end ≤ at = ltb-false at end u in
      k end (end + 1) (line_lf t at end (omega arith) refl b (λ x _. absurd (omega arith))) (λ i l m e. inner i l (omega arith) e) (λ i g m _. reach i g m) (λ _. lf b)))

-- a line's bytes
part_byte : (t : List ℕ) (a e k : ℕ) → k < e - a → get_or (part a e t) k 0 ≡ get_or t (a + k) 0
part_byte t a e k l = get_or-take (e - a) (drop a t) k 0 l ∙ get_or-drop a t k 0

pub first_byte_lem : (t : List ℕ) (a e : ℕ) → a < e → get_or (part a e t) 0 0 ≡ get_or t a 0
first_byte_lem t a e h = let z : a + 0 ≡ a = omega arith in part_byte t a e 0 (omega arith) ∙ ap (λ (j : ℕ). get_or t j 0) z

-- A LINE IS KEPT by its first byte past spaces
module _ (b : ℕ) (low : 0x21 ≤ b) (high : b ≤ 0x7E) where
  not_white : is_white_space b ≡ false
  unfolding is_white_space
  not_white =
      simp (
        within-high 0x9 0xD b (omega arith),
        ne_eqb b 0x20 (λ q. omega arith),
        ne_eqb b 0x85 (λ q. omega arith),
        ne_eqb b 0xA0 (λ q. omega arith),
        ne_eqb b 0x1680 (λ q. omega arith),
        within_low 0x2000 0x200A b (omega arith),
        ne_eqb b 0x2028 (λ q. omega arith),
        ne_eqb b 0x2029 (λ q. omega arith),
        ne_eqb b 0x202F (λ q. omega arith),
        ne_eqb b 0x205F (λ q. omega arith),
        ne_eqb b 0x3000 (λ q. omega arith),
      )

  not_blank : (bs : List ℕ) → is_blank (b ∷ bs) ≡ false
  unfolding is_blank trim_start trim_from char_at is_empty
  not_blank bs = simp (lt-ltb b 0x80 (omega arith), not_white)

past-spaces : (k : ℕ) (bs : List ℕ) → k < length bs → ((i : ℕ) → i < k → get_or bs i 0 ≡ 0x20) → 0x21 ≤ get_or bs k 0 → get_or bs k 0 ≤ 0x7E → is_blank bs ≡ false
unfolding is_blank trim_start trim_from char_at is_white_space
past-spaces zero [] h s l u = absurd (omega arith)
past-spaces zero (b ∷ bs) h s l u = not_blank b l u bs
past-spaces (suc k) [] h s l u = absurd (omega arith)
past-spaces (suc k) (b ∷ bs) h s l u =
    let e : 0x20 ≡ b = sym (s 0 (omega arith)) in
    let ih : is_blank bs ≡ false = past-spaces k bs (omega arith) (λ i j. s (suc i) (omega arith)) l u in
    subst (λ (x : ℕ). is_blank (x ∷ bs) ≡ false) e ih

kept_by : (bs : List ℕ) → begins_with (35 ∷ []) bs ≡ false → is_blank bs ≡ false → is_kept bs ≡ true
unfolding is_kept ascii
kept_by bs t u = simp (t, u)

-- A LINE OF FOUR BYTES that belongs to the group by its first
module _ (t : List ℕ) (at : ℕ) (h : at + 5 ≤ length t) (low : 0x2F ≤ get_or t at 0) (high : get_or t at 0 ≤ 0x7E) (b1 : get_or t (at + 1) 0 ≡ 0x0A → ⊥)
    (b2 : get_or t (at + 2) 0 ≡ 0x0A → ⊥) (b3 : 0x0E ≤ get_or t (at + 3) 0) (b4 : get_or t (at + 4) 0 ≡ 0x0A) where
  four : line_length (drop at t) ≡ 4
  four =
      let p : at + 1 + 1 ≡ at + 2 = omega arith in
      let q : at + 2 + 1 ≡ at + 3 = omega arith in
      let r : at + 3 + 1 ≡ at + 4 = omega arith in
      line_on t at (omega arith) (λ e. omega arith)
      ∙ ap suc (line_on t (at + 1) (omega arith) b1 ∙ ap (λ (j : ℕ). suc (line_length (drop j t))) p
      ∙ ap suc (line_on t (at + 2) (omega arith) b2 ∙ ap (λ (j : ℕ). suc (line_length (drop j t))) q
      ∙ ap suc (line_on t (at + 3) (omega arith) (λ e. omega arith) ∙ ap (λ (j : ℕ). suc (line_length (drop j t))) r
      ∙ ap suc (line-here t (at + 4) (omega arith) b4))))

  line : LineAt lines t at at (at + 4) (at + 4 + 1)
  line =
      line_lf t at (at + 4) (omega arith) (omega (arith, four)) (omega arith)
      (λ _ e. let z : at + 4 - 1 ≡ at + 3 = omega arith in let w : get_or t (at + 3) 0 ≡ 0x0D = ap (λ (j : ℕ). get_or t j 0) (sym z) ∙ e in omega arith)

  abbrev row : List ℕ
  row = part at (at + 4) t

  long : length row ≡ 4
  long = length_part at (at + 4) t (omega arith) (omega arith) ∙ omega arith

  front_byte : get_or row 0 0 ≡ get_or t at 0
  front_byte = first_byte_lem t at (at + 4) (omega arith)

  no_byte : (x : ℕ) → x < 0x2F → begins_with (x ∷ []) row ≡ false
  no_byte x l = sym (begins_at x row (omega (arith, long))) ∙ ne_eqb x (get_or row 0 0) (λ e. omega (arith, front_byte))

  pub short_row : RowAt t at at (at + 4) (at + 4 + 1)
  short_row =
      row_line t at at (at + 4) (at + 4 + 1)
      (kept-yes t at at (at + 4) (at + 4 + 1) line
      (kept_by row (no_byte 35 (omega arith))
      (past-spaces 0 row (omega (arith, long)) (λ i j. absurd (omega arith)) (omega (arith, front_byte)) (omega (arith, front_byte)))))
      (no_byte 46 (omega arith))

-- AN LF FOUR BYTES AFTER A PLACE
pub four-short : (t : List ℕ) (at : ℕ) → length t < at + 5 → false ≡ is_four_long t at
unfolding is_four_long
four-short t at h = simp (lt-ltb (length t) (at + 5) h)

pub four-there : (t : List ℕ) (at : ℕ) → at + 5 ≤ length t → eqb (get_or t (at + 4) 0) 0x0A ≡ is_four_long t at
unfolding is_four_long
four-there t at h = simp (le-ltb (length t) (at + 5) h)

pub four-fits : (t : List ℕ) (at : ℕ) → is_four_long t at ≡ true → (at + 5 ≤ length t) × (get_or t (at + 4) 0 ≡ 0x0A)
four-fits t at e =
    by_test (ltb (length t) (at + 5))
    (λ w. absurd (true≢false (sym e ∙ sym (four-short t at (ltb-true (length t) (at + 5) w)))))
    (λ w. let l = ltb-false (length t) (at + 5) w in (l, eqb-true (get_or t (at + 4) 0) 0x0A (four-there t at l ∙ e)))

-- WHETHER THE GROUP HAS A LINE LEFT, by the first byte past spaces
module _ (t : List ℕ) (at i : ℕ) (h : i < length t) (l : at ≤ i) (s : (j : ℕ) → at ≤ j → j < i → get_or t j 0 ≡ 0x20)
    (low : 0x21 ≤ get_or t i 0) (high : get_or t i 0 ≤ 0x7E) (c : at ≡ i → (get_or t i 0 ≡ 0x23 → ⊥) × (get_or t i 0 ≡ 0x2E → ⊥)) where
  pub row-left : is_empty (parts_from t at).before ≡ false
  unfolding is_empty
  row-left =
      line-there t at (omega arith) λ e n ln inner full last.
      let j : i < e =
      full i h
      (λ j p q x. by_test (ltb j i) (λ w. let y = s j p (ltb-true j i w) in omega arith)
      (λ w. let z : j ≡ i = omega (arith, ltb-false j i w) in let y : get_or t i 0 ≡ 0x0A = ap (λ (k : ℕ). get_or t k 0) (sym z) ∙ x in omega arith))
      (λ x. omega arith) in
      let z : at + (i - at) ≡ i = omega arith in
      let b : get_or (part at e t) (i - at) 0 ≡ get_or t i 0 = part_byte t at e (i - at) (omega arith) ∙ ap (λ (k : ℕ). get_or t k 0) z in
      let w : 0 < length (part at e t) = omega (arith, length_part at e t ln.ordered (omega (arith, ln.inside, ln.next))) in
      let no : (x : ℕ) → (x ≡ 0x20 → ⊥) → (at ≡ i → get_or t i 0 ≡ x → ⊥) → begins_with (x ∷ []) (part at e t) ≡ false =
      λ x n m. sym (begins_at x (part at e t) w)
      ∙ ne_eqb x (get_or (part at e t) 0 0) (λ q.
      let y : x ≡ get_or t at 0 = q ∙ first_byte_lem t at e (omega arith) in
      by_test (eqb at i)
      (λ u. let v : at ≡ i = eqb-true at i u in m v (ap (λ (k : ℕ). get_or t k 0) (sym v) ∙ sym y))
      (λ u. let v = eqb-false at i u in n (y ∙ s at (omega arith) (omega arith)))) in
      let k : is_kept (part at e t) ≡ true =
      kept_by (part at e t) (no 35 (λ q. omega arith) (λ u. (c u).0))
      (past-spaces (i - at) (part at e t) (omega (arith, length_part at e t ln.ordered (omega (arith, ln.inside, ln.next))))
      (λ m q. part_byte t at e m (omega arith) ∙ s (at + m) (omega arith) (omega arith)) (omega arith) (omega arith)) in
      ap (λ (ls : List (List ℕ)). is_empty ls)
      (rows_on t at at e n (row_line t at at e n (kept-yes t at at e n ln k) (no 46 (λ q. omega arith) (λ u. (c u).1))))

pub row_some : (t : List ℕ) (at a e n : ℕ) → RowAt t at a e n → true ≡ not (is_empty (parts_from t at).before)
unfolding is_empty
row_some t at a e n l = ap (λ (ls : List (List ℕ)). not (is_empty ls)) (sym (rows_on t at a e n l))

pub row-end : (t : List ℕ) (at : ℕ) → (parts_from t at).before ≡ [] → false ≡ not (is_empty (parts_from t at).before)
unfolding is_empty
row-end t at e = ap (λ (ls : List (List ℕ)). not (is_empty ls)) (sym e)

pub row-seen :
    (t : List ℕ) (at : ℕ) (r : Option Line) → NextRow t at r → is_some r ≡ not (is_empty (parts_from t at).before)
row-seen t at (Some l) row = row_some t at l.start l.end l.next row
row-seen t at None end = row-end t at end

-- a line is kept
pub kept_shown : (s : List ℕ) (i : ℕ) → i < length s → Spaces s 0 i → ShowsRow (get_or s i 0) (ltb 0 i) → true ≡ is_kept s
kept_shown s i h p w =
    sym
    (kept_by s
    (by_test (ltb 0 i)
    (λ u. sym (begins_at 35 s (omega arith)) ∙ ne_eqb 35 (get_or s 0 0) (λ q. let z = p.1 0 (omega arith) (ltb-true 0 i u) in omega arith))
    (λ u.
    let z : i ≡ 0 = omega (arith, ltb-false 0 i u) in
    sym (begins_at 35 s (omega arith)) ∙ ne_eqb 35 (get_or s 0 0) (λ q. (w.2 u).0 (ap (λ (k : ℕ). get_or s k 0) z ∙ sym q))))
    (past-spaces i s h (λ j k. p.1 j (omega arith) k) w.0 w.1))
