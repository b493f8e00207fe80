-- Dividers and cells at places.
-- Assumes nothing.
use mathlib.Core.Path.{◌≡◌, refl, sym, ap, ◌∙◌, subst}
use mathlib.Core.Bool.{Bool, true, false, true≢false, ◌&&◌}
use mathlib.Core.List.{List, [], ◌∷◌}
use mathlib.Core.Option.{Option, none, some}
use Prim.Native.Nat.{ℕ, zero, suc, ◌+◌, ◌-◌, ◌≤◌, ◌<◌}
use native.Mathlib.Omega.{arith}
use lib.ListN.{length, take, drop, get_or, length-drop, drop_of_length-le}
use lib.Seq.{drop-length, take-nil, get_or-drop}
use lib.Dec.{ltb, eqb}
use borrow.Author.Tests.{ne_eqb, eqb-true, eqb-false, ltb-true, ltb-false}
use Rattle.format.specs.Basics.{begins_with, ascii}
use Rattle.format.specs.TextReader as reader
use Rattle.format.specs.TextReader.{split_once, splitn}
use Rattle.trim.specs.Span.{Spans}
use Rattle.text_cells.specs.Cells.{bar_at, Cut}
use Rattle.std.specs.Prelude.{Some, None}
use Rattle.text_lines.proofs.TestLaws.{by_test, front, and_no, drop_more}
use Rattle.text_lines.proofs.LineLaws.{to_end}

-- A DIVIDER at a place
three : (s : List ℕ) (p : ℕ) → p + 2 < length s → drop p s ≡ get_or s p 0 ∷ get_or s (p + 1) 0 ∷ get_or s (p + 2) 0 ∷ drop (p + 2 + 1) s
three s p h =
    let k : p + 1 + 1 ≡ p + 2 = omega arith in
    front 0 s p (omega arith)
    ∙ ap (λ (l : List ℕ). get_or s p 0 ∷ l) (front 0 s (p + 1) (omega arith) ∙ ap (λ (l : List ℕ). get_or s (p + 1) 0 ∷ l) (ap (λ (j : ℕ). drop j s) k ∙ front 0 s (p + 2) h))

module _ (s : List ℕ) (p : ℕ) (h : p + 2 < length s) where
  pub bar_yes : get_or s p 0 ≡ 0x20 → get_or s (p + 1) 0 ≡ 0x7C → get_or s (p + 2) 0 ≡ 0x20 → bar_at s p ≡ true
  unfolding begins_with
  bar_yes a b c = rw (three s p h, a, b, c)

  pub bar_no0 : (get_or s p 0 ≡ 0x20 → ⊥) → bar_at s p ≡ false
  unfolding begins_with
  bar_no0 a = rw (three s p h, ne_eqb 0x20 (get_or s p 0) (λ q. a (sym q)))

  pub bar_no1 : (get_or s (p + 1) 0 ≡ 0x7C → ⊥) → bar_at s p ≡ false
  unfolding begins_with
  bar_no1 a = rw (three s p h, ne_eqb 0x7C (get_or s (p + 1) 0) (λ q. a (sym q))) (and_no (eqb 0x20 (get_or s p 0)))

  pub bar_no2 : (get_or s (p + 2) 0 ≡ 0x20 → ⊥) → bar_at s p ≡ false
  unfolding begins_with
  bar_no2 a =
      rw (three s p h, ne_eqb 0x20 (get_or s (p + 2) 0) (λ q. a (sym q)))
      (ap (λ (t : Bool). eqb 0x20 (get_or s p 0) && t) (and_no (eqb 0x7C (get_or s (p + 1) 0))) ∙ and_no (eqb 0x20 (get_or s p 0)))

  -- by its bytes
  pub bar_last : get_or s p 0 ≡ 0x20 → get_or s (p + 1) 0 ≡ 0x7C → eqb (get_or s (p + 2) 0) 0x20 ≡ bar_at s p
  bar_last a b =
      by_test (eqb (get_or s (p + 2) 0) 0x20) (λ t. t ∙ sym (bar_yes a b (eqb-true (get_or s (p + 2) 0) 0x20 t)))
      (λ t. t ∙ sym (bar_no2 (eqb-false (get_or s (p + 2) 0) 0x20 t)))

  bar_space : bar_at s p ≡ true → get_or s p 0 ≡ 0x20
  bar_space e =
      by_test (eqb (get_or s p 0) 0x20) (λ t. eqb-true (get_or s p 0) 0x20 t)
      (λ t. absurd (true≢false (sym e ∙ bar_no0 (eqb-false (get_or s p 0) 0x20 t))))

  -- its bytes
  pub bar_bytes : bar_at s p ≡ true → (get_or s p 0 ≡ 0x20) × (get_or s (p + 1) 0 ≡ 0x7C) × (get_or s (p + 2) 0 ≡ 0x20)
  bar_bytes e = (
    bar_space e,
    by_test (eqb (get_or s (p + 1) 0) 0x7C) (λ t. eqb-true (get_or s (p + 1) 0) 0x7C t)
        (λ t. absurd (true≢false (sym e ∙ bar_no1 (eqb-false (get_or s (p + 1) 0) 0x7C t)))),
    by_test (eqb (get_or s (p + 2) 0) 0x20) (λ t. eqb-true (get_or s (p + 2) 0) 0x20 t)
        (λ t. absurd (true≢false (sym e ∙ bar_no2 (eqb-false (get_or s (p + 2) 0) 0x20 t)))),
  )

-- too few bytes
short : (bs : List ℕ) → length bs < 3 → begins_with (0x20 ∷ 0x7C ∷ 0x20 ∷ []) bs ≡ false
unfolding begins_with
short [] h = refl
short (a ∷ []) h = and_no (eqb 0x20 a)
short (a ∷ b ∷ []) h = ap (λ (t : Bool). eqb 0x20 a && t) (and_no (eqb 0x7C b)) ∙ and_no (eqb 0x20 a)
short (a ∷ b ∷ c ∷ bs) h = absurd (omega arith)

pub bar_short : (s : List ℕ) (p : ℕ) → length s - p < 3 → bar_at s p ≡ false
bar_short s p h = short (drop p s) (omega (arith, length-drop p s))

-- the first divider, or none
pub cut_at : (s : List ℕ) (i : ℕ) → i < length s → ((p : ℕ) → p < i → bar_at s p ≡ false) → bar_at s i ≡ true → split_once s ≡ some (take i s, drop (i + 3) s)
unfolding split_once ascii
cut_at [] i l n y = absurd (omega arith)
cut_at (b ∷ bs) zero l n y = rw y
cut_at (b ∷ bs) (suc i) l n y =
    let r = cut_at bs i (omega arith) (λ p h. n (suc p) (omega arith)) y in
    let k : suc i + 3 ≡ suc (i + 3) = omega arith in
    rw (n 0 (omega arith), r) (ap (λ (j : ℕ). some (b ∷ take i bs, drop j (b ∷ bs))) (sym k))

pub cut_none : (s : List ℕ) → ((p : ℕ) → p < length s → bar_at s p ≡ false) → split_once s ≡ none
unfolding split_once ascii
cut_none [] n = refl
cut_none (b ∷ bs) n = rw (n 0 (omega arith), cut_none bs (λ p h. n (suc p) (omega arith)))

-- a cell of four bytes, and a divider
four : (s : List ℕ) → 6 < length s → (get_or s 1 0 ≡ 0x7C → ⊥) → (get_or s 2 0 ≡ 0x7C → ⊥) → (get_or s 3 0 ≡ 0x7C → ⊥)
    → bar_at s 4 ≡ true → split_once s ≡ some (take 4 s, drop 7 s)
four s h a b c d = cut_at s 4 (omega arith) before d
  where
    before : (p : ℕ) → p < 4 → bar_at s p ≡ false
    before zero l = bar_no1 s 0 (omega arith) a
    before (suc zero) l = bar_no1 s 1 (omega arith) b
    before (suc (suc zero)) l = bar_no1 s 2 (omega arith) c
    before (suc (suc (suc zero))) l = bar_no1 s 3 (omega arith) (λ q. omega (arith, bar_space s 4 (omega arith) d))
    before (suc (suc (suc (suc p)))) l = absurd (omega arith)

pub four-wide : (s : List ℕ) (at : ℕ) → at + 7 ≤ length s → (get_or s (at + 1) 0 ≡ 0x7C → ⊥) → (get_or s (at + 2) 0 ≡ 0x7C → ⊥)
    → (get_or s (at + 3) 0 ≡ 0x7C → ⊥) → bar_at s (at + 4) ≡ true
    → split_once (drop at s) ≡ some (take 4 (drop at s), drop 7 (drop at s))
four-wide s at h a b c d =
    four (drop at s) (omega (arith, length-drop at s)) (λ q. a (sym (get_or-drop at s 1 0) ∙ q)) (λ q. b (sym (get_or-drop at s 2 0) ∙ q))
    (λ q. c (sym (get_or-drop at s 3 0) ∙ q)) (ap (begins_with (0x20 ∷ 0x7C ∷ 0x20 ∷ [])) (drop_more s at 4) ∙ d)

-- cells
module _ (bs : List ℕ) where
  pub cells_cut : (k p : ℕ) → split_once bs ≡ some (take p bs, drop (p + 3) bs) → splitn (suc k) bs ≡ take p bs ∷ splitn k (drop (p + 3) bs)
  unfolding splitn
  cells_cut k p e = rw e

  pub cells_last : (k : ℕ) → split_once bs ≡ none → splitn (suc k) bs ≡ bs ∷ []
  unfolding splitn
  cells_last k e = rw e

  pub cells_whole : splitn 0 bs ≡ bs ∷ []
  unfolding splitn
  cells_whole = refl

-- two cells of four bytes
module _ (bs : List ℕ) (e : split_once bs ≡ some (take 4 bs, drop 7 bs)) where
  pub first-four : take 4 bs ≡ get_or (splitn 2 bs) 0 []
  first-four = sym (ap (λ (l : List (List ℕ)). get_or l 0 []) (cells_cut bs 1 4 e))

  pub second-four : split_once (drop 7 bs) ≡ some (take 4 (drop 7 bs), drop 7 (drop 7 bs)) → take 4 (drop 7 bs) ≡ get_or (splitn 2 bs) 1 []
  second-four f =
      sym (ap (λ (l : List (List ℕ)). get_or l 1 []) (cells_cut bs 1 4 e) ∙ ap (λ (l : List (List ℕ)). get_or l 0 []) (cells_cut (drop 7 bs) 0 4 f))

  pub third-four : split_once (drop 7 bs) ≡ some (take 4 (drop 7 bs), drop 7 (drop 7 bs)) → drop 14 bs ≡ get_or (splitn 2 bs) 2 []
  third-four f =
      sym (ap (λ (l : List (List ℕ)). get_or l 2 []) (cells_cut bs 1 4 e) ∙ ap (λ (l : List (List ℕ)). get_or l 1 []) (cells_cut (drop 7 bs) 0 4 f)
      ∙ ap (λ (l : List (List ℕ)). get_or l 0 []) (cells_whole (drop 7 (drop 7 bs))) ∙ drop_more bs 7 7)

-- a cell, cut by cut
module _ (bs : List ℕ) where
  pub cell_none0 : (cuts j : ℕ) → cuts ≡ 0 → 0 < j → get_or (splitn cuts bs) j [] ≡ []
  unfolding splitn
  cell_none0 zero zero e h = absurd (omega arith)
  cell_none0 zero (suc j) e h = refl
  cell_none0 (suc k) j e h = absurd (omega arith)

  pub cell_none1 : (cuts j : ℕ) → (cuts ≡ 0 → ⊥) → split_once bs ≡ none → 0 < j → get_or (splitn cuts bs) j [] ≡ []
  cell_none1 zero j e c h = absurd (e refl)
  cell_none1 (suc k) zero e c h = absurd (omega arith)
  cell_none1 (suc k) (suc j) e c h = ap (λ (l : List (List ℕ)). get_or l (suc j) []) (cells_last bs k c)

  pub cell-on : (cuts j p : ℕ) → (cuts ≡ 0 → ⊥) → split_once bs ≡ some (take p bs, drop (p + 3) bs) → 0 < j → get_or (splitn cuts bs) j [] ≡ get_or (splitn (cuts - 1) (drop (p + 3) bs)) (j - 1) []
  cell-on zero j p e c h = absurd (e refl)
  cell-on (suc k) zero p e c h = absurd (omega arith)
  cell-on (suc k) (suc j) p e c h =
      let a : suc k - 1 ≡ k = omega arith in
      let b : suc j - 1 ≡ j = omega arith in
      ap (λ (l : List (List ℕ)). get_or l (suc j) []) (cells_cut bs k p c)
      ∙ sym (ap (λ (x : ℕ). get_or (splitn x (drop (p + 3) bs)) (suc j - 1) []) a ∙ ap (λ (x : ℕ). get_or (splitn k (drop (p + 3) bs)) x []) b)

  pub cell_last0 : (cuts j : ℕ) → cuts ≡ 0 → j ≤ 0 → get_or (splitn cuts bs) j [] ≡ bs
  unfolding splitn
  cell_last0 zero zero e h = refl
  cell_last0 zero (suc j) e h = absurd (omega arith)
  cell_last0 (suc k) j e h = absurd (omega arith)

  pub cell_last1 : (cuts j : ℕ) → (cuts ≡ 0 → ⊥) → split_once bs ≡ none → j ≤ 0 → get_or (splitn cuts bs) j [] ≡ bs
  cell_last1 zero j e c h = absurd (e refl)
  cell_last1 (suc k) zero e c h = ap (λ (l : List (List ℕ)). get_or l 0 []) (cells_last bs k c)
  cell_last1 (suc k) (suc j) e c h = absurd (omega arith)

  pub cell_cut : (cuts j p : ℕ) → (cuts ≡ 0 → ⊥) → split_once bs ≡ some (take p bs, drop (p + 3) bs) → j ≤ 0 → get_or (splitn cuts bs) j [] ≡ take p bs
  cell_cut zero j p e c h = absurd (e refl)
  cell_cut (suc k) zero p e c h = ap (λ (l : List (List ℕ)). get_or l 0 []) (cells_cut bs k p c)
  cell_cut (suc k) (suc j) p e c h = absurd (omega arith)

-- the first cell of no bytes
once_none : split_once [] ≡ none
unfolding split_once
once_none = refl

pub cell-past : (s : List ℕ) (at k : ℕ) → length s < at → [] ≡ get_or (splitn k (drop at s)) 0 []
cell-past s at k h =
    let e : drop at s ≡ [] = drop_of_length-le s {i = at} (omega arith) in
    sym (ap (λ (l : List ℕ). get_or (splitn k l) 0 []) e
    ∙ by_test (eqb k 0) (λ t. cell_last0 [] k 0 (eqb-true k 0 t) (omega arith)) (λ t. cell_last1 [] k 0 (eqb-false k 0 t) once_none (omega arith)))

-- past the last cut there is no cell
missing_after : (o : Option (List ℕ × List ℕ)) (bs : List ℕ) (k j : ℕ) → ((rest : List ℕ) → get_or (splitn k rest) j [] ≡ [])
    → get_or (reader.first_cell bs (λ rest. splitn k rest) o) (suc j) [] ≡ []
missing_after none bs k j f = refl
missing_after (some p) bs k j f = f p.1

pub cell_missing : (k i : ℕ) (bs : List ℕ) → k < i → get_or (splitn k bs) i [] ≡ []
unfolding splitn
cell_missing zero zero bs h = absurd (omega arith)
cell_missing zero (suc i) bs h = refl
cell_missing (suc k) zero bs h = absurd (omega arith)
cell_missing (suc k) (suc i) bs h = missing_after (split_once bs) bs k i (λ rest. cell_missing k i rest (omega arith))

-- what was found in the rest of the row
pub none-there : (s : List ℕ) (at : ℕ) → Cut (take (length s - at) (drop at s)) None → split_once (drop at s) ≡ none
none-there s at h = subst (λ (l : List ℕ). Cut l None) (to_end s at) h

pub some_there : (s : List ℕ) (at p : ℕ) → Cut (take (length s - at) (drop at s)) (Some p) → Cut (drop at s) (Some p)
some_there s at p h = subst (λ (l : List ℕ). Cut l (Some p)) (to_end s at) h

-- spans of cells
module _ (s : List ℕ) (x : List ℕ) where
  pub spans-none : [] ≡ x → Spans s (length s) (length s) x
  spans-none e =
      record { ordered = omega arith; inside = omega arith; same = ap (take (length s - length s)) (drop-length s) ∙ take-nil (length s - length s) ∙ e }

  pub spans-rest : (at : ℕ) → at ≤ length s → drop at s ≡ x → Spans s at (length s) x
  spans-rest at h e = record { ordered = h; inside = omega arith; same = to_end s at ∙ e }

  pub spans-first : (at p : ℕ) → at ≤ length s → p + 3 ≤ length (drop at s) → take p (drop at s) ≡ x → Spans s at (at + p) x
  spans-first at p h k e =
      let m : at + p - at ≡ p = omega arith in
      record { ordered = omega arith; inside = omega (arith, length-drop at s); same = ap (λ (j : ℕ). take j (drop at s)) m ∙ e }

pub bars_more : (s : List ℕ) (i : ℕ) → ((p : ℕ) → p < i → bar_at s p ≡ false) → bar_at s i ≡ false → (p : ℕ) → p < i + 1 → bar_at s p ≡ false
bars_more s i n e p h = by_test (ltb p i) (λ t. n p (ltb-true p i t)) (λ t. let q : p ≡ i = omega (arith, ltb-false p i t) in ap (bar_at s) q ∙ e)

pub bars_end : (s : List ℕ) (i : ℕ) → ((p : ℕ) → p < i → bar_at s p ≡ false) → length s - i ≤ 2 → (p : ℕ) → p < length s → bar_at s p ≡ false
bars_end s i n h p l = by_test (ltb p i) (λ t. n p (ltb-true p i t)) (λ t. bar_short s p (omega (arith, ltb-false p i t)))
