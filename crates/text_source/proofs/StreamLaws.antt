-- The source column at a cursor.
-- Assumes nothing.
use Rattle.std.specs.Prelude.{min}
use Rattle.std.proofs.Common.{◌≡◌, ℕ, suc, ◌+◌, ◌-◌, ◌<◌, ◌≤◌, ltb, List, [], ◌∷◌, ◌++◌, length, get_or, take, drop, sym, refl, ap, ◌∙◌, arith, length-drop, take_all, ltb-false, ltb-true, le-ltb}
use mathlib.Core.List.{flat_map}
use Rattle.trim.specs.Span.{part, Spans}
use Rattle.text_lines.specs.Views.{StepAt}
use Rattle.text_tables.specs.Debug.{Groups, line_view}
use Rattle.text_source.specs.Stream.{source_cell, source_from, at_most}
use Rattle.text_lines.proofs.TestLaws.{by_test, front}
use Rattle.text_lines.proofs.LineLaws.{spans-inside, to_end}

pub part_front : (t : List ℕ) (a e : ℕ) → a < e → e ≤ length t → part a e t ≡ get_or t a 0 ∷ part (a + 1) e t
part_front t a e h k =
    let m : e - a ≡ suc (e - (a + 1)) = omega arith in
    ap (take (e - a)) (front 0 t a (omega arith)) ∙ ap (λ (j : ℕ). take j (get_or t a 0 ∷ drop (a + 1) t)) m

pub part_end : (t : List ℕ) (a e : ℕ) → e ≤ a → part a e t ≡ []
part_end t a e h = let m : e - a ≡ 0 = omega arith in ap (λ (j : ℕ). take j (drop a t)) m

pub source-on : (t : List ℕ) (at a e n : ℕ) → StepAt (line_view t) t at a e n → source_from t at ≡ source_cell (part a e t) ++ source_from t n
unfolding source_from flat_map
source-on t at a e n l = ap (λ (p : List (List ℕ) × Groups). flat_map source_cell p.0) l.same

pub source-none : (t : List ℕ) (at : ℕ) → (line_view t at).0 ≡ [] → source_from t at ≡ []
unfolding source_from flat_map
source-none t at e = ap (flat_map source_cell) e

-- a cell's end past the text is the text's end
pub part_most : (t : List ℕ) (a e : ℕ) → part a (at_most e (length t)) t ≡ part a e t
unfolding at_most
part_most t a e =
    by_test (ltb (length t) e)
    (λ h. let k : length t < e = ltb-true (length t) e h in simp h (to_end t a ∙ sym (take_all (e - a) (drop a t) (omega (arith, length-drop a t)))))
    (λ h. simp h)

pub most_same : (e most : ℕ) → e ≤ most → e ≡ at_most e most
unfolding at_most
most_same e most h = simp (le-ltb most e h)

-- it is the smaller of the two
pub most-min : (e most : ℕ) → min e most ≡ at_most e most
unfolding at_most
most-min e most = by_test (ltb most e) (λ h. let k : most < e = ltb-true most e h in simp h (omega arith)) (λ h. let k : e ≤ most = ltb-false most e h in simp h (omega arith))

pub at_most_lem : (e most : ℕ) → at_most e most ≤ most
unfolding at_most
at_most_lem e most = by_test (ltb most e) (λ h. simp h (omega arith)) (λ h. let k : e ≤ most = ltb-false most e h in simp h k)

module _ (t : List ℕ) (at end next : ℕ) (bs : List ℕ) (q : part at end t ++ source_from t next ≡ bs) where
  pub byte_here : at < end → end ≤ length t → bs ≡ get_or t at 0 ∷ (part (at + 1) end t ++ source_from t next)
  byte_here h k = sym q ∙ ap (λ (p : List ℕ). p ++ source_from t next) (part_front t at end h k)

  pub byte_none : end ≤ at → (line_view t next).0 ≡ [] → bs ≡ []
  byte_none h e = sym q ∙ ap (λ (p : List ℕ). p ++ source_from t next) (part_end t at end h) ∙ source-none t next e

  pub byte_later : end ≤ at → (a e n x y : ℕ) → StepAt (line_view t) t next a e n → Spans (part a e t) x y (source_cell (part a e t))
      → (a + x ≤ a + y) × (a + y ≤ length t) × (part (a + x) (a + y) t ++ source_from t n ≡ bs)
  byte_later h a e n x y l s =
      let o : Spans t a e (part a e t) = record { ordered = l.ordered; inside = l.inside; same = refl } in
      let p = spans-inside t a e (part a e t) x y (source_cell (part a e t)) o s in (
        p.ordered,
        p.inside,
        ap (λ (z : List ℕ). z ++ source_from t n) p.same ∙ sym (source-on t next a e n l) ∙ sym (ap (λ (z : List ℕ). z ++ source_from t next) (part_end t at end h)) ∙ q,
      )
