-- Lines passed over many at a time, up to one that begins with `.`. Assumes nothing.
use mathlib.Core.Path.{◌≡◌, refl, sym, ap, ◌∙◌, subst}
use mathlib.Core.Bool.{true, false, ◌&&◌}
use mathlib.Core.List.{List, [], ◌∷◌}
use Prim.Native.Nat.{ℕ, zero, suc, ◌+◌, ◌-◌, ◌≤◌, ◌<◌}
use native.Mathlib.Omega.{arith}
use lib.ListN.{length, get_or}
use lib.Dec.{eqb, ltb}
use Rattle.std.proofs.lemmas.Bool.Decides.{nat_tests}
use borrow.Author.Tests.{ne_eqb, eqb-true, eqb-false, ltb-true, ltb-false}
use Rattle.format.specs.Basics.{ascii, begins_with, is_empty}
use Rattle.format.specs.Utf8.{char_at, is_white_space, trim_from, trim_start, is_blank}
use Rattle.format.specs.TextReader.{lines}
use Rattle.format.specs.Tokens.{Parts, parts_at}
use Rattle.trim.specs.Span.{part}
use Rattle.text_lines.specs.Lines.{LineAt, is_kept}
use Rattle.text_lines.specs.Groups.{parts_from}
use Rattle.text_lines.proofs.LineLaws.{line-done, kept-yes, kept_no, kept-done, length_part, begins_at, begins-none}
use Rattle.text_lines.proofs.ShortLaws.{line-there, first_byte_lem}
use Rattle.text_lines.proofs.RowLaws.{row_line, row-none, row-groups, parts-done, parts_of}
use Rattle.text_lines.proofs.TestLaws.{by_test}
use Rattle.text_rows.specs.Steps.{Headless, DotAfter, GroupEnd}

module _ (t : List ℕ) (at e n : ℕ) (l : LineAt lines t at at e n) where
  not_dot : (get_or t at 0 ≡ 0x2E → ⊥) → begins_with (46 ∷ []) (part at e t) ≡ false
  not_dot d =
      by_test (eqb (length (part at e t)) 0)
      (λ w. sym (begins-none 46 (part at e t) (eqb-true _ _ w)))
      (λ w.
      let p : 0 < length (part at e t) = let z = eqb-false (length (part at e t)) 0 w in omega arith in
      sym (begins_at 46 (part at e t) p) ∙ ap (eqb 46) (first_byte_lem t at e (omega (arith, length_part at e t l.ordered (omega (arith, l.inside, l.next)))))
      ∙ ne_eqb 46 (get_or t at 0) (λ q. d (sym q)))

  -- a line that begins with no `.` leaves the groups after it
  line-groups : (get_or t at 0 ≡ 0x2E → ⊥) → (parts_from t n).groups ≡ (parts_from t at).groups
  unfolding parts_from
  line-groups d =
      by_test (is_kept (part at e t))
      (λ w. row-groups t at at e n (row_line t at at e n (kept-yes t at at e n l w) (not_dot d)))
      (λ w. ap (λ (ls : List (List ℕ)). (parts_at (begins_with (ascii ".")) ls).groups) (sym (kept_no t at at e n l w)))

kept_dot : (bs : List ℕ) → begins_with (46 ∷ []) bs ≡ true → is_kept bs ≡ true
unfolding is_kept is_blank trim_start trim_from char_at is_white_space begins_with ascii is_empty
kept_dot [] e = e
kept_dot (b ∷ bs) e =
    by_test (eqb 46 b)
    (λ w. let q : 46 ≡ b = eqb-true 46 b w in subst (λ (x : ℕ). is_kept (x ∷ bs) ≡ true) q refl)
    (λ w. let z : false ≡ true = simp w at e in let y : ◌≡◌ {A = ℕ} 0 1 = cc in absurd (omega arith))

-- where a line begins with `.`, the group has no line left
pub dot_none : (t : List ℕ) (at : ℕ) → at < length t → get_or t at 0 ≡ 0x2E → (parts_from t at).before ≡ []
dot_none t at h d =
    line-there t at h λ e n l none full last.
    let g : at < e =
    full at h (λ j p q x. let z : j ≡ at = omega arith in let y : get_or t at 0 ≡ 0x0A = ap (λ (k : ℕ). get_or t k 0) (sym z) ∙ x in omega arith)
    (λ x. omega arith) in
    let p : 0 < length (part at e t) = omega (arith, length_part at e t l.ordered (omega (arith, l.inside, l.next))) in
    let b : begins_with (46 ∷ []) (part at e t) ≡ true =
    sym (begins_at 46 (part at e t) p) ∙ ap (eqb 46) (first_byte_lem t at e (omega (arith, length_part at e t l.ordered (omega (arith, l.inside, l.next)))) ∙ d) in
    row-none t at at e n (kept-yes t at at e n l (kept_dot (part at e t) b)) b

end_none : (t : List ℕ) (at : ℕ) → length t ≤ at → (parts_from t at).before ≡ []
end_none t at h = ap (λ (p : Parts (List ℕ)). p.before) (parts-done t at (kept-done t at (line-done t at h)))

module _ (t : List ℕ) (q : ℕ) (in_text : q ≤ length t) where
  -- lines up to one that begins with `.`, or up to the end, leave the groups after them
  skip_groups : (f at : ℕ) → q - at ≤ f → at ≤ q → (at < q → get_or t at 0 ≡ 0x2E → ⊥)
      → ((i : ℕ) → at ≤ i → i + 1 < q → get_or t i 0 ≡ 0x0A → get_or t (i + 1) 0 ≡ 0x2E → ⊥)
      → (q < length t → (i : ℕ) → i + 1 ≡ q → at ≤ i → get_or t i 0 ≡ 0x0A)
      → (parts_from t q).groups ≡ (parts_from t at).groups
  skip_groups zero at m h d none lf = let z : q ≡ at = omega arith in ap (λ (j : ℕ). (parts_from t j).groups) z
  skip_groups (suc f) at m h d none lf =
      by_test (ltb at q)
      (λ w.
      let g : at < q = ltb-true at q w in
      line-there t at (omega arith) λ e n l inner full last.
      let k : n ≤ q =
      by_test (ltb q n)
      (λ u.
      let x : q < n = ltb-true q n u in
      let y : q - 1 + 1 ≡ q = omega arith in
      absurd (inner (q - 1) (omega arith) (omega arith) (lf (omega (arith, l.next)) (q - 1) y (omega arith))))
      (λ u. ltb-false q n u) in
      let r : (parts_from t q).groups ≡ (parts_from t n).groups =
      skip_groups f n (omega (arith, l.on)) k
      (λ x y.
      let z : n - 1 + 1 ≡ n = omega (arith, l.on) in
      none (n - 1) (omega (arith, l.on)) (omega arith) (last (omega (arith, in_text)) (n - 1) z) (ap (λ (j : ℕ). get_or t j 0) z ∙ y))
      (λ i a. none i (omega (arith, l.on)))
      (λ x i y a. lf x i y (omega (arith, l.on))) in
      r ∙ line-groups t at e n l (d g))
      (λ w. let z : q ≡ at = omega (arith, ltb-false at q w) in ap (λ (j : ℕ). (parts_from t j).groups) z)

-- where the group ends
module _ (t : List ℕ) (at : ℕ) where
  pub group_past : length t ≤ at → GroupEnd t at at
  group_past h = record { from = omega arith; same = parts_of t at _ (end_none t at h) refl }

  pub group_dot : at < length t → get_or t at 0 ≡ 0x2E → GroupEnd t at at
  group_dot h d = record { from = omega arith; same = parts_of t at _ (dot_none t at h d) refl }

  pub group_next : (q : ℕ) → (get_or t at 0 ≡ 0x2E → ⊥) → DotAfter t at q → GroupEnd t at q
  group_next q d a =
      record {
        from = a.from;
        same = parts_of t q _
            (by_test (ltb q (length t))
            (λ w. dot_none t q (ltb-true q (length t) w) (a.there (ltb-true q (length t) w)).0)
            (λ w. end_none t q (ltb-false q (length t) w)))
            (skip_groups t q a.inside (q - at) at (omega arith) a.from (λ _. d) a.none (λ x i y _. ((a.there x).1 i y).1));
      }

-- one byte more
pub headless_more : (t : List ℕ) (a e : ℕ) → Headless t a e → (get_or t e 0 ≡ 0x0A → get_or t (e + 1) 0 ≡ 0x2E → ⊥) → Headless t a (e + 1)
headless_more t a e h n i p q x y =
    by_test (ltb i e)
    (λ w. h i p (ltb-true i e w) x y)
    (λ w.
    let z : i ≡ e = omega (arith, ltb-false i e w) in
    n (ap (λ (j : ℕ). get_or t j 0) (sym z) ∙ x) (ap (λ (j : ℕ). get_or t (j + 1) 0) (sym z) ∙ y))

pub headless_join : (t : List ℕ) (a b e : ℕ) → Headless t a b → Headless t b e → Headless t a e
headless_join t a b e h k i p q x y = by_test (ltb i b) (λ w. h i p (ltb-true i b w) x y) (λ w. k i (ltb-false i b w) q x y)

-- an LF before a `.`
head-yes : (a b : ℕ) → true ≡ (eqb a 0x0A && eqb b 0x2E) → (a ≡ 0x0A) × (b ≡ 0x2E)
head-yes a b e = grind (arith, nat_tests)

head-no : (a b : ℕ) → false ≡ (eqb a 0x0A && eqb b 0x2E) → a ≡ 0x0A → b ≡ 0x2E → ⊥
head-no a b e f g = grind (arith, nat_tests)

module _ (t : List ℕ) (at i : ℕ) (v : (at < i) × Headless t at (i - 1)) where
  pub dot_there : i < length t → true ≡ (eqb (get_or t (i - 1) 0) 0x0A && eqb (get_or t i 0) 0x2E) → DotAfter t at i
  dot_there h e =
      let d = head-yes (get_or t (i - 1) 0) (get_or t i 0) e in
      record {
        from = omega arith;
        inside = omega arith;
        none = λ j p q. v.1 j p (omega arith);
        there = λ _. (d.1, λ j q. let z : j ≡ i - 1 = omega arith in (omega arith, ap (λ (k : ℕ). get_or t k 0) z ∙ d.0));
      }

  pub headless_next : false ≡ (eqb (get_or t (i - 1) 0) 0x0A && eqb (get_or t i 0) 0x2E) → Headless t at (i + 1 - 1)
  headless_next e =
      let z : i - 1 + 1 ≡ i = omega arith in
      let y : i - 1 + 1 ≡ i + 1 - 1 = omega arith in
      subst (Headless t at) y
      (headless_more t at (i - 1) v.1 (λ p q. head-no (get_or t (i - 1) 0) (get_or t i 0) e p (ap (λ (k : ℕ). get_or t k 0) (sym z) ∙ q)))

  pub dot_end : at ≤ length t → length t ≤ i → DotAfter t at (length t)
  dot_end h l =
      record { from = h; inside = omega arith; none = λ j p q. v.1 j p (omega arith); there = λ z. absurd (omega arith) }
