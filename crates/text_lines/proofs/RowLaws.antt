-- A kept line belongs to the group, or opens the next.
-- Assumes nothing.
use mathlib.Core.Path.{◌≡◌, sym, ap, ◌∙◌}
use mathlib.Core.Bool.{true, false}
use mathlib.Core.List.{List, [], ◌∷◌}
use Prim.Native.Nat.{ℕ}
use native.Mathlib.Omega.{arith}
use lib.ListN.{drop}
use Rattle.format.specs.Basics.{ascii, begins_with, is_empty}
use Rattle.format.specs.Tokens.{Parts, head_of, body_of, parts_at}
use Rattle.trim.specs.Span.{part}
use Rattle.text_lines.specs.Lines.{kept, LineAt}
use Rattle.text_lines.specs.Groups.{parts_from, RowAt, HeadAt, kind_of}

module _ (t : List ℕ) (at a e n : ℕ) (l : LineAt kept t at a e n) where
  body_same : begins_with (46 ∷ []) (part a e t) ≡ false → parts_from t at ≡ body_of (part a e t) (parts_from t n)
  unfolding parts_from parts_at ascii
  body_same h = ap (parts_at (begins_with (46 ∷ []))) l.same ∙ simp h

  pub row_line : begins_with (46 ∷ []) (part a e t) ≡ false → RowAt t at a e n
  row_line h =
      record {
        ordered = l.ordered;
        inside = omega (arith, l.inside, l.next);
        on = l.on;
        next = l.next;
        same = ap (λ (p : Parts (List ℕ)). (p.before, p.groups)) (body_same h);
      }

  head-same : begins_with (46 ∷ []) (part a e t) ≡ true → parts_from t at ≡ head_of (part a e t) (parts_from t n)
  unfolding parts_from parts_at ascii
  head-same h = ap (parts_at (begins_with (46 ∷ []))) l.same ∙ simp h

  pub head-line : (k : ℕ) → begins_with (46 ∷ []) (part a e t) ≡ true → k ≡ kind_of (part a e t) → HeadAt t at k n
  head-line k h q = record { on = l.on; next = l.next; name = part a e t; kind = q; same = head-same h }

  -- where a head stands, no line of a group is left
  pub row-none : begins_with (46 ∷ []) (part a e t) ≡ true → (parts_from t at).before ≡ []
  row-none h = ap (λ (p : Parts (List ℕ)). p.before) (head-same h)

  pub head_loose : begins_with (46 ∷ []) (part a e t) ≡ false → is_empty (parts_from t at).before ≡ false
  unfolding is_empty
  head_loose h = ap (λ (p : Parts (List ℕ)). is_empty p.before) (body_same h)

pub parts-done : (t : List ℕ) (at : ℕ) → kept (drop at t) ≡ [] → parts_from t at ≡ record { before = []; groups = [] }
unfolding parts_from parts_at
parts-done t at e = ap (parts_at (begins_with (ascii "."))) e

module _ (t : List ℕ) (at : ℕ) where
  abbrev rows : List (List ℕ)
  rows = (parts_from t at).before

  pub parts_of : (gs : List (List ℕ × List (List ℕ))) → rows ≡ [] → (parts_from t at).groups ≡ gs → parts_from t at ≡ record { before = []; groups = gs }
  parts_of gs e f = ap (λ (b : List (List ℕ)). record { before = b; groups = (parts_from t at).groups }) e ∙ ap (λ (g : List (List ℕ × List (List ℕ))). record { before = []; groups = g }) f

  module _ (a e n : ℕ) (l : RowAt t at a e n) where
    pub rows_on : rows ≡ part a e t ∷ (parts_from t n).before
    rows_on = ap (λ (p : List (List ℕ) × List (List ℕ × List (List ℕ))). p.0) l.same

    pub row-groups : (parts_from t n).groups ≡ (parts_from t at).groups
    row-groups = sym (ap (λ (p : List (List ℕ) × List (List ℕ × List (List ℕ))). p.1) l.same)
