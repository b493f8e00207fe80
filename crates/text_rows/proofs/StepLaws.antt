-- The walk over a kind's rows: lines passed over, a table's first row, and a row's end. Assumes nothing.
use mathlib.Core.Path.{◌≡◌, refl, sym, ap, ◌∙◌, subst}
use mathlib.Core.Bool.{true, false, true≢false}
use mathlib.Core.List.{List, [], ◌∷◌, ◌++◌, flat_map}
use Prim.Native.Nat.{ℕ, zero, suc, ◌-◌, ◌≤◌, ◌<◌}
use native.Mathlib.Omega.{arith}
use lib.ListN.{length, drop}
use lib.Dec.{eqb}
use borrow.Author.Tests.{eq-eqb, ne_eqb}
use Rattle.format.specs.Basics.{ascii, begins_with, is_empty}
use Rattle.format.specs.Tokens.{Parts}
use Rattle.format.specs.Records.{Record}
use Rattle.trim.specs.Span.{part}
use Rattle.std.specs.Prelude.{Option, Some, None, Result, Ok, Err}
use Rattle.std.specs.Result.{result_ok}
use Rattle.units.specs.declared.refusal.Refusal.{Refusal}
use Rattle.text_lines.specs.declared.Head.{Head}
use Rattle.text_lines.specs.Groups.{parts_from, kind_of, RowAt, HeadAt, NextHead, number_of_kind}
use Rattle.text_lines.proofs.RowLaws.{rows_on, row-groups}
use Rattle.text_rows.specs.Rows.{count_in, first_line, lines_after, ends_table, row_in, rows_in, under_header, group_rows, rows_from, rows_of, row_at}
use Rattle.text_rows.specs.Steps.{Skips, GroupEnd, FirstRow, TableAt, FoundAt, LineOf}

abbrev Group : Type 0
Group = List ℕ × List (List ℕ)

drop-none : {A : Type 0} (n : ℕ) → ◌≡◌ {A = List A} (drop n []) []
drop-none zero = refl
drop-none (suc n) = refl

parts_are : (t : List ℕ) (at : ℕ) (ls : List (List ℕ)) (gs : List Group) → (parts_from t at).before ≡ ls → (parts_from t at).groups ≡ gs
    → parts_from t at ≡ record { before = ls; groups = gs }
parts_are t at ls gs e f =
    ap (λ (b : List (List ℕ)). record { before = b; groups = (parts_from t at).groups }) e ∙ ap (λ (g : List Group). record { before = ls; groups = g }) f

-- LINES PASSED OVER: so many are left to pass over
pub record Skipping (t : List ℕ) (from n at left : ℕ) : Type 0 where
  pub order : from ≤ at
  pub inside : from ≤ length t → at ≤ length t
  pub lines : drop left (parts_from t at).before ≡ drop n (parts_from t from).before
  pub groups : (parts_from t at).groups ≡ (parts_from t from).groups

pub skipping_begin : (t : List ℕ) (from n : ℕ) → Skipping t from n from n
skipping_begin t from n = record { order = omega arith; inside = λ h. h; lines = refl; groups = refl }

pub skip_none : (t : List ℕ) (at : ℕ) → Skips t at 0 at
skip_none t at = record { from = omega arith; inside = λ h. h; same = refl }

module _ (t : List ℕ) (from n at left : ℕ) (s : Skipping t from n at left) where
  pub skipping_on : (a e m : ℕ) → RowAt t at a e m → 0 < left → Skipping t from n m (left - 1)
  skipping_on a e m l h =
      record {
        order = omega (arith, l.on, s.order);
        inside = λ _. l.next;
        lines = less left h (parts_from t m).before (part a e t) ∙ ap (drop left) (sym (rows_on t at a e m l)) ∙ s.lines;
        groups = row-groups t at a e m l ∙ s.groups;
      }
    where
      less : (k : ℕ) → 0 < k → (xs : List (List ℕ)) (x : List ℕ) → drop (k - 1) xs ≡ drop k (x ∷ xs)
      less zero h xs x = absurd (let z : ⊥ = omega arith in z)
      less (suc k) h xs x = let e : suc k - 1 ≡ k = omega arith in ap (λ (j : ℕ). drop j xs) e

  skipped : (parts_from t at).before ≡ drop left (parts_from t at).before → Skips t from n at
  skipped e = record { from = s.order; inside = s.inside; same = parts_are t at _ _ (e ∙ s.lines) s.groups }

  pub skipping_none : (parts_from t at).before ≡ [] → Skips t from n at
  skipping_none e = skipped (e ∙ sym (ap (drop left) e ∙ drop-none left))

  pub skipping_end : left ≤ 0 → Skips t from n at
  skipping_end h = let z : left ≡ 0 = omega arith in skipped (sym (ap (λ (k : ℕ). drop k (parts_from t at).before) z))

-- a block's count and entries
pub block_none : (t : List ℕ) (at n : ℕ) → (parts_from t at).before ≡ [] → Skips t at n at
block_none t at n e = record { from = omega arith; inside = λ h. h; same = parts_are t at _ _ (e ∙ sym (ap (drop n) e ∙ drop-none n)) refl }

pub block_on : (t : List ℕ) (at a e m n q : ℕ) → RowAt t at a e m → n ≡ count_in (part a e t ∷ []) → Skips t m n q
    → Skips t at (suc (count_in (parts_from t at).before)) q
unfolding count_in first_line
block_on t at a e m n q l c s =
    let r = rows_on t at a e m l in
    let k : n ≡ count_in (parts_from t at).before = c ∙ sym (ap count_in r) in
    record {
      from = omega (arith, l.on, s.from);
      inside = λ _. s.inside l.next;
      same = parts_are t q _ _
          (ap (λ (p : Parts (List ℕ)). p.before) s.same ∙ ap (λ (j : ℕ). drop j (parts_from t m).before) k
          ∙ ap (λ (xs : List (List ℕ)). drop (suc (count_in (parts_from t at).before)) xs) (sym r))
          (ap (λ (p : Parts (List ℕ)). p.groups) s.same ∙ row-groups t at a e m l);
    }

-- TABLES
pub ends-other : (kind : ℕ) (l : List ℕ) → (kind ≡ 3 → ⊥) → ends_table kind l ≡ false
ends-other kind l h = rw (ne_eqb kind 3 h) refl

pub ends_bar : (kind : ℕ) (l : List ℕ) → kind ≡ 3 → begins_with (61 ∷ []) l ≡ ends_table kind l
unfolding ascii
ends_bar kind l e = rw (eq-eqb kind 3 e) refl

pub first_block : (kind : ℕ) (t : List ℕ) (at : ℕ) → kind ≡ 0 → FirstRow kind t at at
unfolding under_header
first_block kind t at e =
    record { from = omega arith; inside = λ h. h; rows = ap (rows_in kind 0) (sym (same (parts_from t at).before)); groups = refl }
  where
    same : (ls : List (List ℕ)) → under_header kind ls ≡ ls
    same [] = refl
    same (l ∷ ls) = rw (eq-eqb kind 0 e) refl

pub first-none : (kind : ℕ) (t : List ℕ) (at : ℕ) → (parts_from t at).before ≡ [] → FirstRow kind t at at
unfolding under_header
first-none kind t at e =
    record { from = omega arith; inside = λ h. h; rows = ap (rows_in kind 0) e ∙ ap (λ (ls : List (List ℕ)). rows_in kind 0 (under_header kind ls)) (sym e); groups = refl }

module _ (kind : ℕ) (t : List ℕ) (at a e n : ℕ) (l : RowAt t at a e n) where
  abbrev first : List ℕ
  first = part a e t

  pub row-none : ends_table kind first ≡ true → rows_in kind 0 (parts_from t at).before ≡ []
  unfolding rows_in
  row-none h = ap (rows_in kind 0) (rows_on t at a e n l) ∙ rw h

  pub first_bar : (kind ≡ 0 → ⊥) → ends_table kind first ≡ true → FirstRow kind t at at
  unfolding under_header rows_in
  first_bar z y =
      record {
        from = omega arith;
        inside = λ h. h;
        rows = row-none y ∙ sym (ap (λ (ls : List (List ℕ)). rows_in kind 0 (under_header kind ls)) (rows_on t at a e n l) ∙ rw (ne_eqb kind 0 z, y) refl);
        groups = refl;
      }

  pub first-line : (kind ≡ 0 → ⊥) → ends_table kind first ≡ false → FirstRow kind t at n
  unfolding under_header
  first-line z h =
      record {
        from = omega (arith, l.on);
        inside = λ _. l.next;
        rows = sym (ap (λ (ls : List (List ℕ)). rows_in kind 0 (under_header kind ls)) (rows_on t at a e n l) ∙ rw (ne_eqb kind 0 z, h) refl);
        groups = row-groups t at a e n l;
      }

  -- a row, and its lines after the first
  row_here : (q : ℕ) → ends_table kind first ≡ false → Skips t n (lines_after kind (parts_from t n).before) q → FoundAt kind t at at q
  unfolding rows_from row_at rows_in
  row_here q h s =
      let r = rows_on t at a e n l in
      let ls = (parts_from t n).before in
      let g : List Group → List Record = λ gs. flat_map (group_rows kind) gs in
      let b : (parts_from t q).before ≡ drop (lines_after kind ls) ls = ap (λ (p : Parts (List ℕ)). p.before) s.same in
      let gs : (parts_from t q).groups ≡ (parts_from t at).groups = ap (λ (p : Parts (List ℕ)). p.groups) s.same ∙ row-groups t at a e n l in
      record {
        from = omega arith;
        on = omega (arith, l.on, s.from);
        inside = s.inside l.next;
        same = ap (λ (xs : List (List ℕ)). rows_in kind 0 xs ++ g (parts_from t at).groups) r
            ∙ rw h (ap (λ (xs : List (List ℕ)). row_in kind xs ∷ (rows_in kind (lines_after kind ls) ls ++ g (parts_from t at).groups)) (sym r))
            ∙ ap (λ (rs : List Record). row_in kind (parts_from t at).before ∷ (rs ++ g (parts_from t at).groups)) (skip_rows (lines_after kind ls) ls ∙ ap (rows_in kind 0) (sym b))
            ∙ ap (λ (x : List Group). row_in kind (parts_from t at).before ∷ (rows_in kind 0 (parts_from t q).before ++ g x)) (sym gs);
      }
    where
      skip_rows : (k : ℕ) (ls : List (List ℕ)) → rows_in kind k ls ≡ rows_in kind 0 (drop k ls)
      skip_rows zero [] = refl
      skip_rows (suc k) [] = refl
      skip_rows zero (x ∷ xs) = refl
      skip_rows (suc k) (x ∷ xs) = skip_rows k xs

  pub row_block : (q : ℕ) → kind ≡ 0 → Skips t n (suc (count_in (parts_from t n).before)) q → FoundAt kind t at at q
  unfolding lines_after
  row_block q z s =
      row_here q (ends-other kind first (λ h. let w : ⊥ = omega arith in w))
      (subst (λ (k : ℕ). Skips t n k q) (sym (zero-lines (parts_from t n).before)) s)
    where
      zero-lines : (ls : List (List ℕ)) → lines_after kind ls ≡ suc (count_in ls)
      zero-lines ls = rw (eq-eqb kind 0 z) refl

  pub row_line : (kind ≡ 0 → ⊥) → ends_table kind first ≡ false → FoundAt kind t at at n
  unfolding lines_after
  row_line z h = row_here n h (subst (λ (k : ℕ). Skips t n k n) (sym (none (parts_from t n).before)) (skip_none t n))
    where
      none : (ls : List (List ℕ)) → lines_after kind ls ≡ 0
      none ls = rw (ne_eqb kind 0 z) refl

pub row-span : (t : List ℕ) (at a e n : ℕ) → RowAt t at a e n → LineOf t at a e
unfolding first_line
row-span t at a e n l = record { ordered = l.ordered; inside = l.inside; same = sym (ap first_line (rows_on t at a e n l)) }

pub row-end : (kind : ℕ) (t : List ℕ) (at : ℕ) → (parts_from t at).before ≡ [] → rows_in kind 0 (parts_from t at).before ≡ []
unfolding rows_in
row-end kind t at e = ap (rows_in kind 0) e

-- GROUPS passed over
pub record Passing (kind : ℕ) (t : List ℕ) (from at : ℕ) : Type 0 where
  pub order : from ≤ at
  pub same : flat_map (group_rows kind) (parts_from t at).groups ≡ flat_map (group_rows kind) (parts_from t from).groups

module _ (kind : ℕ) (t : List ℕ) (from at e : ℕ) (p : Passing kind t from at) (g : GroupEnd t at e) where
  abbrev rows_of_groups : List Group → List Record
  rows_of_groups gs = flat_map (group_rows kind) gs

  pub table_none : parts_from t e ≡ record { before = []; groups = [] } → rows_of_groups (parts_from t from).groups ≡ []
  unfolding flat_map
  table_none d = sym p.same ∙ ap (λ (q : Parts (List ℕ)). rows_of_groups q.groups) (sym g.same ∙ d)

  pub table_loose : is_empty (parts_from t e).before ≡ false → rows_of_groups (parts_from t from).groups ≡ []
  unfolding is_empty
  table_loose d = absurd (true≢false (sym (ap (λ (q : Parts (List ℕ)). is_empty q.before) g.same) ∙ d))

  module _ (k n : ℕ) (h : HeadAt t e k n) where
    heads : rows_of_groups (parts_from t at).groups ≡ group_rows kind (h.name, (parts_from t n).before) ++ rows_of_groups (parts_from t n).groups
    unfolding flat_map
    heads = ap (λ (q : Parts (List ℕ)). rows_of_groups q.groups) (sym g.same ∙ h.same)

    pub passing_on : (k ≡ kind → ⊥) → Passing kind t from n
    unfolding group_rows
    passing_on z =
        let w : eqb (kind_of h.name) kind ≡ false = ap (λ (j : ℕ). eqb j kind) (sym h.kind) ∙ ne_eqb k kind z in
        record { order = omega (arith, h.on, g.from, p.order); same = sym (heads ∙ rw w refl) ∙ p.same }

    pub table_at : (q : ℕ) → k ≡ kind → FirstRow kind t n q → TableAt kind t from q
    unfolding group_rows rows_from
    table_at q z f =
        let w : eqb (kind_of h.name) kind ≡ true = ap (λ (j : ℕ). eqb j kind) (sym h.kind) ∙ eq-eqb k kind z in
        record {
          on = omega (arith, h.on, g.from, p.order, f.from);
          inside = f.inside h.next;
          same = sym p.same ∙ heads ∙ rw w (ap (λ (rs : List Record). rs ++ rows_of_groups (parts_from t n).groups) (sym f.rows))
              ∙ ap (λ (gs : List Group). rows_in kind 0 (parts_from t q).before ++ rows_of_groups gs) (sym f.groups);
        }

-- what opens the next group, if anything does
pub next-head : (t : List ℕ) (at : ℕ) (r : Result (Option Head) Refusal) (h : Head) → NextHead t at r → Some (Some h) ≡ result_ok r
    → HeadAt t at (number_of_kind h.kind) h.next
next-head t at (Ok (Some g)) h n e = let q : g ≡ h = cc in subst (λ (x : Head). HeadAt t at (number_of_kind x.kind) x.next) q n
next-head t at (Ok None) h n e = absurd (cc)
next-head t at (Err r) h n e = absurd (cc)

module _ (kind : ℕ) (t : List ℕ) (from at e : ℕ) (p : Passing kind t from at) (g : GroupEnd t at e) where
  pub no_head : (r : Result (Option Head) Refusal) → NextHead t e r → result_ok r ≡ Some None
      → flat_map (group_rows kind) (parts_from t from).groups ≡ []
  no_head (Ok (Some h)) n q = absurd (cc)
  no_head (Ok None) n q = table_none kind t from at e p g n
  no_head (Err r) n q = absurd (cc)

  pub refused_head : (r : Result (Option Head) Refusal) → NextHead t e r → result_ok r ≡ None
      → flat_map (group_rows kind) (parts_from t from).groups ≡ []
  refused_head (Ok h) n q = absurd (cc)
  refused_head (Err r) n q = table_loose kind t from at e p g n.1

-- THE NEXT ROW
pub record Seeking (kind : ℕ) (t : List ℕ) (from at : ℕ) : Type 0 where
  pub order : from ≤ at
  pub same : rows_from kind t at ≡ rows_from kind t from

module _ (kind : ℕ) (t : List ℕ) (from at : ℕ) (s : Seeking kind t from at) where
  pub found-row : (p n : ℕ) → FoundAt kind t at p n → FoundAt kind t from p n
  found-row p n f = record { from = omega (arith, s.order, f.from); on = f.on; inside = f.inside; same = sym s.same ∙ f.same }

  module _ (e : rows_in kind 0 (parts_from t at).before ≡ []) where
    ended : rows_from kind t at ≡ flat_map (group_rows kind) (parts_from t at).groups
    unfolding rows_from
    ended = ap (λ (rs : List Record). rs ++ flat_map (group_rows kind) (parts_from t at).groups) e

    pub found_table : (q : ℕ) → TableAt kind t at q → Seeking kind t from q
    found_table q f = record { order = omega (arith, s.order, f.on); same = sym (ended ∙ f.same) ∙ s.same }

    pub found_none : flat_map (group_rows kind) (parts_from t at).groups ≡ [] → rows_from kind t from ≡ []
    found_none f = sym s.same ∙ ended ∙ f

-- where a walk begins
pub begins_at : (t : List ℕ) (q kind : ℕ) → GroupEnd t 0 q → rows_from kind t q ≡ rows_of kind t
unfolding rows_from rows_of rows_in
begins_at t q kind g = ap (λ (p : Parts (List ℕ)). rows_in kind 0 p.before ++ flat_map (group_rows kind) p.groups) g.same
