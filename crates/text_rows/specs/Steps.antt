-- What the walk over a kind's rows finds at a place. Assumes nothing.
use Rattle.std.specs.Prelude.{◌≡◌, Option, Some, None, ℕ, ◌+◌, ◌≤◌, ◌<◌, length, drop, get_or}
use mathlib.Core.List.{List, [], ◌∷◌, flat_map}
use Rattle.text_lines.specs.Groups.{parts_from}
use Rattle.trim.specs.Span.{Spans}
use Rattle.text_rows.specs.Rows.{first_line, rows_in, under_header, group_rows, rows_from, rows_of, row_at}
use Rattle.text_rows.specs.declared.Row.{Row}

-- n lines of the group were passed over, or all that there were
pub record Skips (t : List ℕ) (at n q : ℕ) : Type 0 where
  pub from : at ≤ q
  pub inside : at ≤ length t → q ≤ length t
  pub same : parts_from t q ≡ record { before = drop n (parts_from t at).before; groups = (parts_from t at).groups }

-- no LF from a place up to another stands before a `.`
abbrev pub Headless : List ℕ → ℕ → ℕ → Type 0
Headless t a e = (i : ℕ) → a ≤ i → i < e → get_or t i 0 ≡ 0x0A → get_or t (i + 1) 0 ≡ 0x2E → ⊥

-- the first line after the one at a place that begins with `.`, or the end
pub record DotAfter (t : List ℕ) (at q : ℕ) : Type 0 where
  pub from : at ≤ q
  pub inside : q ≤ length t
  pub none : (i : ℕ) → at ≤ i → i + 1 < q → get_or t i 0 ≡ 0x0A → get_or t (i + 1) 0 ≡ 0x2E → ⊥
  pub there : q < length t → (get_or t q 0 ≡ 0x2E) × ((i : ℕ) → i + 1 ≡ q → (at ≤ i) × (get_or t i 0 ≡ 0x0A))

-- all lines of the group were passed over
pub record GroupEnd (t : List ℕ) (at q : ℕ) : Type 0 where
  pub from : at ≤ q
  pub same : parts_from t q ≡ record { before = []; groups = (parts_from t at).groups }

-- where a table's rows begin, from the place after the group's first line
pub record FirstRow (kind : ℕ) (t : List ℕ) (at q : ℕ) : Type 0 where
  pub from : at ≤ q
  pub inside : at ≤ length t → q ≤ length t
  pub rows : rows_in kind 0 (parts_from t q).before ≡ rows_in kind 0 (under_header kind (parts_from t at).before)
  pub groups : (parts_from t q).groups ≡ (parts_from t at).groups

-- the first of the groups' tables of a kind
pub record TableAt (kind : ℕ) (t : List ℕ) (at q : ℕ) : Type 0 where
  pub on : at < q
  pub inside : q ≤ length t
  pub same : flat_map (group_rows kind) (parts_from t at).groups ≡ rows_from kind t q

abbrev pub NextTable : ℕ → List ℕ → ℕ → Option ℕ → Type 0
NextTable kind t at (Some q) = TableAt kind t at q
NextTable kind t at None = flat_map (group_rows kind) (parts_from t at).groups ≡ []

-- a row at p, and the place after it
pub record FoundAt (kind : ℕ) (t : List ℕ) (at p next : ℕ) : Type 0 where
  pub from : at ≤ p
  pub on : p < next
  pub inside : next ≤ length t
  pub same : rows_from kind t at ≡ row_at kind t p ∷ rows_from kind t next

-- where the first line of the row at p stands
abbrev pub LineOf : List ℕ → ℕ → ℕ → ℕ → Type 0
LineOf t p start end = Spans t start end (first_line (parts_from t p).before)

abbrev pub RowHere : ℕ → List ℕ → ℕ → Option Row → Type 0
RowHere kind t at (Some r) = FoundAt kind t at r.at r.next × LineOf t r.at r.start r.end
RowHere kind t at None = rows_in kind 0 (parts_from t at).before ≡ []

abbrev pub NextPlace : ℕ → List ℕ → ℕ → Option Row → Type 0
NextPlace kind t at (Some r) = FoundAt kind t at r.at r.next × LineOf t r.at r.start r.end
NextPlace kind t at None = rows_from kind t at ≡ []

-- where the walk begins, for rows of every kind
abbrev pub BeginsAt : List ℕ → ℕ → Type 0
BeginsAt t at = (kind : ℕ) → rows_from kind t at ≡ rows_of kind t
