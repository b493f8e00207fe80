use native.Mathlib.Omega.{arith}
use mathlib.Core.Path.{◌≡◌, sym, ap, subst}
use mathlib.Core.List.{List}
use Prim.Native.Nat.{ℕ, ◌-◌}
use Rattle.format.specs.Calls.{Value, query_count_lines}
use Rattle.units.specs.Refusal.{number_of}
use Rattle.fair.proofs.FairLaws.{Counted, counted, answer_4, answer_0, answer_other, some_lines, well_formed}
use Rattle.fair.proofs.is_fair.Goals as goal

known : (ws : List ℕ) (v : Value) → v ≡ query_count_lines ws → Counted ws v
known ws v e = subst (λ x. Counted ws x) (sym e) (counted ws)

-- with a source
module _ (ws : List ℕ) (lines : ℕ) (e : record { number = 0; value = lines } ≡ query_count_lines ws) where
  abbrev v : Value
  v = record { number = 0; value = lines }

  one : v.number ≡ 1 → ⊥
  one z = absurd (omega arith)

  four : v.number ≡ 4 → ⊥
  four z = absurd (omega arith)

  some : lines ≡ 0 → ⊥
  some z = some_lines ws v one four (known ws v e) z

pub overflow_sub-lines : goal.overflow_sub-lines
overflow_sub-lines c = let n = some c.args.object.now c.in-Ok.lines c.in-Ok.ensures in omega (arith, n)

pub fair_records-requires : goal.fair_records-requires
fair_records-requires c =
    let ws = c.args.object.now in
    let l = c.in-Ok.lines in
    let e = c.in-Ok.ensures in
    let n = some ws l e in
    (well_formed ws (v ws l e) (one ws l e) (four ws l e) (known ws (v ws l e) e), let t = rw c.in-Ok.is at c.count_lines.type_inv in omega (arith, n))

pub returns-in-Ok : goal.returns-in-Ok
returns-in-Ok c =
    let ws = c.args.object.now in
    let l = c.in-Ok.lines in
    let e = c.in-Ok.ensures in
    let n = some ws l e in
    answer_0 ws (v ws l e) (one ws l e) (four ws l e) (known ws (v ws l e) e) (l - 1) (omega (arith, n)) c.fair_records.result c.fair_records.ensures

pub returns-in-NoSource : goal.returns-in-NoSource
returns-in-NoSource c =
    answer_4 c.args.object.now (record { number = number_of c.in-Err.refusal; value = 0 }) (known _ _ c.in-Err.ensures)
    (ap number_of c.in-NoSource.is) c.has_blocks_only.result c.has_blocks_only.ensures

pub returns-in_default : goal.returns-in_default
returns-in_default c = answer_other c.args.object.now c.in-Err.refusal (known _ _ c.in-Err.ensures) c.in_default.not-NoSource
