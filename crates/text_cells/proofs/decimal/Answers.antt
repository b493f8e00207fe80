-- The digits left, after those that gave the value, say what all of them do. Assumes nothing.
use native.Mathlib.Omega.{arith}
use mathlib.Core.Path.{◌≡◌, sym, ◌∙◌}
use mathlib.Core.Option.{none, some}
use Prim.Native.Nat.{ℕ, ◌+◌, ◌*◌, ◌%◌, ◌≤◌}
use lib.ListN.{get_or}
use Rattle.format.specs.TextReader.{below_limit, parse_decimal}
use Rattle.text_cells.proofs.NumberLaws.{number-none, decimal-on, decimal-low, decimal-high, decimal-over, digits_alone, from_end, below_some, below_none}
use Rattle.text_cells.proofs.decimal.Goals as goal
use Rattle.text_cells.proofs.decimal.Goals.{After-loop-b, Else-b-gt57}

-- a digit that makes more than 64 bits
over : (e : Else-b-gt57) → let a = e.args in
    a.max + 1 ≤ e.loop-b.v * 10 + get_or a.s.now e.loop-b.b-index 0 % 16 → none ≡ parse_decimal (a.max + 1) a.s.now
over e =
    decimal-over _ e.loop-b.v e.loop-b.b-index e.loop-b-test.true e.args.max e.loop-b.invariant e.if-b-lt-ZERO.false e.if-b-gt57.false

-- after the last digit
whole : (c : After-loop-b) (limit : ℕ) → parse_decimal limit c.args.s.now ≡ below_limit limit (some c.loop-b.v)
whole c limit =
    let s = c.args.s.now in
    digits_alone 10 s c.loop-b.v limit (omega (arith, c.if-s-eq0.false)) (sym c.loop-b.invariant ∙ from_end 10 c.loop-b.v s c.loop-b.b-index c.loop-b-test.false)

pub returns-then-b-lt-ZERO : goal.returns-then-b-lt-ZERO
returns-then-b-lt-ZERO c =
    decimal-low _ c.loop-b.v c.loop-b.b-index c.loop-b-test.true c.args.max c.loop-b.invariant (omega (arith, c.if-b-lt-ZERO.true))

pub returns-then-b-gt57 : goal.returns-then-b-gt57
returns-then-b-gt57 c =
    decimal-high _ c.loop-b.v c.loop-b.b-index c.loop-b-test.true c.args.max c.loop-b.invariant c.if-b-gt57.true

pub returns-then-v-gt-MOST_TENTH : goal.returns-then-v-gt-MOST_TENTH
returns-then-v-gt-MOST_TENTH c = over (goal.at.returns-then-v-gt-MOST_TENTH c).Else-b-gt57 (omega (arith, c.ranges.max))

pub returns-then-d-v : goal.returns-then-d-v
returns-then-d-v c = over (goal.at.returns-then-d-v c).Else-b-gt57 (omega (arith, c.ranges.max))

pub loop-b-preserved : goal.loop-b-preserved
loop-b-preserved c =
    (decimal-on _ c.loop-b.v c.loop-b.b-index c.loop-b-test.true c.if-b-lt-ZERO.false c.if-b-gt57.false ∙ c.loop-b.invariant)

pub returns-then-max-v : goal.returns-then-max-v
returns-then-max-v c =
    let m = c.args.max + 1 in
    sym (whole (goal.at.returns-then-max-v c).After-loop-b m ∙ below_none m c.loop-b.v (omega (arith, c.if-max-v.true)))

pub returns : goal.returns
returns c =
    let m = c.args.max + 1 in
    sym (whole (goal.at.returns c).After-loop-b m ∙ below_some m c.loop-b.v (omega (arith, c.if-max-v.false)))

pub returns-then-s-eq0 : goal.returns-then-s-eq0
returns-then-s-eq0 c = number-none 10 _ _ c.if-s-eq0.true
