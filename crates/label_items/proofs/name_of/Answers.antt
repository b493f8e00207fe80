use mathlib.Core.Path.{ap, ◌∙◌}
use Prim.Native.Nat.{ℕ, ◌-◌}
use lib.ListN.{take, drop}
use native.Mathlib.Omega.{arith}
use Rattle.label_items.proofs.ItemLaws.{part_none, part_there}
use Rattle.label_items.proofs.name_of.Goals as goal

pub returns-then-end-x : goal.returns-then-end-x
returns-then-end-x c = part_none c.args.t.now c.args.x.start c.args.x.end (omega (arith, c.if-end-x.true, c.min-end.ensures))

pub returns : goal.returns
returns c =
    ap (λ (k : ℕ). take (k - c.args.x.start) (drop c.args.x.start c.args.t.now)) c.min-end.ensures
    ∙ part_there c.args.t.now c.args.x.start c.args.x.end (omega (arith, c.if-end-x.false, c.min-end.ensures))
