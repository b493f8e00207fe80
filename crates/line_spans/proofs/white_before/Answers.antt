use mathlib.Core.Path.{refl, sym, ◌∙◌}
use mathlib.Core.Bool.{true, false}
use mathlib.Core.List.{List}
use Prim.Native.Nat.{ℕ, ◌-◌}
use lib.ListN.{drop}
use Rattle.trim.specs.WhiteSpace.{ends_white}
use Rattle.object.specs.Texts.{text_bytes}
use Rattle.line_spans.proofs.TrimLaws.{before_is}
use Rattle.line_spans.proofs.white_before.Goals as goal
use Rattle.line_spans.proofs.white_before.Goals.{Start}

abbrev line : (s : Start) → List ℕ
line s = drop s.args.start (text_bytes s.args.ws.now s.args.at s.args.end)

abbrev k : (s : Start) → ℕ
k s = s.args.p - s.args.start

pub returns-then-ends_white : goal.returns-then-ends_white
returns-then-ends_white c =
    before_is (line (goal.at.returns-then-ends_white c).Start) (k (goal.at.returns-then-ends_white c).Start) true (ends_white (line (goal.at.returns-then-ends_white c).Start) (k (goal.at.returns-then-ends_white c).Start) 2) (ends_white (line (goal.at.returns-then-ends_white c).Start) (k (goal.at.returns-then-ends_white c).Start) 3)
    (sym c.if-ends_white.true ∙ c.ends_white.ensures) refl refl

pub returns-then-ends_white-2 : goal.returns-then-ends_white-2
returns-then-ends_white-2 c =
    before_is (line (goal.at.returns-then-ends_white-2 c).Start) (k (goal.at.returns-then-ends_white-2 c).Start) false true (ends_white (line (goal.at.returns-then-ends_white-2 c).Start) (k (goal.at.returns-then-ends_white-2 c).Start) 3) (sym c.if-ends_white.false ∙ c.ends_white.ensures)
    (sym c.if-ends_white-2.true ∙ c.ends_white-2.ensures) refl

pub returns-then-ends_white-3 : goal.returns-then-ends_white-3
returns-then-ends_white-3 c =
    before_is (line (goal.at.returns-then-ends_white-3 c).Start) (k (goal.at.returns-then-ends_white-3 c).Start) false false true (sym c.if-ends_white.false ∙ c.ends_white.ensures)
    (sym c.if-ends_white-2.false ∙ c.ends_white-2.ensures) (sym c.if-ends_white-3.true ∙ c.ends_white-3.ensures)

pub returns : goal.returns
returns c =
    before_is (line (goal.at.returns c).Start) (k (goal.at.returns c).Start) false false false (sym c.if-ends_white.false ∙ c.ends_white.ensures)
    (sym c.if-ends_white-2.false ∙ c.ends_white-2.ensures) (sym c.if-ends_white-3.false ∙ c.ends_white-3.ensures)
