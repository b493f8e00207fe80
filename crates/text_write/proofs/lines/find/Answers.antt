-- Record by record. Assumes nothing.
use native.Mathlib.Omega.{arith}
use mathlib.Core.Path.{sym, ◌∙◌}
use mathlib.Core.List.{List}
use Prim.Native.Nat.{ℕ}
use Rattle.object.proofs.KindLaws.{number_is, number_not}
use Rattle.text_lines_out.proofs.TableLaws.{blocks-less}
use Rattle.text_write.specs.Tables.{object_in}
use Rattle.text_write.proofs.PastLaws.{linked_on, sourced-on}
use Rattle.text_write.proofs.lines.find.Goals as goal
use Rattle.text_write.proofs.lines.find.Goals.{In-loop-at}

abbrev ws : (c : In-loop-at) → List ℕ
ws c = c.args.ws.now

abbrev at : (c : In-loop-at) → ℕ
at c = c.loop-at.at

pub loop-at-smaller : goal.loop-at-smaller
loop-at-smaller c =
    let w = blocks-less (ws (goal.at.loop-at-smaller c).In-loop-at) (at (goal.at.loop-at-smaller c).In-loop-at) c.body_end-at.result c.loop-at-test.true c.body_end-at.ensures in omega (arith, w.0, w.1)

pub loop-at-preserved : goal.loop-at-preserved
loop-at-preserved c =
    let o = object_in (ws (goal.at.loop-at-preserved c).In-loop-at) in
    let other = number_not c.of.result c.args.k _ c.of.ensures c.if-eq.ensures in
    let inv = c.loop-at.invariant in (
      λ e. sourced-on (ws (goal.at.loop-at-preserved c).In-loop-at) (at (goal.at.loop-at-preserved c).In-loop-at) c.body_end-at.result c.loop-at-test.true c.body_end-at.ensures o.source
          (λ z. other (z ∙ sym e)) (inv.0 e),
      λ e. linked_on (ws (goal.at.loop-at-preserved c).In-loop-at) (at (goal.at.loop-at-preserved c).In-loop-at) c.body_end-at.result c.loop-at-test.true c.body_end-at.ensures o.relocations
          (λ z. other (z ∙ sym e)) (inv.1 e),
    )

pub returns-then-eq : goal.returns-then-eq
returns-then-eq c =
    let inv = c.loop-at.invariant in
    record { source = inv.0; links = inv.1; there = λ h. number_is c.of.result c.args.k _ c.of.ensures c.if-eq.ensures }

pub returns : goal.returns
returns c =
    let inv = c.loop-at.invariant in
    record { source = inv.0; links = inv.1; there = λ h. absurd (omega (arith, h, c.loop-at-test.false)) }

pub loop-at-init : goal.loop-at-init
loop-at-init c = (λ e. c.requires.2, λ e. c.requires.1)

pub overflow_add-at : goal.overflow_add-at
overflow_add-at c = omega (arith, c.loop-at-test.true)
