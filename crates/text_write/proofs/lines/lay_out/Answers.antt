-- Record by record. Assumes nothing.
use native.Mathlib.Omega.{arith}
use mathlib.Core.Path.{refl, sym, ap, subst, ◌∙◌}
use mathlib.Core.List.{List}
use Prim.Native.Nat.{ℕ, max}
use lib.ListN.{length}
use Rattle.format.specs.ObjectFile.{LineBlock}
use Rattle.format.specs.TextWriter.{decimal}
use Rattle.text_lines_out.specs.Walk.{line_blocks_in, blocks_top}
use Rattle.text_lines_out.proofs.TableLaws.{Steps, steps, blocks_start, blocks_end, blocks-less, top_on, top_end, width_is}
use Rattle.text_write.proofs.LayoutLaws.{Finds, finds_on, finds_end}
use Rattle.text_write.proofs.lines.lay_out.Goals as goal
use Rattle.text_write.proofs.lines.lay_out.Goals.{In-loop-at}

abbrev ws : (c : In-loop-at) → List ℕ
ws c = c.args.ws.now

abbrev at : (c : In-loop-at) → ℕ
at c = c.loop-at.at

abbrev g : (c : In-loop-at) → Steps (ws c) (at c) c.loop-at.invariant.0 c.loop-at.invariant.1
g c =
    steps (ws c) (at c) c.loop-at.invariant.0 c.loop-at.invariant.1 c.loop-at-test.true c.loop-at.invariant.2
    c.loop-at.invariant.3

pub loop-at-init : goal.loop-at-init
loop-at-init c =
    let w = c.args.ws.now in
    let b = blocks_start w c.requires.0 in
    (0, line_blocks_in w, c.requires.2.0, b.1, refl, record { none = λ z. refl; some = λ h. absurd (omega (arith, h)) })

pub overflow_add-at : goal.overflow_add-at
overflow_add-at c = omega (arith, c.loop-at-test.true)

pub loop-at-smaller : goal.loop-at-smaller
loop-at-smaller c =
    let w = blocks-less (ws (goal.at.loop-at-smaller c).In-loop-at) (at (goal.at.loop-at-smaller c).In-loop-at) c.body_end-at.result c.loop-at-test.true c.body_end-at.ensures in omega (arith, w.0, w.1)

pub loop-at-preserved : goal.loop-at-preserved
loop-at-preserved c = let o = c.loop-at in (
  (g (goal.at.loop-at-preserved c).In-loop-at).past,
  (g (goal.at.loop-at-preserved c).In-loop-at).others,
  (g (goal.at.loop-at-preserved c).In-loop-at).left c.body_end-at.result c.body_end-at.ensures,
  (g (goal.at.loop-at-preserved c).In-loop-at).apart,
  ap (λ (x : ℕ). blocks_top x (g (goal.at.loop-at-preserved c).In-loop-at).others) c.top_at-top.ensures
      ∙ sym (top_on (ws (goal.at.loop-at-preserved c).In-loop-at) (at (goal.at.loop-at-preserved c).In-loop-at) o.invariant.0 o.invariant.1 (g (goal.at.loop-at-preserved c).In-loop-at) o.top)
      ∙ o.invariant.4,
  finds_on (ws (goal.at.loop-at-preserved c).In-loop-at) (at (goal.at.loop-at-preserved c).In-loop-at) o.invariant.0 o.invariant.1 (g (goal.at.loop-at-preserved c).In-loop-at) o.wrapped c.wrapped_on-wrapped.result o.invariant.5
      c.wrapped_on-wrapped.ensures,
)

pub returns : goal.returns
returns c =
    let w = c.args.ws.now in
    let e = blocks_end w c.loop-at.at c.loop-at.invariant.1 c.loop-at-test.false c.loop-at.invariant.2 in (
      c.column_width-width.ensures
          ∙ ap (λ (x : ℕ). max (length (decimal x)) 4)
          (sym (top_end c.loop-at.top) ∙ ap (blocks_top c.loop-at.top) e ∙ c.loop-at.invariant.4)
          ∙ sym (width_is c.args.lines 0 (line_blocks_in w) c.requires.1 (blocks_start w c.requires.0).1),
      finds_end w c.loop-at.wrapped (subst (λ (ls : List LineBlock). Finds w ls c.loop-at.wrapped) (sym e) c.loop-at.invariant.5),
    )
