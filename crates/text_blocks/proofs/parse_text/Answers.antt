use Rattle.std.proofs.Common.{◌/◌, ◌<◌, length, refl, sym, ap, ◌∙◌, subst, arith}
use Rattle.std.specs.Prelude.{Ok, Err}
use Rattle.std.proofs.lemmas.Result.{err_from_is_err_and}
use Rattle.text_blocks.specs.Blocks.{NextBlock, BlockFrom}
use Rattle.text_blocks.proofs.BlockLaws.{Marking, marking_on, marking_again, marking_bad, marking_end}
use Rattle.text_lines.proofs.RowLaws.{parts_of}
use Rattle.text_blocks.proofs.parse_text.Goals as goal
use Rattle.text_blocks.proofs.parse_text.Goals.{In-Some}

block : (c : In-Some) → let b = c.in-Some.block in BlockFrom c.args.t.now c.loop-block.i b.address b.count b.entries b.next
block c = subst (λ o. NextBlock c.args.t.now c.loop-block.i (Ok o)) c.in-Some.is c.in_ok-block.ensures

address_in_lem : (c : In-Some) → c.in-Some.block.address / 8 < length c.loop-block.seen
address_in_lem c = omega (arith, (block c).address, c.loop-block.invariant.size, c.if-seen-lt8192.false)

pub returns-then-is_marked : goal.returns-then-is_marked
returns-then-is_marked c =
    record {
      from = omega arith;
      after = λ z. absurd (omega arith);
      short = λ z. absurd (omega (arith, z, c.if-seen-lt8192.false));
      settles = λ z. marking_again _ _ _ _ _ _ _ c.loop-block.invariant _ _ _ _ (block (goal.at.returns-then-is_marked c).In-Some) (sym c.is_marked.ensures ∙ c.if-is_marked.true);
    }

pub loop-block-preserved : goal.loop-block-preserved
loop-block-preserved c =
    subst (Marking _ _ _ _ _ _) (sym c.mark.ensures)
    (marking_on _ _ _ _ _ _ _ c.loop-block.invariant _ _ _ _ (block (goal.at.loop-block-preserved c).In-Some) (sym c.is_marked.ensures ∙ c.if-is_marked.false) (address_in_lem (goal.at.loop-block-preserved c).In-Some) _ refl)

pub returns : goal.returns
returns c =
    let m = c.loop-block.invariant in
    let e = subst (λ o. NextBlock c.args.t.now c.loop-block.i (Ok o)) c.in_default.is c.in_ok-block.ensures in
    record {
      from = m.from;
      after = λ z. parts_of _ _ _ e m.groups;
      short = λ z. absurd (omega (arith, z, c.if-seen-lt8192.false));
      settles = λ z. marking_end _ _ _ _ _ _ _ m e;
    }

pub returns-in_err-block : goal.returns-in_err-block
returns-in_err-block c =
    let w = err_from_is_err_and c.from_residual.result c.from_residual.ensures.1 in
    let e = c.in_err-block.ensures in
    rw (w.1 ∙ ap Err w.2)
    (record {
      from = omega arith;
      after = λ z. absurd (omega (arith, z, e.0));
      short = λ z. absurd (omega (arith, z, c.if-seen-lt8192.false));
      settles = λ z. rw e.0 (marking_bad _ _ _ _ _ _ _ c.loop-block.invariant e.1);
    })
