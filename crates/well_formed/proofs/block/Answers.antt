use native.Mathlib.Omega.{arith}
use lib.ListN.{get_or}
use mathlib.Core.Path.{refl, sym, subst}
use Rattle.well_formed.specs.Steps.{Stepped, Advanced}
use Rattle.well_formed.proofs.KindLaws.{block_1, block_2, block_3, block_4, block-next}
use Rattle.well_formed.proofs.block.Goals as goal

pub returns-then-w-ne0 : goal.returns-then-w-ne0
returns-then-w-ne0 c = block_1 c.args.ws.now c.args.at c.args.seen c.requires.1 c.if-w-ne0.true

pub returns-in_err-n : goal.returns-in_err-n
returns-in_err-n c =
    subst (Stepped c.args.ws.now c.args.at c.args.seen) (sym c.from_residual.ensures)
    (block_2 c.args.ws.now c.args.at c.args.seen c.requires.1 c.if-w-ne0.false
    c.in_err-n.ensures)

pub returns-then-n-at-gt65536 : goal.returns-then-n-at-gt65536
returns-then-n-at-gt65536 c =
    block_3 c.args.ws.now c.args.at c.args.seen c.requires.1 c.if-w-ne0.false c.in_ok-n.ensures.0
    (omega (arith, c.in_ok-n.ensures.1))

pub returns-in_err-past : goal.returns-in_err-past
returns-in_err-past c =
    subst (Stepped c.args.ws.now c.args.at c.args.seen) (sym c.from_residual-in_err-past.ensures)
    (block_4 c.args.ws.now c.args.at c.args.seen c.requires.1 c.if-w-ne0.false c.in_ok-n.ensures.0
    (get_or c.args.ws.now c.args.at 0) refl c.in_err-past.ensures)

pub returns : goal.returns
returns c =
    let ws = c.args.ws.now in
    let at = c.args.at in
    let seen = c.args.seen in
    subst (λ t. Advanced ws at seen c.in_ok-n.n t) (sym c.in_ok-past.ensures.1)
    (block-next c.args.ws.now c.args.at c.args.seen c.requires.1 c.if-w-ne0.false c.in_ok-n.ensures.0
    (get_or c.args.ws.now c.args.at 0)
    c.in_ok-n.n refl (omega (arith, c.in_ok-n.ensures.1))
    c.in_ok-past.ensures.0 c.in_ok-n.ensures.1)
