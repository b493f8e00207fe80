use Prim.Native.Nat.{◌%◌, ◌^◌}
use lib.ListN.{get_or}
use mathlib.Core.Path.{refl, sym, subst}
use Rattle.well_formed.specs.Steps.{Stepped, Advanced}
use Rattle.well_formed.proofs.KindLaws.{relocation_1, relocation_2, relocation_3, relocation-next}
use Rattle.well_formed.proofs.relocation.Goals as goal

pub returns-then-w-ne40960 : goal.returns-then-w-ne40960
returns-then-w-ne40960 c = relocation_1 c.args.ws.now c.args.at c.args.seen c.requires.1 c.if-w-ne40960.true

pub returns-in_err-n : goal.returns-in_err-n
returns-in_err-n c =
    subst (Stepped c.args.ws.now c.args.at c.args.seen) (sym c.from_residual.ensures)
    (relocation_2 c.args.ws.now c.args.at c.args.seen c.requires.1 c.if-w-ne40960.false
    c.in_err-n.ensures)

pub returns-in_err-past : goal.returns-in_err-past
returns-in_err-past c =
    subst (Stepped c.args.ws.now c.args.at c.args.seen) (sym c.from_residual-in_err-past.ensures)
    (relocation_3 c.args.ws.now c.args.at c.args.seen c.requires.1 c.if-w-ne40960.false c.in_ok-n.ensures.0
    (get_or c.args.ws.now c.args.at 0 % 2 ^ 16) refl c.in_err-past.ensures)

pub returns : goal.returns
returns c =
    let ws = c.args.ws.now in
    let at = c.args.at in
    let seen = c.args.seen in
    subst (λ t. Advanced ws at seen c.in_ok-n.n t) (sym c.in_ok-past.ensures.1)
    (relocation-next c.args.ws.now c.args.at c.args.seen c.requires.1 c.if-w-ne40960.false c.in_ok-n.ensures.0
    (get_or c.args.ws.now c.args.at 0 % 2 ^ 16) refl c.in_ok-n.n c.in_ok-past.ensures.0 c.in_ok-n.ensures.1)
