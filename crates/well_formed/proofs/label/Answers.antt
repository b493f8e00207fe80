use mathlib.Core.Path.{sym, subst}
use Rattle.well_formed.specs.Steps.{Stepped, Advanced}
use Rattle.well_formed.proofs.KindLaws.{label_1, label_2, label_3, label_4, label-known, label-next}
use Rattle.well_formed.proofs.label.Goals as goal

pub returns-then-w-ne8192 : goal.returns-then-w-ne8192
returns-then-w-ne8192 c = label_1 c.args.ws.now c.args.at c.args.seen c.requires.1 c.if-w-ne8192.true

pub returns-in_err-read_number : goal.returns-in_err-read_number
returns-in_err-read_number c =
    subst (Stepped c.args.ws.now c.args.at c.args.seen) (sym c.from_residual.ensures)
    (label_2 c.args.ws.now c.args.at c.args.seen c.requires.1 c.if-w-ne8192.false
    c.in_err-read_number.ensures)

pub returns-in_err-n : goal.returns-in_err-n
returns-in_err-n c =
    subst (Stepped c.args.ws.now c.args.at c.args.seen) (sym c.from_residual-in_err-n.ensures)
    (label_3 c.args.ws.now c.args.at c.args.seen c.requires.1 c.if-w-ne8192.false
    c.in_ok-read_number.field-0 c.in_ok-read_number.ensures.0
    c.in_err-n.ensures)

pub past-requires : goal.past-requires
past-requires c = (
  c.requires.2,
  label-known c.args.ws.now c.args.at c.args.seen c.requires.1 c.if-w-ne8192.false
      c.in_ok-read_number.field-0 c.in_ok-read_number.ensures.0 c.in_ok-n.ensures.0,
)

pub returns-in_err-past : goal.returns-in_err-past
returns-in_err-past c =
    subst (Stepped c.args.ws.now c.args.at c.args.seen) (sym c.from_residual-in_err-past.ensures)
    (label_4 c.args.ws.now c.args.at c.args.seen c.requires.1 c.if-w-ne8192.false
    c.in_ok-read_number.field-0 c.in_ok-read_number.ensures.0 c.in_ok-n.ensures.0
    c.in_err-past.ensures)

pub returns : goal.returns
returns c =
    let ws = c.args.ws.now in
    let at = c.args.at in
    let seen = c.args.seen in
    subst (λ t. Advanced ws at seen c.in_ok-n.n t) (sym c.in_ok-past.ensures.1)
    (label-next c.args.ws.now c.args.at c.args.seen c.requires.1 c.if-w-ne8192.false
    c.in_ok-read_number.field-0 c.in_ok-read_number.ensures.0 c.in_ok-n.ensures.0
    c.in_ok-n.n c.in_ok-past.ensures.0 c.in_ok-n.ensures.1)
