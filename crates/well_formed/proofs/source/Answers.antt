use mathlib.Core.Bool.{true}
use mathlib.Core.Path.{sym, subst}
use Rattle.well_formed.specs.Steps.{Stepped, Advanced}
use Rattle.well_formed.specs.declared.Seen.{Seen}
use Rattle.well_formed.proofs.KindLaws.{source_1, source_2, source_3, source-next}
use Rattle.well_formed.proofs.source.Goals as goal

pub returns-then-w : goal.returns-then-w
returns-then-w c = source_1 c.args.ws.now c.args.at c.args.seen c.requires.1 c.if-w.true

pub returns-in_err-n : goal.returns-in_err-n
returns-in_err-n c =
    subst (Stepped c.args.ws.now c.args.at c.args.seen) (sym c.from_residual.ensures)
    (source_2 c.args.ws.now c.args.at c.args.seen c.requires.1 c.if-w.false
    c.in_err-n.ensures)

pub returns-in_err-past : goal.returns-in_err-past
returns-in_err-past c =
    subst (Stepped c.args.ws.now c.args.at c.args.seen) (sym c.from_residual-in_err-past.ensures)
    (source_3 c.args.ws.now c.args.at c.args.seen c.requires.1 c.if-w.false c.in_ok-n.ensures.0
    c.in_err-past.ensures)

pub returns : goal.returns
returns c =
    let ws = c.args.ws.now in
    let at = c.args.at in
    let seen = c.args.seen in
    subst (λ (t : Seen). Advanced ws at seen c.in_ok-n.n (record { key = t.key; lines = t.lines; sourced = true })) (sym c.in_ok-past.ensures.1)
    (source-next c.args.ws.now c.args.at c.args.seen c.requires.1 c.if-w.false c.in_ok-n.ensures.0
    c.in_ok-n.n
    c.in_ok-past.ensures.0 c.in_ok-n.ensures.1)
