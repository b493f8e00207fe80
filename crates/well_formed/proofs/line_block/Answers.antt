use borrow.Author.Tests.{leb-true, leb-false}
use mathlib.Core.Path.{refl, sym, subst, ◌∙◌}
use Prim.Native.Nat.{◌+◌, ◌-◌}
use Rattle.well_formed.specs.Steps.{Stepped, Advanced}
use Rattle.std.specs.Prelude.{Option, Some}
use Rattle.well_formed.specs.declared.Lines.{Lines}
use Rattle.well_formed.specs.declared.Seen.{Seen}
use Rattle.well_formed.proofs.KindLaws.{line_1, line_2, line_3, line_4, line_5, line-next}
use Rattle.well_formed.proofs.line_block.Goals as goal

pub returns-then-w-ne1610612736 : goal.returns-then-w-ne1610612736
returns-then-w-ne1610612736 c = line_1 c.args.ws.now c.args.at c.args.seen c.requires.1 c.if-w-ne1610612736.true

pub returns-in_err-first : goal.returns-in_err-first
returns-in_err-first c =
    subst (Stepped c.args.ws.now c.args.at c.args.seen) (sym c.from_residual.ensures)
    (line_2 c.args.ws.now c.args.at c.args.seen c.requires.1 c.if-w-ne1610612736.false
    c.in_err-first.ensures)

pub returns-in_err-n : goal.returns-in_err-n
returns-in_err-n c =
    subst (Stepped c.args.ws.now c.args.at c.args.seen) (sym c.from_residual-in_err-n.ensures)
    (line_3 c.args.ws.now c.args.at c.args.seen c.requires.1 c.if-w-ne1610612736.false c.in_ok-first.first
    c.in_ok-first.ensures.0
    c.in_err-n.ensures)

pub returns-then-not-is_free : goal.returns-then-not-is_free
returns-then-not-is_free c =
    line_4 c.args.ws.now c.args.at c.args.seen c.requires.1 c.if-w-ne1610612736.false c.in_ok-first.first
    c.in_ok-first.ensures.0 c.in_ok-n.ensures.0
    (leb-false _ _ (sym c.is_free.ensures ∙ c.if-not-is_free.true))

pub returns-in_err-past : goal.returns-in_err-past
returns-in_err-past c =
    subst (Stepped c.args.ws.now c.args.at c.args.seen) (sym c.from_residual-in_err-past.ensures)
    (line_5 c.args.ws.now c.args.at c.args.seen c.requires.1 c.if-w-ne1610612736.false c.in_ok-first.first
    c.in_ok-first.ensures.0 c.in_ok-n.ensures.0
    c.in_err-past.ensures)

pub returns : goal.returns
returns c =
    let ws = c.args.ws.now in
    let at = c.args.at in
    let seen = c.args.seen in
    let ls : Option Lines = Some (record { first = c.in_ok-first.first; count = c.in_ok-n.n - (at + 1 + 3) }) in
    subst (λ (t : Seen). Advanced ws at seen c.in_ok-n.n (record { key = t.key; lines = ls; sourced = t.sourced })) (sym c.in_ok-past.ensures.1)
    (line-next c.args.ws.now c.args.at c.args.seen c.requires.1 c.if-w-ne1610612736.false c.in_ok-first.first
    c.in_ok-first.ensures.0 c.in_ok-n.ensures.0
    c.in_ok-n.n (c.in_ok-n.n - (c.args.at + 1 + 3))
    (leb-true _ _ (sym c.is_free.ensures ∙ c.if-not-is_free.false))
    c.in_ok-past.ensures.0 c.in_ok-n.ensures.1 refl)
