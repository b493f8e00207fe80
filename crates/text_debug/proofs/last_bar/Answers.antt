-- Row by row: whether the last line so far begins with =. Assumes nothing.
use Rattle.std.proofs.Common.{◌≡◌, Bool, sym, refl, ap, ◌∙◌, arith}
use Rattle.format.specs.Basics.{is_some}
use Rattle.format.specs.TextReader.{up_to_bar}
use Rattle.text_lines.specs.Groups.{parts_from}
use Rattle.text_lines.proofs.RowLaws.{row-groups, parts_of}
use Rattle.text_tables.proofs.DebugLaws.{last_bar, last_bar_lem, last_on, last_done}
use Rattle.text_debug.proofs.DebugGroupLaws.{up_some, up_none}
use Rattle.text_debug.proofs.last_bar.Goals as goal
use Rattle.text_debug.proofs.last_bar.Goals.{In_default}

ended : (c : In_default) → c.loop-line.bar ≡ is_some (up_to_bar (parts_from c.args.t.now c.args.from).before)
ended c =
    let t = c.args.t.now in
    let l = c.loop-line in
    sym (last_done t l.at c.in_default.ensures l.bar) ∙ l.invariant.2 ∙ last_bar_lem (parts_from t c.args.from).before

pub loop-line-init : goal.loop-line-init
loop-line-init c = (omega arith, refl, refl)

pub loop-line-preserved : goal.loop-line-preserved
loop-line-preserved c =
    let l = c.loop-line in
    let i = l.invariant in
    let r = c.in-Some.ensures in (
      omega (arith, r.on, i.0),
      row-groups _ _ _ _ _ r ∙ i.1,
      ap (λ (x : Bool). last_bar x (parts_from c.args.t.now c.in-Some.line.next).before) c.begins_with-bar.ensures ∙ last_on _ _ _ _ _ r l.bar ∙ i.2,
    )

pub returns-then-bar : goal.returns-then-bar
returns-then-bar c =
    let i = c.loop-line.invariant in
    (i.0, parts_of _ _ _ c.in_default.ensures i.1, up_some _ (sym (ended (goal.at.returns-then-bar c).In_default) ∙ c.if-bar.true))

pub returns-else-bar : goal.returns-else-bar
returns-else-bar c = up_none _ (sym (ended (goal.at.returns-else-bar c).In_default) ∙ c.if-bar.false)
