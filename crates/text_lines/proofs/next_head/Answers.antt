use mathlib.Core.Path.{refl, sym, ◌∙◌}
use Rattle.text_lines.proofs.RowLaws.{head-line, head_loose, parts-done}
use Rattle.text_lines.proofs.next_head.Goals as goal

pub returns-in_default : goal.returns-in_default
returns-in_default c = parts-done _ _ c.in_default.ensures

pub returns-then-not-begins_with : goal.returns-then-not-begins_with
returns-then-not-begins_with c =
    (refl, head_loose _ _ _ _ _ c.in-Some.ensures (sym c.begins_with.ensures ∙ c.if-not-begins_with.true))

pub returns : goal.returns
returns c =
    head-line _ _ _ _ _ c.in-Some.ensures _ (sym c.begins_with.ensures ∙ c.if-not-begins_with.false) c.kind_of.ensures
