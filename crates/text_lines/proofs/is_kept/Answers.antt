use mathlib.Core.Path.{sym, ap, ◌∙◌}
use Rattle.format.specs.Utf8.{is_blank}
use Rattle.trim.proofs.SpanLaws.{part-whole}
use Rattle.text_lines.proofs.LineLaws.{kept_comment, kept_blank, kept_line}
use Rattle.text_lines.proofs.ShortLaws.{kept_shown}
use Rattle.text_lines.proofs.is_kept.Goals as goal

pub returns-then-shows_row : goal.returns-then-shows_row
returns-then-shows_row c =
    kept_shown _ _ c.if-i-s.true (c.spaces_end-i.ensures.0, c.spaces_end-i.ensures.2) (c.shows_row.ensures c.if-shows_row.true)

pub returns-then-begins_with : goal.returns-then-begins_with
returns-then-begins_with c = kept_comment _ (sym c.begins_with.ensures ∙ c.if-begins_with.true)

pub returns-then-is_blank : goal.returns-then-is_blank
returns-then-is_blank c = kept_blank _ (sym c.begins_with.ensures ∙ c.if-begins_with.false) (ap is_blank (sym (part-whole _)) ∙ sym c.is_blank.ensures ∙ c.if-is_blank.true)

pub returns : goal.returns
returns c = kept_line _ (sym c.begins_with.ensures ∙ c.if-begins_with.false) (ap is_blank (sym (part-whole _)) ∙ sym c.is_blank.ensures ∙ c.if-is_blank.false)
