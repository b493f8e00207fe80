use Rattle.std.proofs.Common.{ap, ◌∙◌}
use Rattle.format.specs.TextReader.{unicode_escape}
use Rattle.text_source.proofs.UnescapeLaws.{uni_none, uni_brace, escape_of}
use Rattle.text_source.proofs.unicode_escape.Goals as goal

pub returns-in_err-b : goal.returns-in_err-b
returns-in_err-b c = rw c.from_residual.ensures (ap unicode_escape c.in_err-b.ensures ∙ uni_none)

pub returns-then-b-ne123 : goal.returns-then-b-ne123
returns-then-b-ne123 c = ap unicode_escape c.in_ok-b.ensures ∙ uni_brace _ _ c.if-b-ne123.true

pub returns : goal.returns
returns c = escape_of _ c.args.c c.in_ok-b.d _ c.in_ok-b.ensures c.if-b-ne123.false c.escaped.result c.escaped.ensures
