-- A byte as it is, or what is escaped. Assumes nothing.
use Rattle.text_source.proofs.UnescapeLaws.{token_plain}
use Rattle.text_source.proofs.one_token.Goals as goal

pub returns-then-b-ne92 : goal.returns-then-b-ne92
returns-then-b-ne92 c = token_plain _ _ c.in-Some.d _ c.in-Some.ensures c.if-b-ne92.true
