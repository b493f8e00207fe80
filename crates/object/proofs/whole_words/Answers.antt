use Rattle.object.proofs.SpanLaws.{whole-none, whole-few, whole-all}
use Rattle.object.proofs.whole_words.Goals as goal

pub returns-then-ws-at : goal.returns-then-ws-at
returns-then-ws-at c = whole-none _ _ _ c.if-ws-at.true

pub returns-then-here-wanted : goal.returns-then-here-wanted
returns-then-here-wanted c = whole-few _ _ _ c.if-here-wanted.true

pub returns : goal.returns
returns c = whole-all _ _ _ c.if-here-wanted.false
