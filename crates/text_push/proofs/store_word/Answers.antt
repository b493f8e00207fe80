use Rattle.text_push.proofs.PushLaws.{store_past, store_there}
use Rattle.text_push.proofs.store_word.Goals as goal

pub returns-then-out-at : goal.returns-then-out-at
returns-then-out-at c = store_past _ _ _ c.if-out-at.true

pub returns : goal.returns
returns c = rw (c.from.ensures, c.from-2.ensures, c.from-3.ensures) (store_there _ _ _ c.if-out-at.false)
