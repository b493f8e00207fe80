use native.Mathlib.Omega.{arith}
use Rattle.object.proofs.ByteLaws.{byte_none, byte_0, byte_1, byte_2}
use Rattle.object.proofs.text_byte.Goals as goal

pub returns-then-ws-at : goal.returns-then-ws-at
returns-then-ws-at c = byte_none _ _ _ (omega arith)

pub returns-then-ws-at-2 : goal.returns-then-ws-at-2
returns-then-ws-at-2 c = byte_none _ _ _ (omega arith)

pub returns-then-k-eq0 : goal.returns-then-k-eq0
returns-then-k-eq0 c = byte_0 _ _ _ c.if-k-eq0.true

pub returns-then-k-eq1 : goal.returns-then-k-eq1
returns-then-k-eq1 c = byte_1 _ _ _ c.if-k-eq1.true

pub returns : goal.returns
returns c = byte_2 _ _ _ (omega arith)
