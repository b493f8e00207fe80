use native.Mathlib.Omega.{arith}
use mathlib.Core.Path.{sym}
use Rattle.object.proofs.ByteLaws.{len-none, len_out, len_some}
use Rattle.object.proofs.text_len.Goals as goal

pub returns-then-end-at : goal.returns-then-end-at
returns-then-end-at c = len-none _ _ _ (omega arith)

pub returns-then-ws-end : goal.returns-then-ws-end
returns-then-ws-end c = len_out _ _ _ (omega arith) (omega arith)

pub returns : goal.returns
returns c =
    sym (len_some _ _ _ (omega arith) (omega arith))
