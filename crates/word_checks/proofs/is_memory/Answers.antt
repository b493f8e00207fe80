use Rattle.std.proofs.Common.{sym}
use Rattle.object.proofs.WordLaws.{memory_none, memory_other}
use Rattle.word_checks.proofs.is_memory.Goals as goal

pub returns-then-w-eq536870912 : goal.returns-then-w-eq536870912
returns-then-w-eq536870912 c = sym (memory_none _ c.if-w-eq536870912.true)

pub returns : goal.returns
returns c = memory_other _ c.if-w-eq536870912.false
