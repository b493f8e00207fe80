use Rattle.text_read.proofs.PartLaws.{relocations-none, relocations_some, none_each, same-each}
use Rattle.text_read.proofs.put_relocations.Goals as goal

pub returns-then-not-kept : goal.returns-then-not-kept
returns-then-not-kept c = none_each _ _ (relocations-none _ _ c.if-not-kept.true)

pub returns : goal.returns
returns c = same-each _ _ _ _ _ c.put_rows.ensures (relocations_some _ _ c.if-not-kept.false)
