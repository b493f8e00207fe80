-- By labels, then by the source. Assumes nothing.
use mathlib.Core.Path.{refl, sym}
use Rattle.binary_sizes.specs.ObjectWords.{keeps_relocations}
use Rattle.binary_sizes.proofs.keeps_relocations.Goals as goal

pub returns-then-has_records : goal.returns-then-has_records
unfolding keeps_relocations
returns-then-has_records c = rw (sym c.has_records.ensures, c.if-has_records.true) refl

pub returns-else-has_records : goal.returns-else-has_records
unfolding keeps_relocations
returns-else-has_records c = rw (sym c.has_records.ensures, c.if-has_records.false) c.has_source.ensures
