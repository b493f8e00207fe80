-- The kinds of the binary form's records, and the byte that each begins with: "00: address ..", to "04: address ..". Assumes nothing.
use Rattle.std.specs.Prelude.{ℕ}
use Rattle.gather.specs.declared.kind.Kind.{Kind}
use Rattle.gather.specs.declared.kind.Kind.TheVariants as kind

abbrev pub byte_of : Kind → ℕ
byte_of kind.Block = 0
byte_of kind.Label = 1
byte_of kind.LineBlock = 2
byte_of kind.Source = 3
byte_of kind.Relocation = 4
