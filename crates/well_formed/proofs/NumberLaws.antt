-- Every refusal has a number of its own, none of them 0. Assumes nothing.
use Rattle.std.proofs.Common.{◌<◌, arith}
use Rattle.units.specs.declared.refusal.Refusal.{Refusal}
use Rattle.units.specs.declared.refusal.Refusal.TheVariants as refusal
use Rattle.units.specs.Refusal.{number_of}

pub number_some : (r : Refusal) → 0 < number_of r
number_some refusal.NotWellFormed = omega arith
number_some refusal.TooManyAddresses = omega arith
number_some refusal.ShortBuffer = omega arith
number_some refusal.NoSource = omega arith
number_some refusal.NoSuchLine = omega arith
number_some refusal.NotMapped = omega arith
number_some refusal.NoHeader = omega arith
number_some refusal.UnknownRecord = omega arith
number_some refusal.MissingBytes = omega arith
number_some refusal.RecordNotUtf8 = omega arith
number_some refusal.UnsortedAddresses = omega arith
number_some refusal.OverlappingLines = omega arith
number_some refusal.FileNotUtf8 = omega arith
number_some refusal.NoMagicLine = omega arith
number_some refusal.LooseLine = omega arith
number_some refusal.UnknownGroup = omega arith
number_some refusal.BadBlock = omega arith
number_some refusal.RepeatedBlock = omega arith
number_some refusal.BadLabels = omega arith
number_some refusal.NoDivider = omega arith
number_some refusal.BadLines = omega arith
number_some refusal.SecondLineTable = omega arith
number_some refusal.BadEscape = omega arith
number_some refusal.FallingAddresses = omega arith
number_some refusal.TooManyWords = omega arith
