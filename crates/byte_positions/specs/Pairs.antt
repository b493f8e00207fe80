-- The struct as the record of crate `format` that the contract cites. Assumes nothing.
use Rattle.format.specs.Source.{Position}
use Rattle.byte_positions.specs.declared.Pair.{Pair}

abbrev pub pair_of : Pair → Position
pair_of r = record { line = r.line; column = r.column }
