-- The exported struct as the record of crate `format` that the contract cites. Assumes nothing.
use Rattle.format.specs.Source as source
use Rattle.host.specs.declared.Position.{Position}

abbrev pub position_of : Position → source.Position
position_of r = record { line = r.line; column = r.column }
