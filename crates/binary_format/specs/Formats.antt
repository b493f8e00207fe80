-- The binary format as a value: it holds nothing. Assumes nothing.
use Rattle.binary_format.specs.declared.BinaryFormat.{BinaryFormat}

-- the one format
abbrev pub binary_format : BinaryFormat
binary_format = record {}
