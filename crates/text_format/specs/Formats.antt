-- The text format as a value: it holds nothing. Assumes nothing.
use Rattle.text_format.specs.declared.TextFormat.{TextFormat}

-- the one format
abbrev pub text_format : TextFormat
text_format = record {}
