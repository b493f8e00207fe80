-- The exported structs as the records that the contracts cite, those of crate `format` and `tariff`'s. Assumes nothing.
use Rattle.format.specs.Calls as calls
use Rattle.tariff.specs.Tariff as tariff
use Rattle.runs.specs.declared.answers.Value.{Value}
use Rattle.runs.specs.declared.answers.Span.{Span}
use Rattle.runs.specs.declared.answers.Position.{Position}
use Rattle.runs.specs.declared.answers.Fair.{Fair}
use Rattle.runs.specs.declared.answers.Fee.{Fee}

abbrev pub value_of : Value → calls.Value
value_of r = record { number = r.number; value = r.value }

abbrev pub span_of : Span → calls.SpanAnswer
span_of r = record { number = r.number; start = r.start; end = r.end }

abbrev pub position_of : Position → calls.PositionAnswer
position_of r = record { number = r.number; line = r.line; column = r.column }

abbrev pub fair_of : Fair → calls.FairAnswer
fair_of r = record { number = r.number; fair = r.fair }

abbrev pub fee_of : Fee → tariff.Fee
fee_of r = record { number = r.number; fee = r.fee; base = r.base; words = r.words; labels = r.labels }
