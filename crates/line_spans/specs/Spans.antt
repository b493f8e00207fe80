-- The bytes of a line: what the calls hand back, and what their parts say of a text. Assumes nothing.
use Rattle.std.specs.Prelude.{◌≡◌, List, ℕ, ◌-◌, ◌≤◌, take, drop, Result, Ok, Err}
use Rattle.format.specs.Utf8.{trim_start, trim_end}
use Rattle.format.specs.Basics.{Outcome, refused, given}
use Rattle.format.specs.Source.{Span}
use Rattle.format.specs.Calls.{SpanAnswer}
use Rattle.units.specs.Refusal.{number_of}
use Rattle.units.specs.declared.refusal.Refusal.{Refusal}
use Rattle.line_spans.specs.declared.LineSpan.{LineSpan}

-- document 01's number and values of what is handed back: the values are 0 on a refusal
abbrev pub span_answer : Result LineSpan Refusal → SpanAnswer
span_answer (Ok s) = record { number = 0; start = s.start.0; end = s.end.0 }
span_answer (Err r) = record { number = number_of r; start = 0; end = 0 }

abbrev pub span_in : Result (ℕ × ℕ) Refusal → Outcome Span
span_in (Ok s) = given (record { start = s.0; end = s.1 })
span_in (Err r) = refused (number_of r)

-- a line lies within the first n bytes
abbrev pub Within : ℕ → Result (ℕ × ℕ) Refusal → Type 0
Within n (Ok s) = (s.0 ≤ s.1) × (s.1 ≤ n)
Within n (Err r) = Unit {0}

-- where the White_Space at the start of s from a byte on ends, and where that at its end begins
pub record TrimsStart (s : List ℕ) (start end r : ℕ) : Type 0 where
  pub low : start ≤ r
  pub high : r ≤ end
  pub rest : drop r s ≡ trim_start (drop start s)

pub record TrimsEnd (s : List ℕ) (start end r : ℕ) : Type 0 where
  pub low : start ≤ r
  pub high : r ≤ end
  pub rest : take (r - start) (drop start s) ≡ trim_end (drop start s)
