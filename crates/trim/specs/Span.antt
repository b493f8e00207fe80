-- Ranges of a text: from a byte to a byte, the second left out. Assumes nothing.
use Rattle.std.specs.Prelude.{◌≡◌, List, ℕ, ◌+◌, ◌-◌, ◌≤◌, length, take, drop, ltb, if◌then◌else◌}
use Rattle.format.specs.Utf8.{trim_start, trim_end, trim}
use Rattle.trim.specs.declared.Span.{Span}

-- the bytes of a range, those that there are
abbrev pub part : ℕ → ℕ → List ℕ → List ℕ
part start end s = take (end - start) (drop start s)

-- a range lies in a text, and these are its bytes
pub record Spans (s : List ℕ) (start end : ℕ) (bytes : List ℕ) : Type 0 where
  pub ordered : start ≤ end
  pub inside : end ≤ length s
  pub same : part start end s ≡ bytes

-- a range within a text of n bytes: what lies past its end is left out, and one that ends before it starts is empty, at its end
abbrev pub clipped : ℕ → ℕ → ℕ → Span
clipped n start end =
    let e = if ltb end n then end else n in
    record { start = if ltb start e then start else e; end = e }

-- where a range lies that is trimmed at its start: what is left ends where the range does
abbrev pub trim_start_span : List ℕ → ℕ → ℕ → Span
trim_start_span s start end =
    let e = (clipped (length s) start end).end in
    record { start = e - length (trim_start (part start end s)); end = e }

-- at its end: what is left starts where the range does
abbrev pub trim_end_span : List ℕ → ℕ → ℕ → Span
trim_end_span s start end =
    let a = (clipped (length s) start end).start in
    record { start = a; end = a + length (trim_end (part start end s)) }

-- at both: what is left starts where the range trimmed at its start does
abbrev pub trim_span : List ℕ → ℕ → ℕ → Span
trim_span s start end =
    let a = (trim_start_span s start end).start in
    record { start = a; end = a + length (trim (part start end s)) }

-- THE CONTRACT OF TRIMMING: where the range r lies, and that its bytes are those of the given range, trimmed
abbrev pub Trimmed : (List ℕ → List ℕ) → (List ℕ → ℕ → ℕ → Span) → List ℕ → ℕ → ℕ → Span → Type 0
Trimmed f lies s start end r = (r ≡ lies s start end) × Spans s r.start r.end (f (part start end s))
