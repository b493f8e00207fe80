-- A source from a place on: the same answers, given what the bytes before the place leave to know. Assumes nothing.
use Rattle.std.specs.Prelude.{List, [], ◌∷◌, ℕ, zero, suc, ◌+◌, ◌-◌, get_or, ltb, eqb, if◌then◌else◌}
use Rattle.format.specs.Basics.{Outcome, refused, given}
use Rattle.format.specs.Source.{Span, Position, newlines, nl_indices_from, count_below}

abbrev pub span : ℕ → ℕ → Outcome Span
span a e = given (record { start = a; end = e })

-- the bytes of a line, from place i on, in a line that began at `start`, with so many lines still to pass
unfoldable pub span_from : ℕ → ℕ → ℕ → List ℕ → Outcome Span
span_from start i zero [] = span start i
span_from start i (suc left) [] = refused 5
span_from start i zero (b ∷ bs) = if eqb b 10 then span start (suc i) else span_from start (suc i) zero bs
span_from start i (suc left) (b ∷ bs) = if eqb b 10 then span_from (suc i) (suc i) left bs else span_from start (suc i) (suc left) bs

abbrev pub begins : ℕ → ℕ → List ℕ → ℕ
begins start zero ends = start
begins start (suc left) ends = suc (get_or ends left 0)

-- the position of an index, in line `line` that began at `start`, where so many of the line ends are below the index
abbrev pub pos_of : ℕ → ℕ → ℕ → ℕ → ℕ → List ℕ → Position
pos_of index line start below count ends =
    record { line = line + below; column = if ltb below (suc count) then index - begins start below ends else index }

-- the same from place i on
abbrev pub pos_from : ℕ → ℕ → ℕ → ℕ → List ℕ → Position
pos_from index line start i t = pos_of index line start (count_below index (nl_indices_from i t)) (newlines t) (nl_indices_from i t)
