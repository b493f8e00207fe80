-- The rows of the line table in the order of their numbers, so that a walk along the line blocks gives them. That they are the rows of the
-- definition is said in proofs/MergeLaws. Where numbers are compared, p + (q - p) is the larger of two, and q - (q - p) the smaller.
-- Assumes nothing.
use mathlib.Core.List.{List, [], ◌∷◌, ◌++◌, flat_map}
use Rattle.std.proofs.Math.Option.{some}
use Rattle.std.specs.Prelude.{ℕ, suc, ◌+◌, ◌-◌, ◌^◌, take, drop}
use Rattle.format.specs.ObjectFile.{LineBlock, line_end}
use Rattle.format.specs.TextWriter.{Row, plain_rows}

-- rows from a line on, with these addresses
unfoldable pub block_rows : ℕ → List ℕ → List Row
block_rows i [] = []
block_rows i (a ∷ xs) = record { number = i; address = some a } ∷ block_rows (suc i) xs

-- the addresses of a line block whose lines don't wrap, and those whose lines do: "past the largest 64-bit value wrap to 0"
abbrev pub straight : LineBlock → List ℕ
straight l = take (2 ^ 64 - l.first) l.addresses

unfoldable pub wrapped : List LineBlock → List ℕ  -- of the line blocks, one after the other: only the last can have any
wrapped ls = flat_map (λ l. drop (2 ^ 64 - l.first) l.addresses) ls

-- the smaller of two
abbrev pub smaller : ℕ → ℕ → ℕ
smaller a b = a - (a - b)

-- the rows from line p on of a source of so many lines: up to a line block those of the source, then the block's, and so on
unfoldable pub merge_from : ℕ → ℕ → List LineBlock → List Row
merge_from lines p [] = plain_rows p (lines - p)
merge_from lines p (l ∷ ls) =
    plain_rows p (l.first - (l.first - lines) - p)
    ++ (block_rows (p + (l.first - p)) (drop (p - l.first) (straight l)) ++ merge_from lines (p + (line_end l - p)) ls)

-- the same, by what a walk knows: how many of the source's lines are done, and how many rows came first that wrapped
unfoldable pub walk_from : ℕ → ℕ → ℕ → List LineBlock → List Row
walk_from lines wraps done [] = plain_rows done (lines - done)
walk_from lines wraps done (l ∷ ls) =
    plain_rows done (smaller l.first lines - done)
    ++ (block_rows (wraps + (l.first - wraps)) (drop (wraps - l.first) (straight l))
    ++ walk_from lines wraps (done + (smaller (line_end l) lines - done)) ls)
