-- "After the last record: does each line block left end at or before the next? 15", place by place. Assumes nothing.
use Rattle.std.specs.Prelude.{Bool, true, ◌&&◌, List, [], ◌∷◌, ℕ, leb}
use Rattle.std.specs.Prelude as before
use Rattle.std.proofs.Math.Option.{Option, none, some}
use Rattle.format.specs.ObjectFile.{line_end}
use Rattle.binary_words.specs.RecordAt.{line_block_at}

-- the place of the line block before, if there is one
abbrev pub place_of : before.Option ℕ → Option ℕ
place_of (before.Some p) = some p
place_of before.None = none

-- the line block at a place begins at or after the end of the one before it, if there is one
abbrev pub follows_at : List ℕ → Option ℕ → ℕ → Bool
follows_at s none p = true
follows_at s (some q) p = leb (line_end (line_block_at s q)) (line_block_at s p).first

-- one after the other, from a line block before them on
unfoldable pub apart_from : List ℕ → Option ℕ → List ℕ → Bool
apart_from s q [] = true
apart_from s q (p ∷ ps) = follows_at s q p && apart_from s (some p) ps
