-- A row's cells, one after the other.
-- Assumes nothing.
use Rattle.std.specs.Prelude.{Option, Some, None, ◌≡◌, List, [], ℕ, ◌+◌, ◌≤◌, ◌<◌, length, drop, get_or}
use Rattle.format.specs.Utf8.{trim}
use Rattle.format.specs.TextReader.{splitn}
use Rattle.format.proofs.TrimLaws.{Visible}
use Rattle.trim.specs.Span.{Spans}
use Rattle.text_tables.specs.declared.Cell.{Cell}
use Rattle.text_tables.specs.declared.Written.{Written}

-- the first cell from a place on, trimmed, and where the row goes on after its divider
pub record CellAt (l : List ℕ) (at : ℕ) (r : Cell) : Type 0 where
  pub cell : Spans l r.start r.end (trim (get_or (splitn 1 (drop at l)) 0 []))
  pub inside : r.next ≤ length l
  pub rest : drop r.next l ≡ get_or (splitn 1 (drop at l)) 1 []

-- ` | ` at a place
abbrev pub DividerAt : List ℕ → ℕ → Type 0
DividerAt l at = (get_or l at 0 ≡ 0x20) × (get_or l (at + 1) 0 ≡ 0x7C) × (get_or l (at + 2) 0 ≡ 0x20)

-- two spaces and a digit, where a row of .SYMBOL has them
abbrev pub DigitCell : List ℕ → Type 0
DigitCell l = (get_or l 7 0 ≡ 0x20) × (get_or l 8 0 ≡ 0x20) × (0x30 ≤ get_or l 9 0) × (get_or l 9 0 ≤ 0x39)

abbrev pub FourVisible : List ℕ → Type 0  -- the first four bytes of a row
FourVisible l = Visible (get_or l 0 0) × Visible (get_or l 1 0) × Visible (get_or l 2 0) × Visible (get_or l 3 0)

-- the cells of a row of .SYMBOL that has them where they are written
pub record Aligned (l : List ℕ) : Type 0 where
  pub first : Spans l 0 4 (trim (get_or (splitn 2 l) 0 []))
  pub second : Spans l 9 10 (trim (get_or (splitn 2 l) 1 []))
  pub inside : 13 ≤ length l
  pub third : drop 13 l ≡ get_or (splitn 2 l) 2 []

abbrev pub IsSpace : ℕ → Type 0
IsSpace b = b ≡ 0x20

-- bytes of a kind from a place up to another
pub record Run (P : ℕ → Type 0) (l : List ℕ) (a e : ℕ) : Type 0 where
  pub ordered : a ≤ e
  pub inside : e ≤ length l
  pub each : (j : ℕ) → a ≤ j → j < e → P (get_or l j 0)

-- a bar and a space at a place, after a space or more
abbrev pub BarAfter : List ℕ → ℕ → ℕ → Type 0
BarAfter l from at = (from < at) × (at + 2 ≤ length l) × (get_or l at 0 ≡ 0x7C) × (get_or l (at + 1) 0 ≡ 0x20)

-- the cells of a row of the label table that is as it is written
abbrev pub WrittenIs : List ℕ → Option Written → Type 0
WrittenIs l (Some w) =
    Spans l 0 w.name_end (trim (get_or (splitn 1 l) 0 [])) × Spans l w.index (length l) (trim (get_or (splitn 1 l) 1 []))
WrittenIs l None = Unit {0}
