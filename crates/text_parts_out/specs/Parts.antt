-- Blocks and relocations by the words of an object, for every slice of words. That they are those of a well formed object is said where it
-- is written. Assumes nothing.
use mathlib.Core.List.{List, [], ◌∷◌, ◌++◌, flat_map}
use Rattle.std.specs.Prelude.{ℕ, zero, suc, ◌+◌, ◌-◌, length, get_or, ltb, eqb, if◌then◌else◌}
use Rattle.format.specs.TextWriter.{hex4, decimal, memory_text, text_line}
use Rattle.object.specs.Bodies.{body_at}
use Rattle.object.specs.Texts.{text_len, text_bytes}
use Rattle.object.specs.Access.{memory_in, address_in, kind_at}
use Rattle.text_rows_out.specs.Rows.{linker_line}

-- the places of heads from a place on, each past the body of the one before it; a number bounds how many
module _ (ws : List ℕ) where
  unfoldable pub heads_from : ℕ → ℕ → List ℕ
  heads_from zero at = []
  heads_from (suc n) at = if ltb at (length ws) then at ∷ heads_from n (at + 1 + length (body_at ws (at + 1))) else []

  abbrev pub heads : ℕ → List ℕ
  heads at = heads_from (length ws - at) at

  -- those of them that come before the first that is no block
  unfoldable pub leading : List ℕ → List ℕ
  leading [] = []
  leading (p ∷ ps) = if eqb (kind_at ws p) 0 then p ∷ leading ps else []

  abbrev pub block_places : List ℕ
  block_places = leading (heads 0)

-- memory words, a line each
unfoldable pub memory_lines : List ℕ → List ℕ
memory_lines ws = flat_map (λ w. text_line (memory_text (memory_in w))) ws

module _ (ws : List ℕ) (at : ℕ) where
  -- the lines of the block at a place
  unfoldable pub block_text : List ℕ
  block_text =
      text_line (hex4 (address_in (get_or ws at 0))) ++ text_line (decimal (length (body_at ws (at + 1)))) ++ memory_lines (body_at ws (at + 1))

  -- the row of the record at a place: none unless it is a relocation
  unfoldable pub link_text : List ℕ
  link_text =
      if eqb (kind_at ws at) 5
      then linker_line (address_in (get_or ws at 0)) (text_bytes ws (at + 1) (text_len ws (at + 1) (at + 1 + length (body_at ws (at + 1)))))
      else []
