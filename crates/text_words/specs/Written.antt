-- The words of a text file's rows, written one after the other. Assumes nothing.
use Rattle.std.specs.Prelude.{◌≡◌, Bool, true, not, List, [], ◌∷◌, ◌++◌, ℕ, ◌+◌, ◌<◌, take, drop, eqb}
use Rattle.std.proofs.Math.Option.{Option, none, some}
use Rattle.format.specs.Basics.{is_some}
use Rattle.format.specs.TextReader.{parse_decimal}
use Rattle.format.specs.Records.{label}
use Rattle.format.specs.Words.{memory_word, record_words}
use Rattle.writing.specs.Written.{filled, written}
use Rattle.text_lines.specs.Groups.{parts_from}
use Rattle.text_blocks.specs.Blocks.{words_in}
use Rattle.text_rows.specs.Rows.{or_zero, or_none, row_at, block_row}
use Rattle.text_gather.specs.Keys.{cell_at, address_at}
use Rattle.text_words.specs.declared.Entries.{Entries}

-- the EXT cell of a row of .SYMBOL: "nonzero is external"
unfoldable pub external_at : List ℕ → ℕ → Bool
external_at t p = not (eqb (or_zero (parse_decimal 256 (cell_at 2 t p 1))) 0)

-- the INDEX cell of a row of the label table
unfoldable pub index_at : List ℕ → ℕ → ℕ
index_at t p = or_zero (parse_decimal 18446744073709551616 (cell_at 1 t p 1))

-- the words of the label of a row of .SYMBOL, with a source start
unfoldable pub symbol_words : List ℕ → ℕ → ℕ → List ℕ
symbol_words t p start = record_words (label (record { name = cell_at 2 t p 2; address = address_at 2 t p; external = external_at t p; start = start }))

abbrev pub entry_word : Option (Option ℕ) → ℕ  -- the word of an entry; one that doesn't read is not initialised
entry_word none = memory_word none
entry_word (some w) = memory_word w

-- the words of n entries from a place on
abbrev pub entries_from : List ℕ → ℕ → ℕ → List (Option ℕ)
entries_from t at n = or_none (words_in n (parts_from t at).before)

-- where a block's entries stand, and how many
pub record EntriesOf (t : List ℕ) (p : ℕ) (e : Entries) : Type 0 where
  pub all : is_some (words_in e.count (parts_from t e.from).before) ≡ true
  pub few : e.count < 65536
  pub same : entries_from t e.from e.count ≡ (block_row (parts_from t p).before).words

-- the words of the row at a place
unfoldable pub words_at : ℕ → List ℕ → ℕ → List ℕ
words_at kind t p = record_words (row_at kind t p)

-- Parts written one after the other, each by a part writer that is lent the unused rest of the output: the place after them, and the
-- output. One that doesn't fit is left out; where all fit, they stand one after the other.
unfoldable pub put_each : List (List ℕ) → ℕ → List ℕ → ℕ × List ℕ
put_each [] at out = (at, out)
put_each (p ∷ ps) at out = put_each ps (at + filled p (drop at out)) (take at out ++ written p (drop at out))

-- THE CONTRACT OF A WRITER of several parts: what it returns, and what the room holds at exit
abbrev pub PutEach : List (List ℕ) → List ℕ → ℕ → List ℕ → Type 0
PutEach ps room r after = (r, after) ≡ put_each ps 0 room
