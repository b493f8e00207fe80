-- The source of a binary file, chunk by chunk. Assumes nothing.
use Rattle.std.specs.Prelude.{◌≡◌, ℕ, ◌*◌, ◌/◌, ◌<◌, length, take, drop}
use mathlib.Core.List.{List, flat_map}
use Rattle.format.specs.Words.{text_words}
use Rattle.writing.specs.Written.{Put}
use Rattle.gather.specs.Places.{places_of}
use Rattle.binary_words.specs.RecordAt.{chunk_at}

-- all chunks of the source: "03 chunks append"
abbrev pub chunks_of : List ℕ → List ℕ
chunks_of s = flat_map (chunk_at s) (places_of 3 s)

-- how many bytes of a text are in words of three
abbrev pub whole_bytes : List ℕ → ℕ
whole_bytes bs = length bs / 3 * 3

-- the words of these
abbrev pub whole_words : List ℕ → List ℕ
whole_words bs = text_words (take (whole_bytes bs) bs)

-- Of these bytes the words of three are written into the room, and the bytes after them, n of them, are held over to the next chunk.
pub record Chunked (bytes room held after : List ℕ) (at n : ℕ) : Type 0 where
  pub put : Put (whole_words bytes) room at after
  pub over : take n held ≡ drop (whole_bytes bytes) bytes
  pub few : n < 3
