-- The size of an object: how many words it would have if each byte of a text had a word of its own. So many has it at most, and so many
-- bytes its source. Assumes nothing.
use mathlib.Core.List.{List}
use mathlib.Core.Option.{Option, none, some}
use Prim.Native.Nat.{ℕ, ◌+◌, ◌≤◌}
use native.Mathlib.Omega.{arith}
use lib.ListN.{length}
use Rattle.format.specs.ObjectFile.{ObjectFile, source_text}
use Rattle.format.specs.Words.{words_of}
use Rattle.format.proofs.Totals.{total, total_few, Weights, weight, source_count, word_counts, words-counted}

abbrev pub source_size : Option (List ℕ) → ℕ
source_size none = 0
source_size (some s) = 1 + length s

abbrev pub sizes : Weights
sizes = record {
  of_block = word_counts.of_block;
  of_label = λ l. 4 + length l.name;
  of_lines = word_counts.of_lines;
  of_source = source_size;
  of_relocation = λ r. 1 + length r.name;
}

abbrev pub size : ObjectFile → ℕ
size h = weight sizes h

abbrev pub bytes : List (List ℕ) → ℕ  -- of lines
bytes ls = total length ls

pub words-few : (h : ObjectFile) → length (words_of h) ≤ size h
words-few h =
    omega (
      arith,
      words-counted h,
      total_few word_counts.of_label sizes.of_label (λ l. omega arith) h.labels,
      go h.source,
      total_few word_counts.of_relocation sizes.of_relocation (λ r. omega arith) h.relocations,
    )
  where
    go : (o : Option (List ℕ)) → source_count o ≤ source_size o
    go none = omega arith
    go (some s) = omega arith

pub source-bytes-few : (h : ObjectFile) → length (source_text h.source) ≤ size h
unfolding source_text
source-bytes-few h = omega (arith, go h.source)
  where
    go : (o : Option (List ℕ)) → length (source_text o) ≤ source_size o
    go none = omega arith
    go (some s) = omega arith
