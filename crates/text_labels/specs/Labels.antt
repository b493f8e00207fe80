-- The labels of a text file, of the rows of their two tables, each handed out in the order of names. Assumes nothing.
use Rattle.std.specs.Prelude.{◌≡◌, Bool, List, [], ◌++◌, map, length, take, drop, if◌then◌else◌}
use Prim.Native.Nat.{ℕ, ◌+◌, ◌≤◌}
use Rattle.format.specs.Sorted.{sorted}
use Rattle.format.specs.ObjectFile.{Label}
use Rattle.format.specs.Records.{Record}
use Rattle.text_rows.specs.Rows.{number_of, row_key, rows_of, row_at, labels_in, join_labels}
use Rattle.text_gather.specs.Order.{left}
use Rattle.text_words.specs.Written.{index_at, symbol_words, words_at}
use Rattle.label_items.specs.Joins.{Tables}
use Rattle.text_labels.specs.declared.Stream.{Stream}

-- the labels of a trimmed file
unfoldable pub labels_of : List ℕ → List Label
labels_of t = join_labels (labels_in (sorted row_key (rows_of 1 t))) (labels_in (sorted row_key (rows_of 3 t)))

-- the rows that a stream has left: those at its places in the window, and those after them
unfoldable pub left_in : ℕ → List ℕ → List ℕ → Stream → List Record
left_in kind t win s = map (row_at kind t) (drop s.i (take s.n win)) ++ left t s.sorting

-- a stream whose places are in its window
pub record Within (kind : ℕ) (win : List ℕ) (s : Stream) : Type 0 where
  pub same_kind : number_of s.sorting.kind ≡ kind
  pub ordered : s.i ≤ s.n
  pub inside : s.n ≤ length win

-- after a refill a stream has the same rows left, and its next one, if there is one, in the window
pub record Refilled (kind : ℕ) (t win win' : List ℕ) (s r : Stream) : Type 0 where
  pub there : Within kind win' r
  pub same : left_in kind t win' r ≡ left_in kind t win s
  pub ended : r.n ≤ r.i → left_in kind t win' r ≡ []

-- the words of a label of both tables: "Later rows set their own fields"
unfoldable pub both_words : List ℕ → ℕ → ℕ → List ℕ
both_words t p q = symbol_words t p (index_at t q)

-- the words of the next label, of the row of .SYMBOL at p, the row of the label table at q, or both
unfoldable pub next_words : Tables → List ℕ → ℕ → ℕ → List ℕ
next_words x t p q = if x.symbol then (if x.start then both_words t p q else words_at 1 t p) else words_at 3 t q

-- past its next row, if that is used
unfoldable pub stepped : Stream → Bool → Stream
stepped s used = if used then record { sorting = s.sorting; i = s.i + 1; n = s.n } else s
