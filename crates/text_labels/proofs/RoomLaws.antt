-- The room that labels leave, counted down. Assumes nothing.
use mathlib.Core.Path.{◌≡◌, refl, sym, ap, ap₂, ◌∙◌, subst}
use mathlib.Core.Bool.{true, false, not, ◌&&◌}
use mathlib.Core.List.{List, [], ◌∷◌, ◌++◌, map}
use mathlib.Core.Option.{none, some}
use Prim.Native.Nat.{ℕ, ◌+◌, ◌<◌}
use native.Mathlib.Omega.{arith}
use lib.ListN.{length, get_or}
use lib.Dec.{ltb}
use Rattle.format.specs.Sorted.{order, sorted}
use Rattle.format.specs.Records.{label}
use Rattle.format.specs.Words.{record_words}
use Rattle.format.proofs.ListLaws.{by_test}
use Rattle.text_rows.specs.Rows.{number_of, symbol_row, row_in, row_at, row_key, rows_of}
use Rattle.text_gather.specs.Keys.{line_at, cell_at}
use Rattle.text_words.specs.Written.{symbol_words, words_at}
use Rattle.text_words.specs.Room.{room_for, room_after}
use Rattle.format.proofs.Counts.{label-length}
use Rattle.text_words.proofs.RoomLaws.{room-one, rooms_none, rooms_short, rooms_on}
use Rattle.text_labels.specs.declared.Stream.{Stream}
use Rattle.label_items.specs.Joins.{Tables, chosen}
use Rattle.text_labels.specs.Labels.{labels_of, left_in, Within, Refilled, both_words, next_words, stepped}
use Rattle.text_labels.proofs.JoinLaws.{label_words, unused, wider, symbol-there, start-there, turn_done, turn_on, turn_less, within_step}

-- a label of both tables has as many words as that of its row of .SYMBOL
pub next-symbol-length : (t : List ℕ) (x : Tables) (p q : ℕ) → x.symbol ≡ true → length (words_at 1 t p) ≡ length (next_words x t p q)
unfolding next_words both_words symbol_words words_at row_at row_in symbol_row cell_at line_at
next-symbol-length t x p q e =
    by_test x.start
    (λ u. rw (e, u) (label-length _ ∙ sym (label-length _)))
    (λ u. rw (e, u) refl)

pub next-start-length : (t : List ℕ) (x : Tables) (p q : ℕ) → x.symbol ≡ false → length (words_at 3 t q) ≡ length (next_words x t p q)
unfolding next_words
next-start-length t x p q e = rw e refl

-- THE WALK over both tables
pub record Measuring (t : List ℕ) (all : List (List ℕ)) (room left : ℕ) (sw₀ sw dw₀ dw : List ℕ) (s d : Stream) : Type 0 where
  pub symbols : Within 1 sw s
  pub starts : Within 3 dw d
  pub long_symbols : length sw ≡ length sw₀
  pub long-starts : length dw ≡ length dw₀
  pub same : room_after (label_words (left_in 1 t sw s) (left_in 3 t dw d)) left ≡ room_after all room

pub measuring_begin : (t : List ℕ) (room : ℕ) (sw dw : List ℕ) (s d : Stream) → Within 1 [] s → Within 3 [] d → left_in 1 t [] s ≡ sorted row_key (rows_of 1 t)
    → left_in 3 t [] d ≡ sorted row_key (rows_of 3 t) → Measuring t (map record_words (map label (labels_of t))) room room sw sw dw dw s d
unfolding labels_of
measuring_begin t room sw dw s d ws wd es ed =
    record {
      symbols = wider 1 sw s ws;
      starts = wider 3 dw d wd;
      long_symbols = refl;
      long-starts = refl;
      same = ap (λ (ps : List (List ℕ)). room_after ps room) (ap₂ label_words (unused 1 t sw s ws ∙ es) (unused 3 t dw d wd ∙ ed));
    }

module _ (t : List ℕ) (all : List (List ℕ)) (room m : ℕ) (sw₀ sw sw' dw₀ dw dw' : List ℕ) (s s' d d' : Stream)
    (j : Measuring t all room m sw₀ sw dw₀ dw s d) (qs : Refilled (number_of s.sorting.kind) t sw sw' s s') (qd : Refilled (number_of d.sorting.kind) t dw dw' d d')
    (ls : length sw' ≡ length sw) (ld : length dw' ≡ length dw) where
  fs : Refilled 1 t sw sw' s s'
  fs = subst (λ (k : ℕ). Refilled k t sw sw' s s') j.symbols.same_kind qs

  fd : Refilled 3 t dw dw' d d'
  fd = subst (λ (k : ℕ). Refilled k t dw dw' d d') j.starts.same_kind qd

  pub measured : Measuring t all room m sw₀ sw' dw₀ dw' s' d'
  measured =
      record {
        symbols = fs.there;
        starts = fd.there;
        long_symbols = ls ∙ j.long_symbols;
        long-starts = ld ∙ j.long-starts;
        same = ap (λ (ps : List (List ℕ)). room_after ps m) (ap₂ label_words fs.same fd.same) ∙ j.same;
      }

  module _ (p q : ℕ) (ep : s'.i < s'.n → p ≡ get_or sw' s'.i 0) (eq : d'.i < d'.n → q ≡ get_or dw' d'.i 0) (x : Tables)
      (e : x ≡ chosen (ltb s'.i s'.n) (ltb d'.i d'.n) (order (cell_at 2 t p 2) (cell_at 1 t q 0))) where
    pub measure_end : (not x.symbol && not x.start) ≡ true → some m ≡ room_after all room
    measure_end h =
        rooms_none (label_words (left_in 1 t sw' s') (left_in 3 t dw' d')) m (turn_done t sw' dw' s' d' p q fs.there fd.there ep eq fs.ended fd.ended x e h) ∙ measured.same

    pub measure_symbol : x.symbol ≡ true → s'.i < s'.n
    measure_symbol = symbol-there t sw' dw' s' d' p q fs.there fd.there ep eq fs.ended fd.ended x e

    pub measure_start : x.start ≡ true → d'.i < d'.n
    measure_start = start-there t sw' dw' s' d' p q fs.there fd.there ep eq fs.ended fd.ended x e

    module _ (h : (not x.symbol && not x.start) ≡ false) where
      abbrev after : List (List ℕ)
      after = label_words (left_in 1 t sw' (stepped s' x.symbol)) (left_in 3 t dw' (stepped d' x.start))

      next : label_words (left_in 1 t sw' s') (left_in 3 t dw' d') ≡ (next_words x t p q ∷ []) ++ after
      next = turn_on t sw' dw' s' d' p q fs.there fd.there ep eq fs.ended fd.ended x e h

      pub measure_less : length (left_in 1 t sw' (stepped s' x.symbol)) + length (left_in 3 t dw' (stepped d' x.start)) < length (left_in 1 t sw s) + length (left_in 3 t dw d)
      measure_less =
          omega (arith, turn_less t sw' dw' s' d' p q fs.there fd.there ep eq fs.ended fd.ended x e h, ap length fs.same, ap length fd.same)

      pub measure_short : none ≡ room_for (length (next_words x t p q)) m → none ≡ room_after all room
      measure_short o =
          rooms_short (next_words x t p q ∷ []) after (label_words (left_in 1 t sw' s') (left_in 3 t dw' d')) m next (room-one (next_words x t p q) m none o) ∙ measured.same

      pub measure_on : (k : ℕ) (u v : Stream) → some k ≡ room_for (length (next_words x t p q)) m → u ≡ stepped s' x.symbol → v ≡ stepped d' x.start
          → Measuring t all room k sw₀ sw' dw₀ dw' u v
      measure_on k u v o eu ev =
          subst (λ (z : Stream). Measuring t all room k sw₀ sw' dw₀ dw' z v) (sym eu)
          (subst (λ (z : Stream). Measuring t all room k sw₀ sw' dw₀ dw' (stepped s' x.symbol) z) (sym ev)
          (record {
            symbols = within_step 1 sw' s' x.symbol fs.there measure_symbol;
            starts = within_step 3 dw' d' x.start fd.there measure_start;
            long_symbols = ls ∙ j.long_symbols;
            long-starts = ld ∙ j.long-starts;
            same = rooms_on (next_words x t p q ∷ []) after (label_words (left_in 1 t sw' s') (left_in 3 t dw' d')) m next k (room-one (next_words x t p q) m (some k) o) ∙ measured.same;
          }))
