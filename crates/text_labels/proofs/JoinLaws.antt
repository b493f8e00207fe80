-- One turn of the join: the words of the next label, and the rows that are left then. Assumes nothing.
use mathlib.Core.Path.{◌≡◌, refl, sym, ap, ap₂, ◌∙◌, subst}
use mathlib.Core.Bool.{Bool, true, false, not, ◌&&◌, true≢false}
use mathlib.Core.List.{List, [], ◌∷◌, ◌++◌, map}
use Prim.Native.Nat.{ℕ, ◌+◌, ◌-◌, ◌≤◌, ◌<◌, Ordering}
use native.Mathlib.Omega.{arith}
use native.Mathlib.Numerals.{add-one}
use lib.ListN.{length, take, drop, get_or}
use lib.Dec.{ltb}
use borrow.Author.Tests.{ltb-true, ltb-false}
use lib.Seq.{drop-cons, get_or-take, length-take-le}
use Rattle.std.specs.Prelude.{if◌then◌else◌}
use Rattle.format.specs.Sorted.{order, by_ordering}
use Rattle.format.specs.Records.{Record, label}
use Rattle.format.specs.Words.{record_words}
use Rattle.text_rows.specs.Rows.{number_of, symbol_row, label_row, row_in, row_at, labels_in, join_one, join_labels, only_symbol, only_start, both_fields}
use Rattle.text_gather.specs.Keys.{line_at, cell_at, address_at}
use Rattle.text_gather.specs.Order.{left}
use Rattle.text_words.specs.Written.{external_at, index_at, symbol_words, words_at}
use Rattle.text_labels.specs.declared.Stream.{Stream}
use Rattle.label_items.specs.declared.Next.{Next}
use Rattle.label_items.specs.declared.Next.TheVariants as next
use Rattle.label_items.specs.Joins.{Tables, tables_of, chosen}
use Rattle.text_labels.specs.Labels.{labels_of, left_in, Within, Refilled, both_words, next_words, stepped}
use borrow.Rule.Slice.PartMut.{mid_of, put_mid}
use Rattle.format.specs.Sorted.{sorted}
use Rattle.text_rows.specs.Rows.{row_key, rows_of}
use Rattle.writing.specs.Written.{Put}
use Rattle.text_words.specs.Written.{PutEach}
use Rattle.text_words.proofs.PutLaws.{Puts, puts_begin, puts_on, puts_end, put_one}

-- the words of the labels of rows of the two tables
abbrev pub label_words : List Record → List Record → List (List ℕ)
label_words rs ds = map record_words (map label (join_labels (labels_in rs) (labels_in ds)))

-- a row by itself
left-first : (kind : ℕ) (t win : List ℕ) (s : Stream) (p : ℕ) → Within kind win s → s.i < s.n → p ≡ get_or win s.i 0
    → left_in kind t win s ≡ row_at kind t p ∷ left_in kind t win (stepped s true)
unfolding left_in stepped
left-first kind t win s p w h e =
    let l : s.i < length (take s.n win) = omega (arith, length-take-le s.n win w.inside) in
    let d : drop s.i (take s.n win) ≡ get_or (take s.n win) s.i 0 ∷ drop (s.i + 1) (take s.n win) = rw (add-one s.i) (drop-cons (take s.n win) s.i 0 l) in
    ap (λ (ps : List ℕ). map (row_at kind t) ps ++ left t s.sorting) d
    ∙ ap (λ (j : ℕ). row_at kind t j ∷ (map (row_at kind t) (drop (s.i + 1) (take s.n win)) ++ left t s.sorting)) (get_or-take s.n win s.i 0 h ∙ sym e)

module _ (t : List ℕ) (p q : ℕ) (rs ds : List Record) where
  abbrev keys : Ordering
  keys = order (cell_at 2 t p 2) (cell_at 1 t q 0)

  start-only : label_words [] (row_at 3 t q ∷ ds) ≡ words_at 3 t q ∷ label_words [] ds
  unfolding labels_in join_labels words_at row_at row_in label_row
  start-only = refl

  symbol-only : label_words (row_at 1 t p ∷ rs) [] ≡ words_at 1 t p ∷ label_words rs []
  unfolding labels_in join_labels join_one words_at row_at row_in symbol_row
  symbol-only = refl

  abbrev three : Ordering → List (List ℕ)
  three o =
      by_ordering o (words_at 1 t p ∷ label_words rs (row_at 3 t q ∷ ds)) (both_words t p q ∷ label_words rs ds) (words_at 3 t q ∷ label_words (row_at 1 t p ∷ rs) ds)

  by_keys : label_words (row_at 1 t p ∷ rs) (row_at 3 t q ∷ ds) ≡ three keys
  unfolding labels_in join_labels join_one words_at row_at row_in symbol_row label_row both_words symbol_words cell_at address_at external_at index_at line_at
  by_keys = go keys
    where
      go : (o : Ordering) → map record_words (map label (by_ordering o
          (only_symbol (symbol_row (line_at t p)) ∷ join_labels (labels_in rs) (label_row (line_at t q) ∷ labels_in ds))
          (both_fields (symbol_row (line_at t p)) (label_row (line_at t q)) ∷ join_labels (labels_in rs) (labels_in ds))
          (only_start (label_row (line_at t q)) ∷ join_one (symbol_row (line_at t p)) (join_labels (labels_in rs)) (labels_in ds)))) ≡ three o
      go Ordering.lt = refl
      go Ordering.eq = refl
      go Ordering.gt = refl

-- ONE TURN: a and b say whether rows are left, and x which tables the next label is from
module _ (t : List ℕ) (p q : ℕ) (rs ds rs' ds' : List Record) where
  abbrev pub kept : Bool → List Record → List Record → List Record
  kept used after before = if used then after else before

  abbrev Turn : Tables → Type 0
  Turn x =
      ((not x.symbol && not x.start) ≡ true → label_words rs ds ≡ [])
      × ((not x.symbol && not x.start) ≡ false → label_words rs ds ≡ next_words x t p q ∷ label_words (kept x.symbol rs' rs) (kept x.start ds' ds))
      × (length (kept x.symbol rs' rs) + length (kept x.start ds' ds) ≤ length rs + length ds)
      × ((not x.symbol && not x.start) ≡ false → length (kept x.symbol rs' rs) + length (kept x.start ds' ds) < length rs + length ds)

  no : {P : Type 0} → true ≡ false → P
  no e = absurd (true≢false e)

  turn_at : (a b : Bool) (o : Ordering) → o ≡ order (cell_at 2 t p 2) (cell_at 1 t q 0) → (a ≡ true → rs ≡ row_at 1 t p ∷ rs') → (a ≡ false → rs ≡ [])
      → (b ≡ true → ds ≡ row_at 3 t q ∷ ds') → (b ≡ false → ds ≡ []) → Turn (chosen a b o)
  unfolding chosen next_words labels_in join_labels
  turn_at false false o e fa ga fb gb =
      ((λ _. ap₂ label_words (ga refl) (gb refl)), (λ h. no h), omega arith, (λ h. no h))
  turn_at false true o e fa ga fb gb =
      let x = ga refl in
      let y = fb refl in
      let n = ap length y in
      ((λ h. no (sym h)), (λ _. ap₂ label_words x y ∙ start-only t p q [] ds' ∙ ap (λ (z : List Record). words_at 3 t q ∷ label_words z ds') (sym x)), omega (arith, n), (λ _. omega (arith, n)))
  turn_at true false o e fa ga fb gb =
      let x = fa refl in
      let y = gb refl in
      let n = ap length x in
      ((λ h. no (sym h)), (λ _. ap₂ label_words x y ∙ symbol-only t p q rs' [] ∙ ap (λ (z : List Record). words_at 1 t p ∷ label_words rs' z) (sym y)), omega (arith, n), (λ _. omega (arith, n)))
  turn_at true true Ordering.lt e fa ga fb gb =
      let x = fa refl in
      let y = fb refl in
      let n = ap length x in
      ((λ h. no (sym h)), (λ _. ap₂ label_words x y ∙ by_keys t p q rs' ds' ∙ ap (three t p q rs' ds') (sym e) ∙ ap (λ (z : List Record). words_at 1 t p ∷ label_words rs' z) (sym y)), omega (arith, n), (λ _. omega (arith, n)))
  turn_at true true Ordering.eq e fa ga fb gb =
      let x = fa refl in
      let y = fb refl in
      let n = ap length x in
      let m = ap length y in
      ((λ h. no (sym h)), (λ _. ap₂ label_words x y ∙ by_keys t p q rs' ds' ∙ ap (three t p q rs' ds') (sym e)), omega (arith, n, m), (λ _. omega (arith, n, m)))
  turn_at true true Ordering.gt e fa ga fb gb =
      let x = fa refl in
      let y = fb refl in
      let m = ap length y in
      ((λ h. no (sym h)), (λ _. ap₂ label_words x y ∙ by_keys t p q rs' ds' ∙ ap (three t p q rs' ds') (sym e) ∙ ap (λ (z : List Record). words_at 3 t q ∷ label_words z ds') (sym x)), omega (arith, m), (λ _. omega (arith, m)))

-- a table that the next label is from has rows left
-- a label that there is has a row of a table
pub some_left : (x : Next) → (not (tables_of x).symbol && not (tables_of x).start) ≡ false
some_left next.Symbol = refl
some_left next.Start = refl
some_left next.Both = refl

pub chosen_symbols : (a b : Bool) (o : Ordering) → (chosen a b o).symbol ≡ true → a ≡ true
unfolding chosen
chosen_symbols false b o h = h
chosen_symbols true b o h = refl

pub chosen-starts : (a b : Bool) (o : Ordering) → (chosen a b o).start ≡ true → b ≡ true
unfolding chosen
chosen-starts false b o h = h
chosen-starts true false o h = h
chosen-starts true true o h = refl

-- THE TURN of two streams
module _ (t sw dw : List ℕ) (s d : Stream) (p q : ℕ) (ws : Within 1 sw s) (wd : Within 3 dw d)
    (ep : s.i < s.n → p ≡ get_or sw s.i 0) (eq : d.i < d.n → q ≡ get_or dw d.i 0)
    (es : s.n ≤ s.i → left_in 1 t sw s ≡ []) (ed : d.n ≤ d.i → left_in 3 t dw d ≡ [])
    (x : Tables) (e : x ≡ chosen (ltb s.i s.n) (ltb d.i d.n) (order (cell_at 2 t p 2) (cell_at 1 t q 0))) where
  abbrev rs : List Record
  rs = left_in 1 t sw s

  abbrev ds : List Record
  ds = left_in 3 t dw d

  turn : Turn t p q rs ds (left_in 1 t sw (stepped s true)) (left_in 3 t dw (stepped d true)) x
  turn =
      subst (Turn t p q rs ds (left_in 1 t sw (stepped s true)) (left_in 3 t dw (stepped d true))) (sym e)
      (turn_at t p q rs ds (left_in 1 t sw (stepped s true)) (left_in 3 t dw (stepped d true)) (ltb s.i s.n) (ltb d.i d.n) (order (cell_at 2 t p 2) (cell_at 1 t q 0)) refl
      (λ h. let l = ltb-true s.i s.n h in left-first 1 t sw s p ws l (ep l))
      (λ h. es (ltb-false s.i s.n h))
      (λ h. let l = ltb-true d.i d.n h in left-first 3 t dw d q wd l (eq l))
      (λ h. ed (ltb-false d.i d.n h)))

  pub symbol-there : x.symbol ≡ true → s.i < s.n
  symbol-there h = ltb-true s.i s.n (chosen_symbols (ltb s.i s.n) (ltb d.i d.n) (order (cell_at 2 t p 2) (cell_at 1 t q 0)) (ap (λ (y : Tables). y.symbol) (sym e) ∙ h))

  pub start-there : x.start ≡ true → d.i < d.n
  start-there h = ltb-true d.i d.n (chosen-starts (ltb s.i s.n) (ltb d.i d.n) (order (cell_at 2 t p 2) (cell_at 1 t q 0)) (ap (λ (y : Tables). y.start) (sym e) ∙ h))

  kept-left : (kind : ℕ) (win : List ℕ) (u : Stream) (b : Bool) → kept t p q rs ds rs ds b (left_in kind t win (stepped u true)) (left_in kind t win u) ≡ left_in kind t win (stepped u b)
  unfolding stepped
  kept-left kind win u true = refl
  kept-left kind win u false = refl

  pub turn_done : (not x.symbol && not x.start) ≡ true → label_words rs ds ≡ []
  turn_done h = turn.0 h

  pub turn_on : (not x.symbol && not x.start) ≡ false
      → label_words rs ds ≡ (next_words x t p q ∷ []) ++ label_words (left_in 1 t sw (stepped s x.symbol)) (left_in 3 t dw (stepped d x.start))
  turn_on h = turn.1 h ∙ ap₂ (λ (u v : List Record). next_words x t p q ∷ label_words u v) (kept-left 1 sw s x.symbol) (kept-left 3 dw d x.start)

  pub turn_less : (not x.symbol && not x.start) ≡ false
      → length (left_in 1 t sw (stepped s x.symbol)) + length (left_in 3 t dw (stepped d x.start)) < length rs + length ds
  turn_less h =
      omega (arith, turn.3 h, ap length (kept-left 1 sw s x.symbol), ap length (kept-left 3 dw d x.start))

pub within_step : (kind : ℕ) (win : List ℕ) (s : Stream) (b : Bool) → Within kind win s → (b ≡ true → s.i < s.n) → Within kind win (stepped s b)
unfolding stepped
within_step kind win s true w h = record { same_kind = w.same_kind; ordered = omega (arith, h refl); inside = w.inside }
within_step kind win s false w h = w

-- THE WALK over both tables
pub record Joining (t : List ℕ) (all : List (List ℕ)) (room out sw₀ sw dw₀ dw : List ℕ) (at : ℕ) (s d : Stream) : Type 0 where
  pub symbols : Within 1 sw s
  pub starts : Within 3 dw d
  pub long_symbols : length sw ≡ length sw₀
  pub long-starts : length dw ≡ length dw₀
  pub puts : Puts (label_words (left_in 1 t sw s) (left_in 3 t dw d)) all room out at

-- a window of which nothing is used
pub unused : (kind : ℕ) (t win : List ℕ) (s : Stream) → Within kind [] s → left_in kind t win s ≡ left_in kind t [] s
unfolding left_in
unused kind t win s w =
    let n : s.n ≡ 0 = omega (arith, w.inside) in
    ap (λ (k : ℕ). map (row_at kind t) (drop s.i (take k win)) ++ left t s.sorting) n
    ∙ sym (ap (λ (k : ℕ). map (row_at kind t) (drop s.i (take k [])) ++ left t s.sorting) n)

pub wider : (kind : ℕ) (win : List ℕ) (s : Stream) → Within kind [] s → Within kind win s
wider kind win s w = record { same_kind = w.same_kind; ordered = w.ordered; inside = omega (arith, w.inside) }

pub joining_begin : (t room sw dw : List ℕ) (s d : Stream) → Within 1 [] s → Within 3 [] d → left_in 1 t [] s ≡ sorted row_key (rows_of 1 t)
    → left_in 3 t [] d ≡ sorted row_key (rows_of 3 t) → Joining t (map record_words (map label (labels_of t))) room room sw sw dw dw 0 s d
unfolding labels_of
joining_begin t room sw dw s d ws wd es ed =
    record {
      symbols = wider 1 sw s ws;
      starts = wider 3 dw d wd;
      long_symbols = refl;
      long-starts = refl;
      puts = subst (λ (ps : List (List ℕ)). Puts ps (map record_words (map label (labels_of t))) room room 0)
          (sym (ap₂ label_words (unused 1 t sw s ws ∙ es) (unused 3 t dw d wd ∙ ed))) (puts_begin (map record_words (map label (labels_of t))) room);
    }

pub own : (kind : ℕ) (win : List ℕ) (s : Stream) → Within kind win s → Within (number_of s.sorting.kind) win s
own kind win s w = record { same_kind = refl; ordered = w.ordered; inside = w.inside }

module _ (t : List ℕ) (all : List (List ℕ)) (room out sw₀ sw sw' dw₀ dw dw' : List ℕ) (at : ℕ) (s s' d d' : Stream)
    (j : Joining t all room out sw₀ sw dw₀ dw at s d) (qs : Refilled (number_of s.sorting.kind) t sw sw' s s') (qd : Refilled (number_of d.sorting.kind) t dw dw' d d')
    (ls : length sw' ≡ length sw) (ld : length dw' ≡ length dw) where
  fs : Refilled 1 t sw sw' s s'
  fs = subst (λ (k : ℕ). Refilled k t sw sw' s s') j.symbols.same_kind qs

  fd : Refilled 3 t dw dw' d d'
  fd = subst (λ (k : ℕ). Refilled k t dw dw' d d') j.starts.same_kind qd

  pub refilled : Joining t all room out sw₀ sw' dw₀ dw' at s' d'
  refilled =
      record {
        symbols = fs.there;
        starts = fd.there;
        long_symbols = ls ∙ j.long_symbols;
        long-starts = ld ∙ j.long-starts;
        puts = subst (λ (ps : List (List ℕ)). Puts ps all room out at) (sym (ap₂ label_words fs.same fd.same)) j.puts;
      }

  module _ (p q : ℕ) (ep : s'.i < s'.n → p ≡ get_or sw' s'.i 0) (eq : d'.i < d'.n → q ≡ get_or dw' d'.i 0) (x : Tables)
      (e : x ≡ chosen (ltb s'.i s'.n) (ltb d'.i d'.n) (order (cell_at 2 t p 2) (cell_at 1 t q 0))) where
    pub join_end : (not x.symbol && not x.start) ≡ true → PutEach all room at out
    join_end h =
        puts_end (label_words (left_in 1 t sw' s') (left_in 3 t dw' d')) all room out at refilled.puts
        (turn_done t sw' dw' s' d' p q fs.there fd.there ep eq fs.ended fd.ended x e h)

    pub join_symbol : x.symbol ≡ true → s'.i < s'.n
    join_symbol = symbol-there t sw' dw' s' d' p q fs.there fd.there ep eq fs.ended fd.ended x e

    pub join_start : x.start ≡ true → d'.i < d'.n
    join_start = start-there t sw' dw' s' d' p q fs.there fd.there ep eq fs.ended fd.ended x e

    module _ (h : (not x.symbol && not x.start) ≡ false) where
      pub join_less : length (left_in 1 t sw' (stepped s' x.symbol)) + length (left_in 3 t dw' (stepped d' x.start)) < length (left_in 1 t sw s) + length (left_in 3 t dw d)
      join_less =
          omega (arith, turn_less t sw' dw' s' d' p q fs.there fd.there ep eq fs.ended fd.ended x e h, ap length fs.same, ap length fd.same)

      pub join_puts : (r : ℕ) (ys : List ℕ) → Put (next_words x t p q) (mid_of at (length out - at) out) r ys
          → Puts (label_words (left_in 1 t sw' (stepped s' x.symbol)) (left_in 3 t dw' (stepped d' x.start))) all room (put_mid at (length out - at) out ys) (at + r)
      join_puts r ys w =
          puts_on (next_words x t p q ∷ []) (label_words (left_in 1 t sw' (stepped s' x.symbol)) (left_in 3 t dw' (stepped d' x.start))) (label_words (left_in 1 t sw' s') (left_in 3 t dw' d'))
          all room out ys at r refilled.puts (turn_on t sw' dw' s' d' p q fs.there fd.there ep eq fs.ended fd.ended x e h) (put_one (next_words x t p q) (mid_of at (length out - at) out) r ys w)

      pub join_on : (r : ℕ) (ys : List ℕ) (u v : Stream) → u ≡ stepped s' x.symbol → v ≡ stepped d' x.start → Put (next_words x t p q) (mid_of at (length out - at) out) r ys
          → Joining t all room (put_mid at (length out - at) out ys) sw₀ sw' dw₀ dw' (at + r) u v
      join_on r ys u v eu ev w =
          subst (λ (z : Stream). Joining t all room (put_mid at (length out - at) out ys) sw₀ sw' dw₀ dw' (at + r) z v) (sym eu)
          (subst (λ (z : Stream). Joining t all room (put_mid at (length out - at) out ys) sw₀ sw' dw₀ dw' (at + r) (stepped s' x.symbol) z) (sym ev)
          (record {
            symbols = within_step 1 sw' s' x.symbol fs.there join_symbol;
            starts = within_step 3 dw' d' x.start fd.there join_start;
            long_symbols = ls ∙ j.long_symbols;
            long-starts = ld ∙ j.long-starts;
            puts = join_puts r ys w;
          }))
