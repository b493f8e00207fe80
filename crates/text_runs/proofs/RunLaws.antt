-- Runs of rows. Assumes nothing.
use mathlib.Core.Path.{◌≡◌, refl, sym, ap, ap₂, ◌∙◌, subst}
use mathlib.Core.List.{List, [], ◌∷◌, ◌++◌, map, flat_map, append-nil, append_assoc}
use mathlib.Core.Option.{Option, none, some}
use Prim.Native.Nat.{ℕ, zero, suc, ◌+◌, ◌-◌, ◌^◌, ◌%◌, ◌≤◌, ◌<◌}
use native.Mathlib.Omega.{arith}
use lib.ListN.{length, take, set, length-append, length-map, length-drop}
use lib.Seq.{take_at, length-take-le}
use borrow.Author.Tests.{ne_eqb, eq-eqb}
use borrow.Author.Rules.{part_to_end}
use borrow.Rule.Slice.PartMut.{mid_of, put_mid}
use Rattle.std.specs.Prelude as std
use Rattle.std.specs.Prelude.{Some, None, if◌then◌else◌}
use Rattle.format.specs.Basics.{and_then, is_empty}
use Rattle.format.specs.TextReader.{runs_from}
use Rattle.format.specs.ObjectFile.{LineBlock}
use Rattle.format.specs.Records.{line_block}
use Rattle.format.specs.Words.{word, memory_word, number_words, record_words}
use Rattle.format.proofs.Counts.{number-length, line-length}
use Rattle.trim.specs.Span.{part}
use Rattle.writing.specs.Written.{Put}
use Rattle.writing.proofs.Parts.{State, Emits, rest, begin, emit_one, room-one, has_room}
use Rattle.writing.proofs.WriteLaws.{too_short}
use Rattle.text_lines.specs.Views.{StepAt}
use Rattle.text_tables.specs.Debug.{Groups, line_view}
use Rattle.text_tables.specs.declared.LineRow.{LineRow}
use Rattle.text_cells.specs.Cells.{number_read}
use Rattle.text_tables.specs.LineRows.{line_in, line_of}
use Rattle.text_debug.specs.declared.Runs.{Runs}
use Rattle.text_debug.specs.LineRuns.{address_in, run_on, words_after, run_end, runs_over, no_runs, runs_in}
use Rattle.text_debug.specs.DebugGroup.{line_blocks_in}
use Rattle.text_words.specs.Written.{put_each, PutEach}
use Rattle.text_words.proofs.PutLaws.{Puts, puts_begin, puts_on, puts_end, put_one}
use Rattle.text_runs.specs.Runs.{addresses_from, RunEnds, block_words, run_words, run_parts}

-- A ROW
address_is : (l : List ℕ) (r : std.Option LineRow) (o : Option ℕ) → line_of r ≡ line_in l → (and_then (line_of r) λ x. x.1) ≡ o → address_in l ≡ o
unfolding address_in
address_is l r o e f = ap (λ (x : Option (ℕ × Option ℕ)). and_then x λ y. y.1) (sym e) ∙ f

pub word-known : (l : List ℕ) (r : LineRow) (a : ℕ) → line_of (Some r) ≡ line_in l → r.address ≡ Some a → 0x2001_0000 + a ≡ memory_word (address_in l)
unfolding memory_word
word-known l r a e f =
    (let w : 0x2001_0000 + a ≡ memory_word (some a) = omega arith in w) ∙ ap memory_word (sym (address_is l (Some r) (some a) e (ap number_read f)))

pub word_unknown : (l : List ℕ) (r : LineRow) → line_of (Some r) ≡ line_in l → r.address ≡ None → 0x2000_0000 ≡ memory_word (address_in l)
unfolding memory_word
word_unknown l r e f = ap memory_word (sym (address_is l (Some r) none e (ap number_read f)))

pub word-bad : (l : List ℕ) → line_of None ≡ line_in l → 0x2000_0000 ≡ memory_word (address_in l)
unfolding memory_word
word-bad l e = ap memory_word (sym (address_is l None none e refl))

-- an address, by its word
none_is : (o : Option ℕ) → memory_word o ≡ 0x2000_0000 → o ≡ none
unfolding memory_word
none_is none e = refl
none_is (some a) e = absurd (omega (arith, e))

some_is : (o : Option ℕ) → (memory_word o ≡ 0x2000_0000 → ⊥) → (a : ℕ) × (o ≡ some a)
unfolding memory_word
some_is none h = absurd (h refl)
some_is (some a) h = (a, refl)

-- THE RUN that begins at a place
pub record Running (t : List ℕ) (from at n : ℕ) : Type 0 where
  pub run : List ℕ
  pub count : length run ≡ n
  pub on : from + n ≤ at
  pub same : addresses_from t from ≡ map some run ++ addresses_from t at

pub running_begin : (t : List ℕ) (from : ℕ) → Running t from from 0
running_begin t from = record { run = []; count = refl; on = omega arith; same = refl }

step : (t : List ℕ) (at a e n : ℕ) → StepAt (line_view t) t at a e n → addresses_from t at ≡ address_in (part a e t) ∷ addresses_from t n
step t at a e n l = ap (λ (p : List (List ℕ) × Groups). map address_in p.0) l.same

map_snoc : (xs : List ℕ) (a : ℕ) (rest : List (Option ℕ)) → map some (xs ++ a ∷ []) ++ rest ≡ map some xs ++ some a ∷ rest
map_snoc [] a rest = refl
map_snoc (x ∷ xs) a rest = ap (λ (l : List (Option ℕ)). some x ∷ l) (map_snoc xs a rest)

module _ (t : List ℕ) (from at n : ℕ) (r : Running t from at n) where
  pub running_last : (line_view t at).0 ≡ [] → (run : List ℕ) × (addresses_from t from ≡ map some run)
  running_last e =
      (r.run, r.same ∙ ap (λ (ls : List (List ℕ)). map some r.run ++ map address_in ls) e ∙ append-nil (map some r.run))

  module _ (a e m : ℕ) (l : StepAt (line_view t) t at a e m) where
    pub running_ends : (w : ℕ) → w ≡ memory_word (address_in (part a e t)) → w ≡ 0x2000_0000 → RunEnds t from n m
    running_ends w q z =
        let o : address_in (part a e t) ≡ none = none_is (address_in (part a e t)) (sym q ∙ z) in
        record {
          run = r.run;
          count = r.count;
          on = omega (arith, r.on, l.on);
          inside = l.next;
          same = r.same ∙ ap (λ (xs : List (Option ℕ)). map some r.run ++ xs) (step t at a e m l ∙ ap (λ (x : Option ℕ). x ∷ addresses_from t m) o);
        }

    pub running_on : (w : ℕ) → w ≡ memory_word (address_in (part a e t)) → (w ≡ 0x2000_0000 → ⊥) → Running t from m (n + 1)
    running_on w q z =
        let o = some_is (address_in (part a e t)) (λ y. z (q ∙ y)) in
        record {
          run = r.run ++ o.0 ∷ [];
          count = length-append r.run (o.0 ∷ []) ∙ ap (λ (k : ℕ). k + 1) r.count;
          on = omega (arith, r.on, l.on);
          same =
              r.same ∙ ap (λ (xs : List (Option ℕ)). map some r.run ++ xs) (step t at a e m l ∙ ap (λ (x : Option ℕ). x ∷ addresses_from t m) o.1)
              ∙ sym (map_snoc r.run o.0 (addresses_from t m));
        }

-- and the words that are kept of it
take-set : (xs : List ℕ) (n w : ℕ) → n < length xs → take (n + 1) (set xs n w) ≡ take n xs ++ w ∷ []
take-set [] n w h = absurd (omega (arith, h))
take-set (x ∷ xs) zero w h = refl
take-set (x ∷ xs) (suc n) w h =
    let e : suc n + 1 ≡ suc (n + 1) = omega arith in
    ap (λ (k : ℕ). take k (x ∷ set xs n w)) e ∙ ap (λ (l : List ℕ). x ∷ l) (take-set xs n w (omega (arith, h)))

words_snoc : (xs : List ℕ) (a : ℕ) → map memory_word (map some xs) ++ memory_word (some a) ∷ [] ≡ map memory_word (map some (xs ++ a ∷ []))
words_snoc [] a = refl
words_snoc (x ∷ xs) a = ap (λ (l : List ℕ). memory_word (some x) ∷ l) (words_snoc xs a)

pub record Keeping (t : List ℕ) (from at n : ℕ) (room kept : List ℕ) : Type 0 where
  pub running : Running t from at n
  pub long : length kept ≡ length room
  pub words : n ≤ length kept → take n kept ≡ map memory_word (map some running.run)

pub keeping_begin : (t : List ℕ) (from : ℕ) (kept : List ℕ) → Keeping t from from 0 kept kept
unfolding running_begin
keeping_begin t from kept = record { running = running_begin t from; long = refl; words = λ h. refl }

module _ (t : List ℕ) (from at n : ℕ) (room kept : List ℕ) (s : Keeping t from at n room kept) (a e m : ℕ) (l : StepAt (line_view t) t at a e m)
    (w : ℕ) (q : w ≡ memory_word (address_in (part a e t))) where
  pub keeping_ends : w ≡ 0x2000_0000 → RunEnds t from n m × (n ≤ length kept → take n kept ≡ map memory_word (take n (addresses_from t from)))
  keeping_ends z =
      let r = s.running in (
        running_ends t from at n r a e m l w q z,
        λ h. s.words h
            ∙ ap (map memory_word) (sym (ap (take n) r.same ∙ take_at (map some r.run) (addresses_from t at) n (length-map r.run some ∙ r.count))),
      )

  pub keeping_on : (w ≡ 0x2000_0000 → ⊥) → (k : ℕ) → k ≡ n + 1 → (after : List ℕ) → length after ≡ length kept → (n < length kept → after ≡ set kept n w)
      → Keeping t from m k room after
  unfolding running_on
  keeping_on z k g after f y =
      let r = s.running in
      let o = some_is (address_in (part a e t)) (λ x. z (q ∙ x)) in
      let ws : n + 1 ≤ length after → take (n + 1) after ≡ map memory_word (map some (r.run ++ o.0 ∷ [])) = λ h.
      ap (take (n + 1)) (y (omega (arith, h, f))) ∙ take-set kept n w (omega (arith, h, f))
      ∙ ap₂ (λ (xs : List ℕ) (x : ℕ). xs ++ x ∷ []) (s.words (omega (arith, h, f))) (q ∙ ap memory_word o.1) ∙ words_snoc r.run o.0 in
      subst (λ (j : ℕ). Keeping t from m j room after) (sym g) (record { running = running_on t from at n r a e m l w q z; long = f ∙ s.long; words = ws })

-- RUNS of a line table
runs_last : (i : ℕ) (run xs : List ℕ) → runs_from i run (map some xs) ≡ []
unfolding runs_from
runs_last i run [] = refl
runs_last i run (a ∷ xs) = runs_last (suc i) (run ++ a ∷ []) xs

runs_pass : (i : ℕ) (run xs : List ℕ) (rest : List (Option ℕ)) → runs_from i run (map some xs ++ rest) ≡ runs_from (i + length xs) (run ++ xs) rest
unfolding runs_from
runs_pass i run [] rest =
    (let e : i ≡ i + 0 = omega arith in ap (λ (j : ℕ). runs_from j run rest) e) ∙ ap (λ (r : List ℕ). runs_from (i + 0) r rest) (sym (append-nil run))
runs_pass i run (a ∷ xs) rest =
    runs_pass (suc i) (run ++ a ∷ []) xs rest
    ∙ (let e : suc i + length xs ≡ i + suc (length xs) = omega arith in ap (λ (j : ℕ). runs_from j ((run ++ a ∷ []) ++ xs) rest) e)
    ∙ ap (λ (r : List ℕ). runs_from (i + suc (length xs)) r rest) (append_assoc run (a ∷ []) xs)

map-map : (xs : List ℕ) → map memory_word (map some xs) ≡ map (λ (a : ℕ). memory_word (some a)) xs
map-map [] = refl
map-map (a ∷ xs) = ap (λ (l : List ℕ). memory_word (some a) ∷ l) (map-map xs)

-- a run that a row without an address ends, and the runs after it
pub runs_parts : (i : ℕ) (xs : List ℕ) (rest : List (Option ℕ))
    → block_words (runs_from i [] (map some xs ++ none ∷ rest)) ≡ run_parts i (map some xs) ++ block_words (runs_from (i + (length xs + 1)) [] rest)
unfolding runs_from run_parts is_empty run_words record_words
runs_parts i [] rest = let e : suc i ≡ i + (0 + 1) = omega arith in ap (λ (j : ℕ). block_words (runs_from j [] rest)) e
runs_parts i (a ∷ xs) rest =
    let e : suc (i + suc (length xs)) ≡ i + (suc (length xs) + 1) = omega arith in
    let f : i + suc (length xs) - suc (length xs) ≡ i = omega arith in
    ap block_words (runs_pass i [] (a ∷ xs) (none ∷ rest))
    ∙ ap (λ (j : ℕ). (word 3 0 ∷ number_words j ++ map (λ (x : ℕ). memory_word (some x)) (a ∷ xs)) ∷ block_words (runs_from (suc (i + suc (length xs))) [] rest)) f
    ∙ ap (λ (j : ℕ). (word 3 0 ∷ number_words i ++ map (λ (x : ℕ). memory_word (some x)) (a ∷ xs)) ∷ block_words (runs_from j [] rest)) e
    ∙ ap (λ (l : List ℕ). (word 3 0 ∷ number_words i ++ l) ∷ block_words (runs_from (i + (suc (length xs) + 1)) [] rest)) (sym (map-map (a ∷ xs)))

module _ (t : List ℕ) (row i : ℕ) where
  pub line-last : (run : List ℕ) → addresses_from t row ≡ map some run → block_words (runs_from i [] (addresses_from t row)) ≡ []
  line-last run e = ap (λ (xs : List (Option ℕ)). block_words (runs_from i [] xs)) e ∙ ap block_words (runs_last i [] run)

  module _ (n next : ℕ) (r : RunEnds t row n next) where
    taken : take n (addresses_from t row) ≡ map some r.run
    taken =
        ap (take n) r.same
        ∙ take_at (map some r.run) (none ∷ addresses_from t next) n (length-map r.run some ∙ r.count)

    pub run-there : n ≤ length (addresses_from t row)
    run-there =
        let e : length (addresses_from t row) ≡ length (map some r.run) + suc (length (addresses_from t next)) =
        ap length r.same ∙ length-append (map some r.run) (none ∷ addresses_from t next) in
        omega (arith, e, length-map r.run some, r.count)

    pub line_on : block_words (runs_from i [] (addresses_from t row))
        ≡ run_parts i (take n (addresses_from t row)) ++ block_words (runs_from (i + (n + 1)) [] (addresses_from t next))
    line_on =
        ap (λ (xs : List (Option ℕ)). block_words (runs_from i [] xs)) r.same ∙ runs_parts i r.run (addresses_from t next)
        ∙ ap₂ (λ (xs : List (Option ℕ)) (k : ℕ). run_parts i xs ++ block_words (runs_from (i + (k + 1)) [] (addresses_from t next))) (sym taken) r.count

-- THE ADDRESSES of the next n rows, one after the other
pub record Putting (t : List ℕ) (from n : ℕ) (room out : List ℕ) (i at : ℕ) : Type 0 where
  pub count : i ≤ n
  pub there : n - i ≤ length (addresses_from t at)
  pub emits : Emits (map memory_word (take n (addresses_from t from))) room (map memory_word (take (n - i) (addresses_from t at))) (record { at = i; out = out })

pub putting_begin : (t : List ℕ) (from n : ℕ) (room : List ℕ) → n ≤ length room → n ≤ length (addresses_from t from) → Putting t from n room room 0 from
putting_begin t from n room h k =
    let whole = map memory_word (take n (addresses_from t from)) in
    let l : length whole ≡ n = length-map (take n (addresses_from t from)) memory_word ∙ length-take-le n (addresses_from t from) k in
    let z : n ≡ n - 0 = omega arith in
    record {
      count = omega arith;
      there = omega arith;
      emits =
          subst (λ (j : ℕ). Emits whole room (map memory_word (take j (addresses_from t from))) (record { at = 0; out = room })) z
          (begin whole room (omega arith));
    }

module _ (t : List ℕ) (from n : ℕ) (room out : List ℕ) (i at : ℕ) (s : Putting t from n room out i at) (h : i < n) where
  less : n - i ≡ suc (n - (i + 1))
  less = omega arith

  pub putting_none : (line_view t at).0 ≡ [] → ⊥
  putting_none e = let z : length (addresses_from t at) ≡ 0 = ap (λ (ls : List (List ℕ)). length (map address_in ls)) e in omega (arith, s.there)

  module _ (a e m : ℕ) (l : StepAt (line_view t) t at a e m) (w : ℕ) (q : w ≡ memory_word (address_in (part a e t))) where
    next_word : map memory_word (take (n - i) (addresses_from t at)) ≡ w ∷ map memory_word (take (n - (i + 1)) (addresses_from t m))
    next_word =
        ap₂ (λ (k : ℕ) (xs : List (Option ℕ)). map memory_word (take k xs)) less (step t at a e m l)
        ∙ ap (λ (x : ℕ). x ∷ map memory_word (take (n - (i + 1)) (addresses_from t m))) (sym q)

    pub putting_room : i < length out
    putting_room = room-one s.emits w (map memory_word (take (n - (i + 1)) (addresses_from t m))) next_word

    pub putting_on : Putting t from n room (set out i w) (i + 1) m
    putting_on =
        let z : length (addresses_from t at) ≡ suc (length (addresses_from t m)) = ap length (step t at a e m l) in
        record {
          count = omega arith;
          there = omega (arith, s.there);
          emits = emit_one s.emits w (map memory_word (take (n - (i + 1)) (addresses_from t m))) next_word;
        }

pub putting_end : (t : List ℕ) (at n i : ℕ) → n ≤ i → map memory_word (take (n - i) (addresses_from t at)) ≡ []
putting_end t at n i h = let e : n - i ≡ 0 = omega arith in ap (λ (k : ℕ). map memory_word (take k (addresses_from t at))) e

-- there is room for the next part
pub room_for_lem : {whole room left : List ℕ} {s : State ℕ} (f : Emits whole room left s) (part left' : List ℕ) → left ≡ part ++ left'
    → length part ≤ length (rest s)
room_for_lem {left = left} {s = s} f part left' e =
    let n : length left ≡ length part + length left' = ap length e ∙ length-append part left' in
    let r : length (rest s) ≡ length s.out - s.at = ap length (part_to_end s.out s.at) ∙ length-drop s.at s.out in
    omega (arith, has_room f)

-- A RUN written
pub run_length : (first : ℕ) (xs : List (Option ℕ)) → length (run_words first xs) ≡ 4 + length xs
unfolding run_words
run_length first xs =
    ap suc (length-append (number_words first) (map memory_word xs)) ∙ (let k : suc (length (number_words first) + length (map memory_word xs)) ≡ 4 + length xs =
    omega (arith, number-length first, length-map xs memory_word) in k)

module _ (t : List ℕ) (from first n : ℕ) (room : List ℕ) where
  pub run_none : n ≡ 0 → PutEach (run_parts first (take n (addresses_from t from))) room 0 room
  unfolding run_parts is_empty put_each
  run_none e = sym (ap (λ (k : ℕ). put_each (run_parts first (take k (addresses_from t from))) 0 room) e)

  module _ (z : n ≡ 0 → ⊥) (h : n ≤ length (addresses_from t from)) where
    size : length (take n (addresses_from t from)) ≡ n
    size = length-take-le n (addresses_from t from) h

    part_is : run_parts first (take n (addresses_from t from)) ≡ run_words first (take n (addresses_from t from)) ∷ []
    unfolding run_parts is_empty
    part_is = go (take n (addresses_from t from)) size
      where
        go : (xs : List (Option ℕ)) → length xs ≡ n → (if is_empty xs then [] else run_words first xs ∷ []) ≡ run_words first xs ∷ []
        go [] e = absurd (z (sym e))
        go (x ∷ xs) e = refl

    pub run-words : length (run_words first (take n (addresses_from t from))) ≡ 4 + n
    run-words = run_length first (take n (addresses_from t from)) ∙ ap (λ (k : ℕ). 4 + k) size

    pub run-parts : run_words first (take n (addresses_from t from))
        ≡ (0x6000_0000 ∷ []) ++ (number_words first ++ (map memory_word (take n (addresses_from t from)) ++ []))
    unfolding run_words
    run-parts = ap (λ (l : List ℕ). 0x6000_0000 ∷ number_words first ++ l) (sym (append-nil (map memory_word (take n (addresses_from t from)))))

    pub run_fits : 4 + n ≤ length room → length (run_words first (take n (addresses_from t from))) ≤ length room
    run_fits l = omega (arith, run-words)

    pub run-put : (r : ℕ) (after : List ℕ) → Put (run_words first (take n (addresses_from t from))) room r after
        → PutEach (run_parts first (take n (addresses_from t from))) room r after
    run-put r after p = put_one _ _ _ _ p ∙ ap (λ (ps : List (List ℕ)). put_each ps 0 room) (sym part_is)

    pub run_short : length room < 4 + n → PutEach (run_parts first (take n (addresses_from t from))) room 0 room
    run_short l = run-put 0 room (too_short _ room (4 + n) run-words l)

-- THE WORDS of the line blocks, as a walk over the rows counts them
abbrev size_of : List LineBlock → ℕ
size_of ls = length (flat_map (λ (p : List ℕ). p) (block_words ls))

size-more : (l : LineBlock) (ls : List LineBlock) → size_of (l ∷ ls) ≡ length (record_words (line_block l)) + size_of ls
unfolding flat_map
size-more l ls = length-append (record_words (line_block l)) (flat_map (λ (p : List ℕ). p) (block_words ls))

over-words : (i : ℕ) (run : List ℕ) (rows : List (Option ℕ)) (s : Runs) → s.count ≡ length run → s.words < 2 ^ 64
    → (runs_over s rows).words ≡ (s.words + size_of (runs_from i run rows)) % 2 ^ 64
unfolding runs_over run_on run_end words_after runs_from flat_map
over-words i run [] s e l = omega (arith, l)
over-words i run (some a ∷ rows) s e l =
    over-words (suc i) (run ++ a ∷ []) rows (run_on s a) (ap (λ (k : ℕ). k + 1) e ∙ sym (length-append run (a ∷ []))) l
over-words i [] (none ∷ rows) s e l =
    let w : (run_end s).words ≡ s.words = simp (eq-eqb s.count 0 e) in
    over-words (suc i) [] rows (run_end s) refl (omega (arith, w, l)) ∙ ap (λ (k : ℕ). (k + size_of (runs_from (suc i) [] rows)) % 2 ^ 64) w
over-words i (a ∷ run) (none ∷ rows) s e l =
    let n : ℕ = size_of (runs_from (suc i) [] rows) in
    let w : (run_end s).words ≡ (s.words + (4 + s.count)) % 2 ^ 64 = simp (ne_eqb s.count 0 (λ z. omega (arith, z, e))) in
    let m = size-more (record { first = i - length (a ∷ run); addresses = a ∷ run }) (runs_from (suc i) [] rows) in
    let b = line-length (record { first = i - length (a ∷ run); addresses = a ∷ run }) in
    over-words (suc i) [] rows (run_end s) refl (omega (arith, w))
    ∙ (let z : ((run_end s).words + n) % 2 ^ 64 ≡ (s.words + size_of (runs_from i (a ∷ run) (none ∷ rows))) % 2 ^ 64 = omega (arith, w, m, b, e) in z)

pub runs_words : (ls : List (List ℕ)) → (runs_in ls).words ≡ length (flat_map (λ p. p) (block_words (line_blocks_in ls))) % 2 ^ 64
unfolding line_blocks_in
runs_words ls =
    over-words 0 [] (map address_in ls) no_runs refl (omega arith)
    ∙ (let n : ℕ = size_of (runs_from 0 [] (map address_in ls)) in let z : (0 + n) % 2 ^ 64 ≡ n % 2 ^ 64 = omega arith in z)

-- THE LINE BLOCKS written, the next of them from line i
pub record Lining (t : List ℕ) (rows : ℕ) (room out : List ℕ) (at row line : ℕ) : Type 0 where
  pub small : line ≤ row
  pub puts : Puts (block_words (runs_from line [] (addresses_from t row))) (block_words (line_blocks_in (line_view t rows).0)) room out at

pub lining_begin : (t : List ℕ) (rows : ℕ) (room : List ℕ) → Lining t rows room room 0 rows 0
unfolding line_blocks_in
lining_begin t rows room = record { small = omega arith; puts = puts_begin _ room }

module _ (t : List ℕ) (rows : ℕ) (room out : List ℕ) (at row line : ℕ) (s : Lining t rows room out at row line) where
  pub lining_end : (run : List ℕ) → addresses_from t row ≡ map some run → PutEach (block_words (line_blocks_in (line_view t rows).0)) room at out
  lining_end run e = puts_end _ _ room out at s.puts (line-last t row line run e)

  module _ (n next : ℕ) (r : RunEnds t row n next) (k : ℕ) (ys : List ℕ)
      (w : PutEach (run_parts line (take n (addresses_from t row))) (mid_of at (length out - at) out) k ys) where
    pub lining_on : Lining t rows room (put_mid at (length out - at) out ys) (at + k) next (line + (n + 1))
    lining_on =
        record { small = omega (arith, s.small, r.on); puts = puts_on _ _ _ _ room out ys at k s.puts (line_on t row line n next r) w }
