-- Three parts: the head, the first line's number, and the addresses. Assumes nothing.
use borrow.Author.Rules.{rules}
use native.Mathlib.Omega.{arith}
use mathlib.Core.Path.{refl}
use mathlib.Core.List.{List, [], ◌∷◌, ◌++◌, map}
use Prim.Native.Nat.{ℕ}
use lib.ListN.{take, length-map}
use lib.Seq.{length-take-le}
use Rattle.format.specs.Words.{memory_word, number_words}
use Rattle.writing.proofs.Parts.{State, Emits, after, begin, emit, emitted, within, small}
use Rattle.text_runs.specs.Runs.{addresses_from, run_words}
use Rattle.text_runs.proofs.RunLaws.{run_none, run_short, run-parts, run_fits, run-put, room_for_lem}
use Rattle.text_runs.proofs.put_run.Lts as lts
use Rattle.text_runs.proofs.put_run.Reads as reads
use Rattle.text_runs.proofs.put_run.Tie as tie
use Rattle.text_runs.proofs.put_run.Goals as goal

abbrev After-put_run_words : Type 0
After-put_run_words = lts.After-put_run_words tie.the-claims reads.Pre reads.Post

abbrev After-put_number_words : Type 0
After-put_number_words = lts.After-put_number_words tie.the-claims reads.Pre reads.Post

abbrev After-put_word : Type 0
After-put_word = lts.After-put_word tie.the-claims reads.Pre reads.Post

abbrev Else3 : Type 0
Else3 = lts.Else3 tie.the-claims reads.Pre reads.Post

abbrev room : Else3 → List ℕ
room c = c.args.out.now

abbrev addresses : Else3 → List ℕ
addresses c = let a = c.args in map memory_word (take a.n (addresses_from a.t.now a.from))

abbrev whole : Else3 → List ℕ
whole c = let a = c.args in run_words a.first (take a.n (addresses_from a.t.now a.from))

abbrev number : Else3 → List ℕ
number c = number_words c.args.first

abbrev state0 : Else3 → State ℕ
state0 c = record { at = 0; out = room c }

emits0 : (c : Else3) → Emits (whole c) (room c) (whole c) (state0 c)
emits0 c =
    let h = c.if-out-lt4.false in
    let k = c.if-out-n.false in
    begin _ _ (run_fits _ _ _ _ (room c) c.if-n-eq0.false c.requires.0 (omega arith))

abbrev state1 : After-put_word → State ℕ
state1 c = after (state0 c.before.before) c.put_word-at.result c.put_word-at.new.out

emits1 : (c : After-put_word) → Emits (whole c.before.before) (room c.before.before) (number c.before.before ++ (addresses c.before.before ++ [])) (state1 c)
emits1 c =
    emit (emits0 c.before.before) (_ ∷ []) (number c.before.before ++ (addresses c.before.before ++ [])) (run-parts _ _ _ _ (room c.before.before) c.if-n-eq0.false c.requires.0) c.put_word-at.ensures

abbrev state2 : After-put_number_words → State ℕ
state2 c = after (state1 c.before.before.before.before) c.put_number_words-at.result c.put_number_words-at.new.out

emits2 : (c : After-put_number_words) → Emits (whole c.before.before.before.before.before.before) (room c.before.before.before.before.before.before) (addresses c.before.before.before.before.before.before ++ []) (state2 c)
emits2 c = emit (emits1 c.before.before.before.before) (number c.before.before.before.before.before.before) (addresses c.before.before.before.before.before.before ++ []) refl c.put_number_words-at.ensures

abbrev state3 : After-put_run_words → State ℕ
state3 c = after (state2 c.before.before.before.before) c.put_run_words-at.result c.put_run_words-at.new.out

emits3 : (c : After-put_run_words) → Emits (whole c.before.before.before.before.before.before.before.before.before.before) (room c.before.before.before.before.before.before.before.before.before.before) [] (state3 c)
emits3 c = emit (emits2 c.before.before.before.before) (addresses c.before.before.before.before.before.before.before.before.before.before) [] refl c.put_run_words-at.ensures

pub returns-then-n-eq0 : goal.returns-then-n-eq0
returns-then-n-eq0 c = run_none _ _ _ _ _ c.if-n-eq0.true

pub returns-then-out-lt4 : goal.returns-then-out-lt4
returns-then-out-lt4 c = run_short _ _ _ _ _ c.if-n-eq0.false c.requires.0 (omega (arith, c.if-out-lt4.true))

pub returns-then-out-n : goal.returns-then-out-n
returns-then-out-n c =
    run_short _ _ _ _ _ c.if-n-eq0.false c.requires.0 (omega (arith, c.if-out-lt4.false, c.if-out-n.true))

pub offset_bounds-out-at-2 : goal.offset_bounds-out-at-2
offset_bounds-out-at-2 c = let h = within (emits1 c.before.before.before) in search rules

pub offset_bounds-out-at-3 : goal.offset_bounds-out-at-3
offset_bounds-out-at-3 c = let h = within (emits2 c.before.before.before) in search rules

pub put_run_words-at-requires : goal.put_run_words-at-requires
put_run_words-at-requires c =
    let xs = addresses_from c.args.t.now c.args.from in
    (omega (arith, room_for_lem (emits2 c.before.before.before.before) (addresses c.before.before.before.before.before.before.before.before.before.before) [] refl, length-map (take c.args.n xs) memory_word, length-take-le c.args.n xs c.requires.0), c.requires.0, c.requires.1)

pub returns : goal.returns
returns c =
    run-put _ _ _ _ _ c.if-n-eq0.false c.requires.0 _ _ (emitted (emits3 c.before.before.before) refl)

pub slice_bounds-put_number_words-count : goal.slice_bounds-put_number_words-count
slice_bounds-put_number_words-count c = within (emits1 c.before.before.before)

pub slice_bounds-put_number_words-start : goal.slice_bounds-put_number_words-start
slice_bounds-put_number_words-start c = within (emits1 c.before.before.before)

pub overflow_add-at-2 : goal.overflow_add-at-2
overflow_add-at-2 c = small (emits2 c.before.before.before) (omega arith)

pub slice_bounds-put_run_words-count : goal.slice_bounds-put_run_words-count
slice_bounds-put_run_words-count c = within (emits2 c.before.before.before)

pub slice_bounds-put_run_words-start : goal.slice_bounds-put_run_words-start
slice_bounds-put_run_words-start c = within (emits2 c.before.before.before)

pub overflow_add-at-3 : goal.overflow_add-at-3
overflow_add-at-3 c = small (emits3 c.before.before.before) (omega arith)
