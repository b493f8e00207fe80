-- Three parts: the first word, the source start and the words of the name. Assumes nothing.
use borrow.Author.Rules.{rules}
use native.Mathlib.Omega.{arith}
use mathlib.Core.Path.{◌≡◌, refl, sym, ap}
use mathlib.Core.List.{List, [], ◌∷◌, ◌++◌, append-nil}
use Prim.Native.Nat.{ℕ, ◌+◌, ◌*◌, ◌^◌, ◌≤◌}
use lib.ListN.{length}
use Rattle.format.specs.ObjectFile.{Label}
use Rattle.format.specs.Records.{label}
use Rattle.format.specs.Words.{word, flag_bit, number_words, text_words, record_words}
use Rattle.writing.specs.Written.{Put}
use Rattle.writing.proofs.WriteLaws.{too_short}
use Rattle.writing.proofs.Parts.{State, Emits, after, rest, begin, emit, emitted, within, small}
use Rattle.format.proofs.Counts.{label-length}
use Rattle.text_words.proofs.WordLaws.{thirds}
use Rattle.text_words.proofs.put_label.Goals as goal
use Rattle.text_words.proofs.put_label.Goals.{After-put_word-at, After-put_number_words-at}

module _ (out : List ℕ) (l : Label) where
  abbrev start : State ℕ
  start = record { at = 0; out = out }

  head-put : (w r : ℕ) (o : List ℕ) → length (record_words (label l)) ≤ length out → w ≡ word 2 (l.address + 2 ^ 16 * flag_bit l.external)
      → Put (w ∷ []) (rest start) r o → Emits (record_words (label l)) out (number_words l.start ++ text_words l.name) (after start r o)
  unfolding record_words
  head-put w r o h e p = emit (begin _ _ h) (w ∷ []) _ (ap (λ (x : ℕ). x ∷ number_words l.start ++ text_words l.name) (sym e)) p

emits1 : (c : After-put_word-at) →
    let a = c.args in
    Emits (record_words (label (record { name = a.name.now; address = a.address; external = a.external; start = a.start }))) a.out.now
    (number_words a.start ++ text_words a.name.now) (after (record { at = 0; out = a.out.now }) c.put_word-at.result c.put_word-at.new.out)
emits1 c =
    let a = c.args in
    let l : Label = record { name = a.name.now; address = a.address; external = a.external; start = a.start } in
    head-put a.out.now l _ _ _ (omega (arith, label-length l, c.if-out-div_ceil.false, c.div_ceil.ensures, thirds (length a.name.now))) c.label_word-head.ensures c.put_word-at.ensures

emits2 : (c : After-put_number_words-at) →
    let a = c.args in
    Emits (record_words (label (record { name = a.name.now; address = a.address; external = a.external; start = a.start }))) a.out.now
    (text_words a.name.now) (after (after (record { at = 0; out = a.out.now }) c.put_word-at.result c.put_word-at.new.out) c.put_number_words-at.result c.put_number_words-at.new.out)
emits2 c =
    let a = c.args in
    let l : Label = record { name = a.name.now; address = a.address; external = a.external; start = a.start } in
    emit
    (head-put a.out.now l _ _ _ (omega (arith, label-length l, c.if-out-div_ceil.false, c.div_ceil.ensures, thirds (length a.name.now))) c.label_word-head.ensures c.put_word-at.ensures)
    (number_words a.start) (text_words a.name.now) refl c.put_number_words-at.ensures

pub returns-then-out-div_ceil : goal.returns-then-out-div_ceil
returns-then-out-div_ceil c =
    let a = c.args in
    let l : Label = record { name = a.name.now; address = a.address; external = a.external; start = a.start } in
    too_short _ _ _ (label-length l) (omega (arith, c.if-out-div_ceil.true, c.div_ceil.ensures, thirds (length a.name.now)))

pub offset_bounds-out-at-2 : goal.offset_bounds-out-at-2
offset_bounds-out-at-2 c = let h = within (emits1 (goal.at.offset_bounds-out-at-2 c).After-put_word-at) in search rules

pub slice_bounds-put_number_words-count : goal.slice_bounds-put_number_words-count
slice_bounds-put_number_words-count c = within (emits1 (goal.at.slice_bounds-put_number_words-count c).After-put_word-at)

pub slice_bounds-put_number_words-start : goal.slice_bounds-put_number_words-start
slice_bounds-put_number_words-start c = within (emits1 (goal.at.slice_bounds-put_number_words-start c).After-put_word-at)

pub overflow_add-at-2 : goal.overflow_add-at-2
overflow_add-at-2 c = small (emits2 (goal.at.overflow_add-at-2 c).After-put_number_words-at) (omega arith)

pub offset_bounds-out-at-3 : goal.offset_bounds-out-at-3
offset_bounds-out-at-3 c = let h = within (emits2 (goal.at.offset_bounds-out-at-3 c).After-put_number_words-at) in search rules

pub slice_bounds-put_text_words-count : goal.slice_bounds-put_text_words-count
slice_bounds-put_text_words-count c = within (emits2 (goal.at.slice_bounds-put_text_words-count c).After-put_number_words-at)

pub slice_bounds-put_text_words-start : goal.slice_bounds-put_text_words-start
slice_bounds-put_text_words-start c = within (emits2 (goal.at.slice_bounds-put_text_words-start c).After-put_number_words-at)

pub overflow_add-at-3 : goal.overflow_add-at-3
overflow_add-at-3 c =
    small (emit (emits2 (goal.at.overflow_add-at-3 c).After-put_number_words-at) (text_words c.args.name.now) [] (sym (append-nil _)) c.put_text_words-at.ensures) (omega arith)

pub returns : goal.returns
returns c =
    emitted (emit (emits2 (goal.at.returns c).After-put_number_words-at) (text_words c.args.name.now) [] (sym (append-nil _)) c.put_text_words-at.ensures) refl
