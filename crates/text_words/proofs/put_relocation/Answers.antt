-- Two parts: the first word, and the words of the name. Assumes nothing.
use borrow.Author.Rules.{rules}
use native.Mathlib.Omega.{arith}
use mathlib.Core.Path.{◌≡◌, refl, sym, ap}
use mathlib.Core.List.{List, [], ◌∷◌, append-nil}
use Prim.Native.Nat.{ℕ, ◌+◌, ◌≤◌}
use lib.ListN.{length}
use Rattle.format.specs.ObjectFile.{Relocation}
use Rattle.format.specs.Records.{relocation}
use Rattle.format.specs.Words.{text_words, record_words}
use Rattle.writing.specs.Written.{Put}
use Rattle.writing.proofs.WriteLaws.{too_short}
use Rattle.writing.proofs.Parts.{State, Emits, after, rest, begin, emit, emitted, within, small}
use Rattle.format.proofs.Counts.{relocation-length}
use Rattle.text_words.proofs.WordLaws.{thirds}
use Rattle.text_words.proofs.put_relocation.Goals as goal
use Rattle.text_words.proofs.put_relocation.Goals.{After-put_word-at}

module _ (out : List ℕ) (x : Relocation) where
  abbrev start : State ℕ
  start = record { at = 0; out = out }

  head-put : (w r : ℕ) (o : List ℕ) → length (record_words (relocation x)) ≤ length out → w ≡ 0xA000_0000 + x.address
      → Put (w ∷ []) (rest start) r o → Emits (record_words (relocation x)) out (text_words x.name) (after start r o)
  unfolding record_words
  head-put w r o h e p = emit (begin _ _ h) (w ∷ []) _ (ap (λ (y : ℕ). y ∷ text_words x.name) (sym e)) p

emits1 : (c : After-put_word-at) →
    let a = c.args in
    Emits (record_words (relocation (record { address = a.address; name = a.name.now }))) a.out.now
    (text_words a.name.now) (after (record { at = 0; out = a.out.now }) c.put_word-at.result c.put_word-at.new.out)
emits1 c =
    let a = c.args in
    let x : Relocation = record { address = a.address; name = a.name.now } in
    head-put a.out.now x _ _ _ (omega (arith, relocation-length x, c.if-out-div_ceil.false, c.div_ceil.ensures, thirds (length a.name.now)))
    (ap (λ (n : ℕ). 0xA000_0000 + n) c.from.ensures) c.put_word-at.ensures

pub returns-then-out-div_ceil : goal.returns-then-out-div_ceil
returns-then-out-div_ceil c =
    let a = c.args in
    let x : Relocation = record { address = a.address; name = a.name.now } in
    too_short _ _ _ (relocation-length x) (omega (arith, c.if-out-div_ceil.true, c.div_ceil.ensures, thirds (length a.name.now)))

pub offset_bounds-out-at-2 : goal.offset_bounds-out-at-2
offset_bounds-out-at-2 c = let h = within (emits1 (goal.at.offset_bounds-out-at-2 c).After-put_word-at) in search rules

pub slice_bounds-put_text_words-count : goal.slice_bounds-put_text_words-count
slice_bounds-put_text_words-count c = within (emits1 (goal.at.slice_bounds-put_text_words-count c).After-put_word-at)

pub slice_bounds-put_text_words-start : goal.slice_bounds-put_text_words-start
slice_bounds-put_text_words-start c = within (emits1 (goal.at.slice_bounds-put_text_words-start c).After-put_word-at)

pub overflow_add-at-2 : goal.overflow_add-at-2
overflow_add-at-2 c =
    small (emit (emits1 (goal.at.overflow_add-at-2 c).After-put_word-at) (text_words c.args.name.now) [] (sym (append-nil _)) c.put_text_words-at.ensures) (omega arith)

pub returns : goal.returns
returns c =
    emitted (emit (emits1 (goal.at.returns c).After-put_word-at) (text_words c.args.name.now) [] (sym (append-nil _)) c.put_text_words-at.ensures) refl
