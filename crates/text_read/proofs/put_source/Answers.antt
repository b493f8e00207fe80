-- Two parts: the head, and the text. Assumes nothing.
use borrow.Author.Rules.{rules}
use native.Mathlib.Omega.{arith}
use mathlib.Core.Path.{refl}
use mathlib.Core.List.{[], ◌∷◌, ◌++◌}
use Rattle.format.specs.Words.{text_words}
use Rattle.writing.proofs.Parts.{Emits, after, begin, emit, emitted, within, small}
use Rattle.text_read.specs.SourceText.{source_at}
use Rattle.text_read.specs.Parts.{joined, source_parts}
use Rattle.text_runs.proofs.RunLaws.{room_for_lem}
use Rattle.text_read.proofs.PartLaws.{source-none, source-whole, none-put}
use Rattle.text_read.proofs.put_source.Goals as goal
use Rattle.text_read.proofs.put_source.Goals.{After-put_word-at}
use mathlib.Core.Bool.{true, false}

emits1 : (c : After-put_word-at) →
    let a = c.args in
    let rows = c.in-Some.rows.start in
    Emits (joined (source_parts true a.t.now rows)) a.out.now (text_words (source_at a.t.now rows) ++ []) (after (record { at = 0; out = a.out.now }) c.put_word-at.result c.put_word-at.new.out)
emits1 c =
    emit (begin _ _ (rw c.in-Some.is at c.requires.1)) (_ ∷ []) (text_words (source_at c.args.t.now c.in-Some.rows.start) ++ []) (source-whole true _ _ refl) c.put_word-at.ensures

pub offset_bounds-out-at-2 : goal.offset_bounds-out-at-2
offset_bounds-out-at-2 c = let h = within (emits1 (goal.at.offset_bounds-out-at-2 c).After-put_word-at) in search rules

pub put_source_text-at-requires : goal.put_source_text-at-requires
put_source_text-at-requires c =
    ((rw c.in-Some.is at c.requires.0) refl, room_for_lem (emits1 (goal.at.put_source_text-at-requires c).After-put_word-at) (text_words (source_at c.args.t.now c.in-Some.rows.start)) [] refl)

pub returns-in_default : goal.returns-in_default
returns-in_default c = rw c.in_default.is (none-put _ _ (source-none false _ _ refl))

pub slice_bounds-put_source_text-count : goal.slice_bounds-put_source_text-count
slice_bounds-put_source_text-count c = within (emits1 (goal.at.slice_bounds-put_source_text-count c).After-put_word-at)

pub slice_bounds-put_source_text-start : goal.slice_bounds-put_source_text-start
slice_bounds-put_source_text-start c = within (emits1 (goal.at.slice_bounds-put_source_text-start c).After-put_word-at)

pub overflow_add-at-2 : goal.overflow_add-at-2
overflow_add-at-2 c =
    small (emit (emits1 (goal.at.overflow_add-at-2 c).After-put_word-at) (text_words (source_at c.args.t.now c.in-Some.rows.start)) [] refl c.put_source_text-at.ensures) (omega arith)

pub returns : goal.returns
returns c =
    rw c.in-Some.is (emitted (emit (emits1 (goal.at.returns c).After-put_word-at) (text_words (source_at c.args.t.now c.in-Some.rows.start)) [] refl c.put_source_text-at.ensures) refl)
