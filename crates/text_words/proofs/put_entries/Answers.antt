use borrow.Author.Rules.{rules}
use native.Mathlib.Omega.{arith}
use mathlib.Core.Path.{◌≡◌, refl, ap, ◌∙◌, subst}
use Prim.Native.Nat.{ℕ, ◌<◌}
use mathlib.Core.List.{map}
use Rattle.format.specs.Words.{memory_word}
use Rattle.writing.specs.Written.{Put}
use lib.ListN.{length}
use Rattle.writing.proofs.Parts.{same, emitted}
use Rattle.text_cells.specs.Cells.{digit_or16}
use Rattle.text_blocks.specs.Blocks.{entry_digit, table_from, is_table, EntryAt}
use Rattle.text_blocks.proofs.EntryLaws.{short-entry_at}
use Rattle.text_words.specs.Written.{entry_word, entries_from}
use Rattle.text_words.proofs.WordLaws.{putting_begin, putting_none, putting_room, putting_on, putting_end}
use Rattle.text_words.proofs.put_entries.Goals as goal
use Rattle.text_words.proofs.put_entries.Goals.{After-entry_word, Then-w-ne0}

-- an entry of four bytes
entry : (c : Then-w-ne0) → EntryAt c.args.t.now c.loop-i.at c.short_entry-w.result
unfolding is_table table_from entry_digit digit_or16
entry c =
    short-entry_at _ _ _ _ (λ k. (c.shared_slice_known-1.given k).fits) c.short_entry-w.ensures refl c.if-w-ne0.true

room : (c : Then-w-ne0) → let l = c.loop-i in l.i < length l.out
room c =
    let e = entry c in
    putting_room _ _ _ _ _ _ _ c.loop-i.invariant c.loop-i-test.true _ _ _ e.row _ (e.made ∙ ap entry_word e.read)

there : (c : After-entry_word) → let l = c.loop-i in l.i < length l.out
there c =
    putting_room _ _ _ _ _ _ _ c.loop-i.invariant c.loop-i-test.true _ _ _ c.in-Some.ensures _ c.entry_word.ensures

pub loop-i-init : goal.loop-i-init
loop-i-init c = putting_begin _ _ _ _ c.requires.0 c.requires.1

pub loop-i-preserved-then-w-ne0 : goal.loop-i-preserved-then-w-ne0
loop-i-preserved-then-w-ne0 c =
    let e = entry (goal.at.loop-i-preserved-then-w-ne0 c).Then-w-ne0 in
    putting_on _ _ _ _ _ _ _ c.loop-i.invariant c.loop-i-test.true _ _ _ e.row _ (e.made ∙ ap entry_word e.read)

pub shape_of-out-in_default : goal.shape_of-out-in_default
shape_of-out-in_default c = same c.loop-i.invariant.emits

pub returns-in_default : goal.returns-in_default
returns-in_default c =
    absurd (putting_none _ _ _ _ _ _ _ c.loop-i.invariant c.loop-i-test.true c.in_default.ensures)

pub loop-i-preserved : goal.loop-i-preserved
loop-i-preserved c =
    putting_on _ _ _ _ _ _ _ c.loop-i.invariant c.loop-i-test.true _ _ _ c.in-Some.ensures _ c.entry_word.ensures

pub shape_of-out : goal.shape_of-out
shape_of-out c = same c.loop-i.invariant.emits

pub returns : goal.returns
returns c =
    let l = c.loop-i in
    let a = c.args in
    let e : l.i ≡ a.n = omega (arith, l.invariant.count, c.loop-i-test.false) in
    subst (λ (k : ℕ). Put (map memory_word (entries_from a.t.now a.from a.n)) a.out.now k l.out) e (emitted l.invariant.emits (putting_end _ _ _ _ c.loop-i-test.false))

pub offset_bounds-out-i : goal.offset_bounds-out-i
offset_bounds-out-i c = let h = room (goal.at.offset_bounds-out-i c).Then-w-ne0 in search rules

pub bounds-out-i : goal.bounds-out-i
bounds-out-i c = room (goal.at.bounds-out-i c).Then-w-ne0

pub overflow_add-at : goal.overflow_add-at
overflow_add-at c = omega (arith, (entry (goal.at.overflow_add-at c).Then-w-ne0).row.next)

pub overflow_add-at-then-w-ne0 : goal.overflow_add-at-then-w-ne0
overflow_add-at-then-w-ne0 c = omega (arith, (entry (goal.at.overflow_add-at-then-w-ne0 c).Then-w-ne0).row.next)

pub offset_bounds-out-i-in-loop-i : goal.offset_bounds-out-i-in-loop-i
offset_bounds-out-i-in-loop-i c = let h = there (goal.at.offset_bounds-out-i-in-loop-i c).After-entry_word in search rules

pub bounds-out-i-in-loop-i : goal.bounds-out-i-in-loop-i
bounds-out-i-in-loop-i c = there (goal.at.bounds-out-i-in-loop-i c).After-entry_word
