-- The word of what a table says of the four bytes. Assumes nothing.
use Rattle.std.proofs.Common.{◌≡◌, ◌+◌, ◌≤◌, true, length, sym, ◌∙◌, rules}
use Rattle.text_lines.specs.Lines.{is_four_long}
use Rattle.text_lines.proofs.ShortLaws.{four-fits}
use Rattle.text_blocks.proofs.EntryLaws.{short_none, short-word}
use Rattle.text_blocks.proofs.short_entry.Goals as goal
use Rattle.text_blocks.proofs.short_entry.Goals.{Else-not-is_four_long}

four : (c : Else-not-is_four_long) → let a = c.args in is_four_long a.t.now a.at ≡ true
four c = sym c.is_four_long.ensures ∙ c.if-not-is_four_long.false

fits : (c : Else-not-is_four_long) → let a = c.args in a.at + 5 ≤ length a.t.now
fits c = (four-fits _ _ (four c)).0

pub returns-then-not-is_four_long : goal.returns-then-not-is_four_long
returns-then-not-is_four_long c = short_none _ _ _ (sym c.is_four_long.ensures ∙ c.if-not-is_four_long.true)

pub returns : goal.returns
returns c =
    c.four_word.ensures
    ∙ short-word _ _ _ (four (goal.at.returns c).Else-not-is_four_long) _ _ _ _ c.digit_in-a.ensures.0 c.digit_in-b.ensures.0 c.digit_in-c.ensures.0 c.digit_in-d.ensures.0

pub bounds-t-at : goal.bounds-t-at
bounds-t-at c = let h = fits (goal.at.bounds-t-at c).Else-not-is_four_long in search rules

pub overflow_add-at : goal.overflow_add-at
overflow_add-at c = let h = fits (goal.at.overflow_add-at c).Else-not-is_four_long in search rules

pub bounds-t-at-2 : goal.bounds-t-at-2
bounds-t-at-2 c = let h = fits (goal.at.bounds-t-at-2 c).Else-not-is_four_long in search rules

pub overflow_add-at-2 : goal.overflow_add-at-2
overflow_add-at-2 c = let h = fits (goal.at.overflow_add-at-2 c).Else-not-is_four_long in search rules

pub bounds-t-at-3 : goal.bounds-t-at-3
bounds-t-at-3 c = let h = fits (goal.at.bounds-t-at-3 c).Else-not-is_four_long in search rules

pub overflow_add-at-3 : goal.overflow_add-at-3
overflow_add-at-3 c = let h = fits (goal.at.overflow_add-at-3 c).Else-not-is_four_long in search rules

pub bounds-t-at-4 : goal.bounds-t-at-4
bounds-t-at-4 c = let h = fits (goal.at.bounds-t-at-4 c).Else-not-is_four_long in search rules
