use borrow.Author.Rules.{rules}
use borrow.Author.Tests.{ltb-true}
use native.Mathlib.Omega.{arith}
use Prim.Native.Nat.{◌+◌, ◌<◌, ◌≤◌}
use lib.ListN.{length, get_or}
use mathlib.Core.Path.{◌≡◌, sym, ◌∙◌}
use Rattle.text_lines.proofs.ShortLaws.{four-fits, short_row}
use Rattle.text_lines.proofs.is_short_row.Goals as goal
use Rattle.text_lines.proofs.is_short_row.Goals.{Else-not-is_four_long}

fits : (c : Else-not-is_four_long) → let a = c.args in (a.at + 5 ≤ length a.t.now) × (get_or a.t.now (a.at + 4) 0 ≡ 0x0A)
fits c = four-fits _ _ (sym c.is_four_long.ensures ∙ c.if-not-is_four_long.false)

pub returns : goal.returns
returns c = λ e.
    let a = c.args in
    let l = fits (goal.at.returns c).Else-not-is_four_long in
    let h : 0x0D < get_or a.t.now (a.at + 3) 0 = ltb-true 0x0D (get_or a.t.now (a.at + 3) 0) e in
    short_row _ _ l.0 (omega arith) (omega arith) (λ q. omega arith) (λ q. omega arith) (omega arith) l.1

pub bounds-t-at : goal.bounds-t-at
bounds-t-at c = let h = (fits (goal.at.bounds-t-at c).Else-not-is_four_long).0 in search rules

pub bounds-t-at-3 : goal.bounds-t-at-3
bounds-t-at-3 c = let h = (fits (goal.at.bounds-t-at-3 c).Else-not-is_four_long).0 in search rules

pub bounds-t-at-4 : goal.bounds-t-at-4
bounds-t-at-4 c = let h = (fits (goal.at.bounds-t-at-4 c).Else-not-is_four_long).0 in search rules

pub bounds-t-at-5 : goal.bounds-t-at-5
bounds-t-at-5 c = let h = (fits (goal.at.bounds-t-at-5 c).Else-not-is_four_long).0 in search rules
