-- With room for few labels, or once more with room for many. Assumes nothing.
use mathlib.Core.Path.{◌≡◌, sym, ap, ◌∙◌}
use native.Mathlib.Omega.{arith}
use Rattle.text_read.proofs.+fill_by.Invariants.{turns}
use Rattle.text_read.proofs.+fill_by.Goals as goal

pub fill_in-requires : goal.fill_in-requires
fill_in-requires t c = (c.requires.0, c.requires.1, c.gather-cached.ensures)

-- no more turns after the next
pub fill_by-requires : goal.fill_by-requires
fill_by-requires t c =
    let h : 1 ≡ t = ap turns (sym c.if-many.false) ∙ c.decreases in
    (omega (arith, h), c.requires)
