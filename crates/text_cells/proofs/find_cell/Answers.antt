-- Divider by divider. Assumes nothing.
use native.Mathlib.Omega.{arith}
use mathlib.Core.Path.{◌≡◌, sym, ap, ◌∙◌}
use mathlib.Core.List.{List, []}
use Prim.Native.Nat.{ℕ, ◌+◌, ◌-◌}
use lib.ListN.{drop, get_or, length-drop}
use Rattle.std.specs.Prelude.{Some}
use Rattle.format.specs.TextReader.{splitn}
use Rattle.text_cells.specs.Cells.{Cut}
use Rattle.text_lines.proofs.TestLaws.{drop_more}
use Rattle.text_cells.proofs.CellLaws.{cell_missing, cell_none1, cell-on, none-there, some_there, spans-none}
use Rattle.text_cells.proofs.find_cell.Goals as goal
use Rattle.text_cells.proofs.find_cell.Goals.{In-Some}

there : (c : In-Some) → Cut (drop c.loop-cell.at c.args.s.now) (Some c.in-Some.p)
there c = some_there c.args.s.now c.loop-cell.at _ c.in-Some.ensures

pub returns-then-k-i : goal.returns-then-k-i
returns-then-k-i c = spans-none _ _ (sym (cell_missing _ _ c.args.s.now c.if-k-i.true))

pub returns-in_default : goal.returns-in_default
returns-in_default c =
    let a = c.args in
    let l = c.loop-cell in
    let s = a.s.now in
    spans-none _ _
    (sym (cell_none1 (drop l.at s) (a.k - l._cell) (a.i - l._cell) (λ z. omega (arith, z, c.if-k-i.false, c.loop-cell-test.true)) (none-there s l.at c.in_default.ensures) (omega (arith, c.loop-cell-test.true)))
    ∙ l.invariant.1)

pub loop-cell-preserved : goal.loop-cell-preserved
loop-cell-preserved c =
    let a = c.args in
    let l = c.loop-cell in
    let s = a.s.now in
    let p = c.in-Some.p in
    let t = there (goal.at.loop-cell-preserved c).In-Some in
    let cuts : a.k - l._cell - 1 ≡ a.k - (l._cell + 1) = omega arith in
    let cells : a.i - l._cell - 1 ≡ a.i - (l._cell + 1) = omega arith in (
      omega (arith, t.0, length-drop l.at s),
      sym (ap (λ (j : ℕ). get_or (splitn j (drop (l.at + (p + 3)) s)) (a.i - l._cell - 1) []) cuts
          ∙ ap (λ (j : ℕ). get_or (splitn (a.k - (l._cell + 1)) (drop (l.at + (p + 3)) s)) j []) cells)
          ∙ ap (λ (x : List ℕ). get_or (splitn (a.k - l._cell - 1) x) (a.i - l._cell - 1) []) (sym (drop_more s l.at (p + 3)))
          ∙ sym (cell-on (drop l.at s) (a.k - l._cell) (a.i - l._cell) p (λ z. omega (arith, z, c.if-k-i.false, c.loop-cell-test.true)) t.1 (omega (arith, c.loop-cell-test.true)))
          ∙ l.invariant.1,
    )

pub returns : goal.returns
returns c =
    let a = c.args in
    let l = c.loop-cell in
    let k : l._cell ≡ a.i = omega (arith, l.auto._cell-end, c.loop-cell-test.false) in
    let d : a.i - a.i ≡ 0 = omega arith in
    let e = rw (k, d) at l.invariant.1 in
    let f = c.first_cell.ensures in
    record { ordered = f.ordered; inside = f.inside; same = f.same ∙ e }
