use mathlib.Core.Path.{subst}
use Prim.Native.Nat.{ℕ, ◌+◌}
use Rattle.format.proofs.TrimLaws.{Visible}
use Rattle.text_tables.specs.RowCells.{IsSpace, Run, BarAfter}
use Rattle.text_tables.proofs.WrittenLaws.{written_is, spaces_run}
use Rattle.text_tables.proofs.find_written.Goals as goal
use Rattle.text_tables.proofs.find_written.Goals.{After-spaces_end-p, Else-not-has_bar, After-spaces_end-d}

pad : (c : After-spaces_end-p) → Run IsSpace c.args.l.now c.visible_end-n.result c.spaces_end-p.result
pad c =
    let e = c.spaces_end-p.ensures in
    spaces_run _ _ _ e.0 (e.1 c.visible_end-n.ensures.inside) e.2

bar : (c : Else-not-has_bar) → BarAfter c.args.l.now c.visible_end-n.result c.spaces_end-p.result
bar c = c.has_bar.ensures c.if-not-has_bar.false

gap : (c : After-spaces_end-d) → Run IsSpace c.args.l.now (c.spaces_end-p.result + 2) c.spaces_end-d.result
gap c =
    let e = c.spaces_end-d.ensures in
    spaces_run _ _ _ e.0 (e.1 (c.has_bar.ensures c.if-not-has_bar.false).1) e.2

pub has_bar-requires : goal.has_bar-requires
has_bar-requires c = let r = pad (goal.at.has_bar-requires c).After-spaces_end-p in (r.ordered, r.inside)

pub visible_end-requires : goal.visible_end-requires
visible_end-requires c = (gap (goal.at.visible_end-requires c).After-spaces_end-d).inside

pub returns : goal.returns
returns c =
    let g = goal.at.returns c in
    let b = bar g.Else-not-has_bar in
    let l = c.args.l.now in
    let d = gap g.After-spaces_end-d in
    written_is l c.visible_end-n.result c.spaces_end-p.result c.spaces_end-d.result c.visible_end-n.ensures (pad g.After-spaces_end-p)
    b.0 b.1 b.2 b.3 d (subst (λ (z : ℕ). Run Visible l c.spaces_end-d.result z) c.if-visible_end-l.false c.visible_end.ensures)
