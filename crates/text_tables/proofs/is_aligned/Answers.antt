use native.Mathlib.Omega.{arith}
use mathlib.Core.Path.{sym, ◌∙◌}
use Rattle.text_cells.proofs.CellLaws.{bar_bytes}
use Rattle.text_tables.proofs.CellLaws.{aligned}
use Rattle.text_tables.proofs.is_aligned.Goals as goal

pub returns : goal.returns
returns c = λ e.
    let d = c.has_digit.ensures c.if-not-has_digit.false in
    let v = c.shows_four.ensures e in
    aligned _ c.if-l-lt13.false (bar_bytes c.args.l.now 4 (omega arith) (sym c.is_divider.ensures ∙ c.if-not-is_divider.false))
    (bar_bytes c.args.l.now 10 (omega arith) (sym c.is_divider-2.ensures ∙ c.if-not-is_divider-2.false))
    d.0 d.1 d.2 d.3 (v.0, (v.1, (v.2, (v.3, tt))))
