use borrow.Author.Tests.{le-ltb}
use native.Mathlib.Omega.{arith}
use mathlib.Core.Path.{sym, ap, ◌∙◌}
use mathlib.Core.Bool.{not}
use Rattle.text_lines.proofs.ShortLaws.{row-left, row-seen}
use Rattle.text_lines.proofs.has_row.Goals as goal

pub returns-then-shows_row : goal.returns-then-shows_row
returns-then-shows_row c =
    let w = c.shows_row.ensures c.if-shows_row.true in
    let s = c.spaces_end-i.ensures in
    ap not (sym (row-left _ _ _ c.if-i-t.true s.0 s.2 w.0 w.1 (λ q. w.2 (le-ltb c.args.at c.spaces_end-i.result (omega arith)))))

pub returns : goal.returns
returns c = c.is_some.ensures ∙ row-seen _ _ c.next_row.result c.next_row.ensures
