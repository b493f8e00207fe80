-- The line table, then the divider line. Assumes nothing.
use mathlib.Core.Path.{◌≡◌, sym, ap, subst, ◌∙◌}
use Rattle.format.specs.TextWriter.{line_table, bar_line}
use Rattle.text_lines_out.specs.Walk.{line_blocks_in}
use Rattle.text_lines_out.proofs.SourceLaws.{bar_length}
use Rattle.measuring.specs.Room.{less, less_part}
use Rattle.measuring.proofs.RoomLaws.{less-nothing, part-fits, part-short}
use mathlib.Core.List.{List}
use Prim.Native.Nat.{ℕ}
use Rattle.std.specs.Prelude as prelude
use Rattle.std.specs.Prelude.{Some}
use Rattle.text_write.specs.declared.lines.Source.{Source}
use Rattle.text_write.specs.Layouts.{planned_text, Tabled, SourceOf}
use Rattle.text_write.proofs.lines.measure_source.Goals as goal

tabled : (ws : List ℕ) {source : prelude.Option Source} (p : Source) → source ≡ Some p → SourceOf ws source → Tabled ws p
tabled ws p e s = subst (SourceOf ws) e s

pub returns-in_default : goal.returns-in_default
returns-in_default c =
    less-nothing c.args.room
    ∙ ap (less_part c.args.room) (sym (subst (SourceOf c.args.ws.now) c.in_default.is c.requires.1))

pub measure_line_table-requires : goal.measure_line_table-requires
measure_line_table-requires c = (c.requires.0, subst (SourceOf c.args.ws.now) c.in-Some.is c.requires.1)

pub returns-in_err-left : goal.returns-in_err-left
returns-in_err-left c =
    let ws = c.args.ws.now in
    rw c.from_residual.ensures (part-short c.args.room (line_table (planned_text ws c.in-Some.p) (line_blocks_in ws)) bar_line (tabled c.args.ws.now c.in-Some.p c.in-Some.is c.requires.1).whole
    c.in_err-left.ensures)

pub returns : goal.returns
returns c =
    let ws = c.args.ws.now in
    c.take.ensures ∙ ap (less c.in_ok-left.left) (sym bar_length)
    ∙ part-fits c.args.room (line_table (planned_text ws c.in-Some.p) (line_blocks_in ws)) bar_line (tabled c.args.ws.now c.in-Some.p c.in-Some.is c.requires.1).whole
    c.in_ok-left.ensures
