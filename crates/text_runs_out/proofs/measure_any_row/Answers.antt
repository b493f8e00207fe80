-- Up to the next line's start, in the source. Assumes nothing.
use mathlib.Core.Path.{◌≡◌, ap, ◌∙◌}
use Prim.Native.Nat.{ℕ}
use Rattle.text_numerals.specs.Memory.{word_of}
use Rattle.measuring.specs.Room.{less_part}
use Rattle.text_escape.specs.Escaped.{escaped_in}
use Rattle.text_escape.specs.Rows.{line_line}
use Rattle.text_lines_out.specs.Merge.{smaller}
use Rattle.text_lines_out.specs.Runs.{source_of}
use Rattle.text_lines_out.proofs.LineLaws.{min-is}
use Rattle.text_runs_out.specs.Lines.{next_start, line_at}
use Rattle.text_runs_out.proofs.measure_any_row.Goals as goal
use Rattle.text_runs_out.proofs.measure_any_row.Goals.{After-min-end}

size : (c : After-min-end) → let a = c.args in
    less_part a.room (line_line a.t.width a.row.number (word_of a.row.address) (escaped_in a.ws.now a.t.text a.start c.min-end.result))
    ≡ less_part a.room (line_at a.ws.now a.t a.row.number (word_of a.row.address) a.start)
size c =
    let a = c.args in
    let e : c.min-end.result ≡ smaller (next_start (source_of a.ws.now a.t) a.start) a.t.n =
    c.min-end.ensures ∙ min-is _ _ ∙ ap (λ (x : ℕ). smaller x a.t.n) c.next_line-next.ensures in
    ap (λ (x : ℕ). less_part a.room (line_line a.t.width a.row.number (word_of a.row.address) (escaped_in a.ws.now a.t.text a.start x))) e

pub returns-in_err-left : goal.returns-in_err-left
returns-in_err-left c = rw c.from_residual.ensures (c.in_err-left.ensures ∙ size (goal.at.returns-in_err-left c).After-min-end)

pub returns : goal.returns
returns c = (c.in_ok-left.ensures ∙ size (goal.at.returns c).After-min-end, c.next_line-next.ensures)
