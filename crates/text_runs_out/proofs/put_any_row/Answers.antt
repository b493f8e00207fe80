-- Up to the next line's start, in the source. Assumes nothing.
use mathlib.Core.Path.{◌≡◌, ap, subst, ◌∙◌}
use Prim.Native.Nat.{ℕ}
use Rattle.writing.specs.Written.{Put}
use Rattle.text_numerals.specs.Memory.{word_of}
use Rattle.text_escape.specs.Escaped.{escaped_in}
use Rattle.text_escape.specs.Rows.{line_line}
use Rattle.text_lines_out.specs.Merge.{smaller}
use Rattle.text_lines_out.specs.Runs.{source_of}
use Rattle.text_lines_out.proofs.LineLaws.{min-is}
use Rattle.text_runs_out.specs.Lines.{next_start}
use Rattle.text_runs_out.proofs.put_any_row.Goals as goal

pub returns : goal.returns
returns c =
    let a = c.args in
    let e : c.min-end.result ≡ smaller (next_start (source_of a.ws.now a.t) a.start) a.t.n =
    c.min-end.ensures ∙ min-is _ _ ∙ ap (λ (x : ℕ). smaller x a.t.n) c.next_line-next.ensures in (
      subst (λ (x : ℕ). Put (line_line a.t.width a.row.number (word_of a.row.address) (escaped_in a.ws.now a.t.text a.start x)) a.out.now
          c.put_line_row-len.result c.put_line_row-len.new.out) e c.put_line_row-len.ensures,
      c.next_line-next.ensures,
    )
