use Rattle.std.proofs.Common.{sym, ap, ◌∙◌}
use Rattle.std.specs.Prelude.{ℕ, Option}
use Rattle.text_cells.specs.Cells.{number_read}
use Rattle.text_debug.specs.LineRuns.{run_next}
use Rattle.text_debug.proofs.run_next.Goals as goal

pub returns-in-Some : goal.returns-in-Some
returns-in-Some c =
    c.run_on.ensures ∙ sym (ap (λ (o : Option ℕ). run_next c.args.s (number_read o)) c.in-Some.is)

pub returns-in-None : goal.returns-in-None
returns-in-None c =
    c.run_end.ensures ∙ sym (ap (λ (o : Option ℕ). run_next c.args.s (number_read o)) c.in-None.is)

pub run_on-requires : goal.run_on-requires
run_on-requires c = c.requires

pub run_end-requires : goal.run_end-requires
run_end-requires c = c.requires
