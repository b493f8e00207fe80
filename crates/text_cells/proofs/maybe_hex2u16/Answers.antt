use mathlib.Core.Path.{sym, ◌∙◌}
use mathlib.Core.Option.{none, some}
use Rattle.text_cells.proofs.NumberLaws.{entry_unknown, entry_hex}
use Rattle.text_cells.proofs.maybe_hex2u16.Goals as goal

pub returns-then-equals : goal.returns-then-equals
returns-then-equals c = entry_unknown _ (sym c.equals.ensures ∙ c.if-equals.true)

pub returns-in_err-word : goal.returns-in_err-word
returns-in_err-word c = rw c.from_residual.ensures (entry_hex _ none (sym c.equals.ensures ∙ c.if-equals.false) c.in_err-word.ensures)

pub returns : goal.returns
returns c = entry_hex _ (some c.in_ok-word.word) (sym c.equals.ensures ∙ c.if-equals.false) c.in_ok-word.ensures
