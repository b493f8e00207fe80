use native.Mathlib.Omega.{arith}
use mathlib.Core.Path.{ap}
use Rattle.text_rows.specs.Rows.{number_of}
use Rattle.text_labels.specs.Labels.{left_in}
use Rattle.text_labels.proofs.all_rows.Goals as goal

pub returns : goal.returns
unfolding left_in
returns c = (c.new.ensures.0, record { same_kind = ap number_of c.new.ensures.1; ordered = omega arith; inside = omega arith })
