use Rattle.text_rows.proofs.StepLaws.{begins_at}
use Rattle.text_rows.proofs.first_place.Goals as goal

pub returns : goal.returns
returns c = λ kind. begins_at _ _ kind c.end_of_group.ensures
