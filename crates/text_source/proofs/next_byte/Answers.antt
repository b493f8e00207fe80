-- The byte that the cursor is then at. Assumes nothing.
use Rattle.std.proofs.Common.{refl, ◌∙◌}
use Rattle.text_source.proofs.StreamLaws.{byte_here}
use Rattle.text_source.proofs.next_byte.Goals as goal

pub returns : goal.returns
returns c =
    let p = c.in_ok-d.ensures in
    p.0 ∙ byte_here _ _ _ _ _ refl p.1 p.2
