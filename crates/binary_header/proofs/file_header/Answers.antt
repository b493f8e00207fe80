use mathlib.Core.Path.{refl}
use Rattle.format.specs.Binary.{magic, version, header}
use Rattle.binary_header.proofs.file_header.Goals as goal

pub returns : goal.returns
unfolding magic version header
returns c = refl
