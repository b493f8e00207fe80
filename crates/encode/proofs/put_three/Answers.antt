-- A store for each byte. Assumes nothing.
use mathlib.Core.Path.{refl}
use Rattle.writing.proofs.WriteLaws.{too_short, stored}
use Rattle.encode.specs.Scalar.{three}
use Rattle.encode.proofs.put_three.Goals as goal

pub returns-then-out-lt3 : goal.returns-then-out-lt3
returns-then-out-lt3 c = too_short (three c.args.c) _ 3 refl c.if-out-lt3.true

pub returns : goal.returns
returns c = stored (three c.args.c) _ 3 refl c.if-out-lt3.false
