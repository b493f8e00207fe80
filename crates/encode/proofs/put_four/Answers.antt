-- A store for each byte. Assumes nothing.
use mathlib.Core.Path.{refl}
use Rattle.writing.proofs.WriteLaws.{too_short, stored}
use Rattle.encode.specs.Scalar.{four}
use Rattle.encode.proofs.put_four.Goals as goal

pub returns-then-out-lt4 : goal.returns-then-out-lt4
returns-then-out-lt4 c = too_short (four c.args.c) _ 4 refl c.if-out-lt4.true

pub returns : goal.returns
returns c = stored (four c.args.c) _ 4 refl c.if-out-lt4.false
