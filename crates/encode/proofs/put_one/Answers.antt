-- A store for each byte. Assumes nothing.
use mathlib.Core.Path.{refl}
use Rattle.writing.proofs.WriteLaws.{too_short, stored}
use Rattle.encode.specs.Scalar.{one}
use Rattle.encode.proofs.put_one.Goals as goal

pub returns-then-out-lt1 : goal.returns-then-out-lt1
returns-then-out-lt1 c = too_short (one c.args.c) _ 1 refl c.if-out-lt1.true

pub returns : goal.returns
returns c = stored (one c.args.c) _ 1 refl c.if-out-lt1.false
