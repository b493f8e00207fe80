-- A store for each byte. Assumes nothing.
use mathlib.Core.Path.{refl}
use Rattle.writing.proofs.WriteLaws.{too_short, stored}
use Rattle.encode.specs.Scalar.{two}
use Rattle.encode.proofs.put_two.Goals as goal

pub returns-then-out-lt2 : goal.returns-then-out-lt2
returns-then-out-lt2 c = too_short (two c.args.c) _ 2 refl c.if-out-lt2.true

pub returns : goal.returns
returns c = stored (two c.args.c) _ 2 refl c.if-out-lt2.false
