-- Its digits, stored. Assumes nothing.
use mathlib.Core.Path.{subst}
use mathlib.Core.List.{List}
use Prim.Native.Nat.{ℕ}
use Rattle.writing.specs.Written.{Put}
use Rattle.text_numerals.proofs.DigitLaws.{made}
use Rattle.text_numerals.proofs.put_hex4.Goals as goal

pub returns : goal.returns
returns c =
    subst (λ (p : List ℕ). Put p c.args.out.now c.put_all.result c.put_all.new.out)
    (made c.args.v _ _ _ _ c.digit-a.ensures c.digit-b.ensures c.digit-c.ensures c.digit-d.ensures) c.put_all.ensures
