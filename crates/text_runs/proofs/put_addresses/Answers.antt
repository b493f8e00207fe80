-- Row by row. Assumes nothing.
use mathlib.Core.Path.{◌≡◌, subst}
use mathlib.Core.List.{map}
use Prim.Native.Nat.{ℕ}
use native.Mathlib.Omega.{arith}
use lib.ListN.{take}
use Rattle.format.specs.Words.{memory_word}
use Rattle.writing.specs.Written.{Put}
use Rattle.writing.proofs.Parts.{emitted}
use Rattle.text_runs.specs.Runs.{addresses_from}
use Rattle.text_runs.proofs.RunLaws.{putting_on, putting_end}
use Rattle.text_runs.proofs.put_addresses.Goals as goal

pub loop-i-preserved : goal.loop-i-preserved
loop-i-preserved c = putting_on _ _ _ _ _ _ _ c.loop-i.invariant c.loop-i-test.true _ _ _ c.in-Some.ensures _ c.address_word.ensures

pub returns : goal.returns
returns c =
    let l = c.loop-i in
    let a = c.args in
    let e : l.i ≡ a.n = omega (arith, l.invariant.count, c.loop-i-test.false) in
    subst (λ (k : ℕ). Put (map memory_word (take a.n (addresses_from a.t.now a.from))) a.out.now k l.out) e
    (emitted l.invariant.emits (putting_end _ _ _ _ c.loop-i-test.false))
