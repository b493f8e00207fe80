-- The words that are kept, or those of the rows. Assumes nothing.
use native.Mathlib.Omega.{arith}
use mathlib.Core.Path.{◌≡◌, ap, ◌∙◌, subst}
use mathlib.Core.List.{List, map}
use Prim.Native.Nat.{ℕ, ◌-◌}
use lib.ListN.{take}
use Rattle.format.specs.Words.{memory_word}
use Rattle.writing.specs.Written.{Put}
use Rattle.text_runs.specs.Runs.{addresses_from}
use Rattle.text_runs.proofs.put_run_words.Goals as goal
use Rattle.text_runs.proofs.put_run_words.Goals.{Then-n-kept}

lent : (c : Then-n-kept) →
    let a = c.args in
    take (a.n - 0) a.kept.now ≡ map memory_word (take a.n (addresses_from a.t.now a.from))
lent c =
    let z : c.args.n - 0 ≡ c.args.n = omega arith in
    ap (λ (j : ℕ). take j c.args.kept.now) z ∙ c.requires.2 c.if-n-kept.true

pub returns-then-n-kept : goal.returns-then-n-kept
returns-then-n-kept c =
    subst (λ (xs : List ℕ). Put xs c.args.out.now c.put_words.result c.put_words.new.out) (lent (goal.at.returns-then-n-kept c).Then-n-kept) c.put_words.ensures

pub put_addresses-requires : goal.put_addresses-requires
put_addresses-requires c = (c.requires.0, c.requires.1)

pub slice_bounds-put_words-end : goal.slice_bounds-put_words-end
slice_bounds-put_words-end c = omega (arith, c.if-n-kept.true)

pub returns : goal.returns
returns c = c.put_addresses.ensures
