use native.Mathlib.Omega.{arith}
use mathlib.Core.Path.{◌≡◌, sym, ap, ◌∙◌}
use mathlib.Core.List.{List}
use Prim.Native.Nat.{ℕ}
use lib.ListN.{length}
use Rattle.std.proofs.lemmas.Result.{err_from_is_err_and}
use Rattle.format.specs.Calls.{checked}
use Rattle.object.proofs.Formed.{Formed, formed}
use Rattle.units.specs.Refusal.{number_of}
use Rattle.well_formed.proofs.NumberLaws.{number_some}
use Rattle.part_counts.proofs.PartLaws.{few-labels, parts-counted}
use Rattle.part_counts.specs.declared.PartCounts.{PartCounts}
use Rattle.part_counts.specs.Parts.{counts_of}
use Rattle.tariff.specs.Tariff.{addends, fee_of}
use Rattle.tariff.proofs.TariffLaws.{fee_ill_formed, fee_long, fee_charged, refused_is}
use Rattle.tariff.proofs.lending_fee.Goals as goal

-- well formed words
well : (ws : List ℕ) → 0 ≡ checked ws → Formed ws
well ws e = formed ws (sym e)

pub returns-in_err-check : goal.returns-in_err-check
returns-in_err-check c =
    let r = c.in_err-check.field-0.0 in
    let p = err_from_is_err_and c.from_residual.result c.from_residual.ensures.1 in
    rw (p.1, p.2)
    (refused_is (number_of r) ∙ fee_ill_formed c.args.object.now c.args.member (number_of r) c.in_err-check.ensures
    (λ z. let h = number_some r in omega arith))

pub returns-then-words-gt-MOST_WORDS : goal.returns-then-words-gt-MOST_WORDS
returns-then-words-gt-MOST_WORDS c =
    let f = well c.args.object.now c.in_ok-check.ensures in
    refused_is 38 ∙ fee_long c.args.object.now c.args.member f.object f.is c.if-words-gt-MOST_WORDS.true

pub charge-requires : goal.charge-requires
charge-requires c =
    let few = few-labels c.args.object.now in
    (omega (arith, c.if-words-gt-MOST_WORDS.false), omega (arith, ap (λ (p : PartCounts). p.labels) c.count_parts-counts.ensures, few))

pub returns : goal.returns
unfolding counts_of
returns c =
    let ws = c.args.object.now in
    let f = well ws c.in_ok-check.ensures in
    let labels = ap (λ (p : PartCounts). p.labels) (c.count_parts-counts.ensures ∙ parts-counted ws f.object f.is) in
    c.charge.ensures ∙ ap (λ m. fee_of c.args.member (addends (length ws) m)) labels
    ∙ fee_charged ws c.args.member f.object f.is (omega (arith, c.if-words-gt-MOST_WORDS.false))
