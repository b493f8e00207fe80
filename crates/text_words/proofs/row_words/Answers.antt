use mathlib.Core.Path.{◌≡◌, refl, ap, ◌∙◌}
use mathlib.Core.Logic.{◌⊎◌, inl, inr}
use Prim.Native.Nat.{ℕ, ◌+◌, ◌/◌}
use native.Mathlib.Omega.{arith}
use lib.ListN.{length}
use borrow.Author.Rules.{rules}
use Rattle.text_rows.specs.declared.Kind.{Kind}
use Rattle.text_rows.specs.declared.Kind.TheVariants as kind
use Rattle.text_rows.specs.Rows.{number_of}
use Rattle.text_words.proofs.WordLaws.{block-count, linker-words, label-words, thirds}
use Rattle.text_words.proofs.row_words.Goals as goal

labelled : (x : Kind) → (x ≡ kind.Symbol) ⊎ (x ≡ kind.Start) → (number_of x ≡ 0 → ⊥) × (number_of x ≡ 2 → ⊥)
labelled x (inl e) = rw e (λ h. absurd (omega arith), λ h. absurd (omega arith))
labelled x (inr e) = rw e (λ h. absurd (omega arith), λ h. absurd (omega arith))

pub returns-in-Block : goal.returns-in-Block
returns-in-Block c = rw c.in-Block.is (block-count _ _ _ _ c.entries_at.ensures refl)

pub returns-in-Relocation : goal.returns-in-Relocation
returns-in-Relocation c =
    let l = length c.cell_at.result.now in
    let e : 1 + c.div_ceil.result ≡ 1 + (l + 2) / 3 = ap (λ (n : ℕ). 1 + n) (c.div_ceil.ensures ∙ thirds l) in
    rw c.in-Relocation.is (e ∙ linker-words _ _ _ _ refl c.cell_at.ensures)

pub returns-in-Symbol : goal.returns-in-Symbol
returns-in-Symbol c =
    let l = length c.key_at.result.now in
    let e : 4 + c.div_ceil-in-Symbol.result ≡ 4 + (l + 2) / 3 = ap (λ (n : ℕ). 4 + n) (c.div_ceil-in-Symbol.ensures ∙ thirds l) in
    let z = labelled c.args.kind c.in-Symbol.is in
    e ∙ label-words _ _ _ _ z.0 z.1 c.key_at.ensures

pub overflow_add-result : goal.overflow_add-result
overflow_add-result c = let h = c.entries_at.ensures.few in search rules
