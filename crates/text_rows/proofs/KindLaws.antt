-- Kinds and their numbers. Assumes nothing.
use mathlib.Core.Path.{◌≡◌, refl, sym, ◌∙◌}
use mathlib.Core.Bool.{Bool, true, false}
use lib.Dec.{eqb}
use borrow.Author.Tests.{eqb-true, eqb-false}
use denote.Enum.Bare.{sameb}
use Rattle.text_rows.specs.declared.Kind.{Kind}
use Rattle.text_rows.specs.declared.Kind.TheVariants as kind
use Rattle.text_rows.specs.contracts.Kind.{the_type}
use Rattle.text_rows.specs.Rows.{number_of}

same_number : (k m : Kind) → sameb the_type k m ≡ eqb (number_of k) (number_of m)
same_number kind.Block kind.Block = refl
same_number kind.Block kind.Symbol = refl
same_number kind.Block kind.Relocation = refl
same_number kind.Block kind.Start = refl
same_number kind.Symbol kind.Block = refl
same_number kind.Symbol kind.Symbol = refl
same_number kind.Symbol kind.Relocation = refl
same_number kind.Symbol kind.Start = refl
same_number kind.Relocation kind.Block = refl
same_number kind.Relocation kind.Symbol = refl
same_number kind.Relocation kind.Relocation = refl
same_number kind.Relocation kind.Start = refl
same_number kind.Start kind.Block = refl
same_number kind.Start kind.Symbol = refl
same_number kind.Start kind.Relocation = refl
same_number kind.Start kind.Start = refl

-- what a test of two kinds says of their numbers
module _ (k m : Kind) (b : Bool) (e : b ≡ sameb the_type k m) where
  pub kinds_same : b ≡ true → number_of k ≡ number_of m
  kinds_same h = eqb-true (number_of k) (number_of m) (sym (e ∙ same_number k m) ∙ h)

  pub kinds_differ : b ≡ false → number_of k ≡ number_of m → ⊥
  kinds_differ h = eqb-false (number_of k) (number_of m) (sym (e ∙ same_number k m) ∙ h)
