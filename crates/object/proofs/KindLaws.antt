-- Kinds of words and their numbers. Assumes nothing.
use Rattle.std.proofs.Common.{◌≡◌, ℕ, true, false, cond, eqb, refl, sym, ap, ◌∙◌, rules}
use denote.Enum.Bare.{sameb, same_true, same_false}
use Rattle.object.specs.contracts.Kind.{the_type}
use Rattle.object.specs.Bodies.{kind_number}
use Rattle.object.specs.declared.Kind.{Kind}
use Rattle.object.specs.declared.Kind.TheVariants as kind

abbrev numbered : ℕ → Kind
numbered n =
    cond (eqb n 0) kind.Block (cond (eqb n 1) kind.Memory (cond (eqb n 2) kind.Label (cond (eqb n 3) kind.LineBlock
    (cond (eqb n 4) kind.Source (cond (eqb n 5) kind.Relocation (cond (eqb n 6) kind.Number kind.Text))))))

number_back : (k : Kind) → numbered (kind_number k) ≡ k
number_back kind.Block = refl
number_back kind.Memory = refl
number_back kind.Label = refl
number_back kind.LineBlock = refl
number_back kind.Source = refl
number_back kind.Relocation = refl
number_back kind.Number = refl
number_back kind.Text = refl

-- kinds of one number are one
pub same_kind : (j k : Kind) → kind_number j ≡ kind_number k → j ≡ k
same_kind j k e = sym (number_back j) ∙ ap numbered e ∙ number_back k

-- of a word of a kind that is not this one, the number is another
pub other_kind : (j k : Kind) (n : ℕ) → kind_number j ≡ n → (j ≡ k → ⊥) → n ≡ kind_number k → ⊥
other_kind j k n e o s = o (same_kind j k (e ∙ s))

-- what `==` of a word's kind says of its number
module _ (j k : Kind) (n : ℕ) (e : kind_number j ≡ n) where
  pub number_is : true ≡ sameb the_type j k → n ≡ kind_number k
  number_is t = sym e ∙ ap kind_number (same_true the_type (search rules) j k (sym t))

  pub number_not : false ≡ sameb the_type j k → n ≡ kind_number k → ⊥
  number_not f = other_kind j k n e (same_false the_type j k (sym f))
