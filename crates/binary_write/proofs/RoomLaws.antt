-- The room that a part writer is lent while parts are written one after the other. Assumes nothing.
use mathlib.Core.Path.{◌≡◌, sym, ap, subst, ◌∙◌}
use mathlib.Core.List.{List, ◌++◌}
use Prim.Native.Nat.{ℕ, ◌-◌, ◌≤◌}
use native.Mathlib.Omega.{arith}
use lib.ListN.{length, length-append, length-drop}
use borrow.Author.Rules.{part_to_end}
use Rattle.writing.specs.Written.{Put}
use Rattle.writing.proofs.Parts.{State, Emits, rest, has_room}

-- what is left fits
module _ {A : Type 0} {whole room left : List A} {s : State A} (f : Emits whole room left s) where
  pub lent : length left ≤ length (rest s)
  lent =
      let e : length (rest s) ≡ length s.out - s.at = ap length (part_to_end s.out s.at) ∙ length-drop s.at s.out in
      omega (arith, e, has_room f)

  -- and so does its first part
  pub lent_part : (part left' : List A) → left ≡ part ++ left' → length part ≤ length (rest s)
  lent_part part left' e = omega (arith, lent, ap length e ∙ length-append part left')

-- a part by another name
module _ {part whole : List ℕ} (room : List ℕ) (e : whole ≡ part) where
  pub fits_as : length whole ≤ length room → length part ≤ length room
  fits_as h = subst (λ p. length p ≤ length room) e h

  pub put_as : (r : ℕ) (ys : List ℕ) → Put part room r ys → Put whole room r ys
  put_as r ys p = subst (λ q. Put q room r ys) (sym e) p
