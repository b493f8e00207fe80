-- What lending costs by the number of the check, the length and the count of labels; and what the tariff's words say beside its
-- definition. Assumes nothing.
use mathlib.Core.Path.{◌≡◌, refl, sym}
use mathlib.Core.Bool.{Bool, true}
use mathlib.Core.List.{List}
use Prim.Native.Nat.{ℕ, ◌+◌, ◌*◌, ◌≤◌, ◌<◌}
use native.Mathlib.Omega.{arith}
use lib.ListN.{length}
use borrow.Author.Tests.{le-leb, lt-leb}
use Rattle.format.specs.Basics.{given}
use Rattle.format.specs.ObjectFile.{ObjectFile}
use Rattle.format.specs.Words.{object_of}
use Rattle.format.specs.Calls.{checked}
use Rattle.object.proofs.Formed.{not_formed}
use Rattle.tariff.specs.Tariff.{addends, payable, charges, fee_of, refused_fee, fee_answer, lending_fee}

-- "for each started 256 words": as many as cover all words, and no fewer do
pub started : (words labels n : ℕ) → words ≤ 256 * n → 256 * n < words + 256 → (addends words labels).words ≡ 4 * n
unfolding addends
started words labels n a b = omega arith

-- "rounded to the nearest cent, halves up": in hundredths of a cent, at most 50 above 70 percent, and less than 50 below
pub nearest : (sum : ℕ) → (100 * payable true sum ≤ 70 * sum + 50) × (70 * sum < 100 * payable true sum + 50)
unfolding payable
nearest sum = (omega arith, omega arith)

-- and no other whole number of cents is
pub nearest_only : (sum fee : ℕ) → 100 * fee ≤ 70 * sum + 50 → 70 * sum < 100 * fee + 50 → fee ≡ payable true sum
unfolding payable
nearest_only sum fee a b = omega arith

pub refused_is : (n : ℕ) → record { number = n; fee = 0; base = 0; words = 0; labels = 0 } ≡ refused_fee n
unfolding refused_fee
refused_is n = refl

module _ (ws : List ℕ) (member : Bool) where
  -- words that are not well formed, however many
  pub fee_ill_formed : (n : ℕ) → n ≡ checked ws → (n ≡ 0 → ⊥) → refused_fee n ≡ lending_fee ws member
  unfolding charges fee_answer lending_fee
  fee_ill_formed n e bad = sym (rw (not_formed ws n e bad))

  module _ (h : ObjectFile) (q : object_of ws ≡ given h) where
    -- too many words
    pub fee_long : 16777216 < length ws → refused_fee 38 ≡ lending_fee ws member
    unfolding charges fee_answer lending_fee
    fee_long l = sym (rw (q, lt-leb (length ws) 16777216 l))

    pub fee_charged : length ws ≤ 16777216 → fee_of member (addends (length ws) (length h.labels)) ≡ lending_fee ws member
    unfolding charges fee_answer lending_fee
    fee_charged l = sym (rw (q, le-leb (length ws) 16777216 l))
