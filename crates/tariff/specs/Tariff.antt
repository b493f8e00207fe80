-- The lending tariff (document 02, P14): what lending an object costs, in cents. Assumes nothing.
use Rattle.std.specs.Prelude.{Bool, true, false, List, ℕ, ◌+◌, ◌*◌, ◌/◌, length, leb, Result, Ok, Err}
use Rattle.format.specs.Basics.{Outcome, refused, given, ◌>>=◌, ask}
use Rattle.format.specs.Words.{object_of}
use Rattle.units.specs.Refusal.{number_of}
use Rattle.units.specs.declared.refusal.Refusal.{Refusal}
use Rattle.tariff.specs.declared.Fee as declared

-- the three addends
pub record Addends : Type 0 where
  pub base : ℕ
  pub words : ℕ
  pub labels : ℕ

-- "150, plus 4 for each started 256 words of the holding, plus 1 per label": of so many words and so many labels
unfoldable pub addends : ℕ → ℕ → Addends
addends words labels = record { base = 150; words = 4 * ((words + 255) / 256); labels = labels }

-- "A member college pays 70 percent of the sum, rounded to the nearest cent, halves up."
unfoldable pub payable : Bool → ℕ → ℕ
payable true sum = (70 * sum + 50) / 100
payable false sum = sum

-- "38, 'has the holding at most 16,777,216 words?', asked after 1": 1 is `object_of`'s, "Is it well formed?"
unfoldable pub charges : List ℕ → Outcome Addends
charges ws = do
  h ← object_of ws
  _ ← ask 38 (leb (length ws) 16777216)
  given (addends (length ws) (length h.labels))

-- the number of the question that was answered no, or 0; the fee, and its three addends before the reduction
pub record Fee : Type 0 where
  pub number : ℕ
  pub fee : ℕ
  pub base : ℕ
  pub words : ℕ
  pub labels : ℕ

-- "Give the fee and its three addends before the reduction."
unfoldable pub fee_of : Bool → Addends → Fee
fee_of member a = record {
  number = 0;
  fee = payable member (a.base + a.words + a.labels);
  base = a.base;
  words = a.words;
  labels = a.labels;
}

-- a refusal is its number, and 0 for everything else, the 150 too
unfoldable pub refused_fee : ℕ → Fee
refused_fee n = record { number = n; fee = 0; base = 0; words = 0; labels = 0 }

-- what the call hands back of each outcome
unfoldable pub fee_answer : Bool → Outcome Addends → Fee
fee_answer member (refused n) = refused_fee n
fee_answer member (given a) = fee_of member a

-- "Lending is charged per holding in cents": what lending these words costs a member college, or another one
unfoldable pub lending_fee : List ℕ → Bool → Fee
lending_fee ws member = fee_answer member (charges ws)

-- number and values of what is handed back
abbrev pub fee_charged : declared.Fee → Fee
fee_charged f = record { number = 0; fee = f.fee; base = f.base; words = f.words; labels = f.labels }

abbrev pub fee_told : Result declared.Fee Refusal → Fee
fee_told (Ok f) = fee_charged f
fee_told (Err r) = record { number = number_of r; fee = 0; base = 0; words = 0; labels = 0 }

unfoldable pub open-Tariff : Unit {0}
unfolding addends payable charges fee_of refused_fee fee_answer lending_fee
open-Tariff = tt
