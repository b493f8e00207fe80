-- How a call ends that refuses. Assumes nothing.
use Rattle.std.proofs.Common.{◌≡◌, ℕ, ◌<◌, List, length, refl, arith}
use Rattle.std.specs.Prelude.{Err}
use borrow.Author.Tests.{lt-leb}
use Rattle.format.specs.Basics.{refused, given}
use Rattle.format.specs.Calls.{fill}
use Rattle.units.specs.declared.refusal.Refusal.{Refusal}
use Rattle.units.specs.declared.refusal.Refusal.TheVariants as refusal
use Rattle.units.specs.Refusal.{number_of, filled_of}

-- a question was answered no
pub err-refused : (r : Refusal) (buffer : List ℕ) → filled_of (Err r) buffer ≡ fill (refused (number_of r)) buffer
unfolding fill
err-refused r buffer = refl

-- the answer is longer than the buffer
pub err-short :
    (out buffer : List ℕ) → length buffer < length out → filled_of (Err refusal.ShortBuffer) buffer ≡ fill (given out) buffer
unfolding fill
err-short out buffer h = rw (lt-leb _ _ h)

-- "All yes gives number 0", and no refusal does
pub number_of-above : (r : Refusal) → 0 < number_of r
number_of-above refusal.NotWellFormed = omega arith
number_of-above _ = omega arith
