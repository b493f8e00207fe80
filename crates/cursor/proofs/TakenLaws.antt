-- The two cases of taking n bytes at a place, and what a caller learns of each. Assumes nothing.
use mathlib.Core.Path.{◌≡◌, refl, ap, ◌∙◌}
use mathlib.Core.Bool.{Bool, true, false}
use mathlib.Core.List.{List}
use Prim.Native.Nat.{ℕ, ◌+◌, ◌-◌, ◌≤◌, ◌<◌}
use native.Mathlib.Omega.{arith}
use lib.ListN.{length, take, drop, get_or, length-take, length-drop}
use lib.Seq.{drop-cons}
use borrow.Author.Tests.{le-leb, lt-leb, leb-true, leb-false}
use Rattle.std.specs.Prelude.{if◌then◌else◌}
use Rattle.format.specs.Digits.{value_of}
use Rattle.format.specs.Binary.{number_at}
use Rattle.format.proofs.ListLaws.{by_test}
use Rattle.cursor.specs.Taken.{TakenBytes, a_number, no_number, some_bytes, no_bytes, take_number, take_bytes}

-- of an answer that is one of two, which have different numbers, by its number
module _ {A : Type 0} (number_of : A → ℕ) (test : Bool) (yes no : A) (r : A) (e : r ≡ (if test then yes else no)) where
  answer_yes : number_of no ≡ 12 → number_of r ≡ 0 → (test ≡ true) × (r ≡ yes)
  answer_yes n z =
      by_test test (λ t. (t, e ∙ rw t))
      (λ t. let q : r ≡ no = e ∙ rw t in absurd (omega (arith, ap number_of q)))

  answer_no : number_of yes ≡ 0 → number_of r ≡ 12 → test ≡ false
  answer_no y z = by_test test (λ t. let q : r ≡ yes = e ∙ rw t in absurd (omega (arith, ap number_of q))) (λ t. t)

module _ (n : ℕ) (s : List ℕ) (at : ℕ) where
  pub number-there : {v next : ℕ} → v ≡ number_at at n s → (at + n ≤ length s) × (next ≡ at + n) → a_number v next ≡ take_number n s at
  unfolding take_number
  number-there e h = rw (le-leb _ _ h.0, e, h.1)

  pub bytes-there : {next : ℕ} → (at + n ≤ length s) × (next ≡ at + n)
      → some_bytes (next - length (take (next - at) (drop at s))) next next ≡ take_bytes n s at
  unfolding take_bytes
  bytes-there h =
      let k : at + n - length (take (at + n - at) (drop at s)) ≡ at = omega (arith, length-take {A = ℕ}, length-drop {A = ℕ}, h.0) in
      rw (le-leb _ _ h.0, h.1, k)

  pub number_missing : length s < at + n → no_number ≡ take_number n s at
  unfolding take_number
  number_missing h = rw (lt-leb _ _ h)

  pub bytes_missing : length s < at + n → no_bytes ≡ take_bytes n s at
  unfolding take_bytes
  bytes_missing h = rw (lt-leb _ _ h)

  -- what was taken is there, and is this
  pub bytes_taken :
      (a b next : ℕ) → some_bytes a b next ≡ take_bytes n s at → (at + n ≤ length s) × (a ≡ at) × (b ≡ at + n) × (next ≡ at + n)
  unfolding take_bytes
  bytes_taken a b next e =
      let q = answer_yes (λ (x : TakenBytes). x.number) _ _ _ _ e refl refl in (
        leb-true _ _ q.0,
        ap (λ (x : TakenBytes). x.start) q.1,
        ap (λ (x : TakenBytes). x.end) q.1,
        ap (λ (x : TakenBytes). x.next) q.1,
      )

  -- what was not taken is not there
  pub bytes-not-there : no_bytes ≡ take_bytes n s at → length s < at + n
  unfolding take_bytes
  bytes-not-there e = leb-false _ _ (answer_no (λ (x : TakenBytes). x.number) _ _ _ _ e refl refl)

-- a byte is its own number
pub byte_read : (s : List ℕ) (at : ℕ) {next : ℕ} → (at + 1 ≤ length s) × (next ≡ at + 1) → a_number (get_or s at 0) next ≡ take_number 1 s at
unfolding value_of
byte_read s at h =
    let p : at < length s = omega arith in
    let e : get_or s at 0 ≡ number_at at 1 s = rw (drop-cons s at 0) (omega arith) in
    number-there 1 s at e h
