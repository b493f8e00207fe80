-- The form of a scalar value, by its size. Assumes nothing.
use mathlib.Core.Path.{◌≡◌, refl}
use mathlib.Core.Bool.{true}
use mathlib.Core.Logic.{inl, inr}
use mathlib.Core.List.{List, []}
use Prim.Native.Nat.{ℕ, ◌≤◌, ◌<◌}
use native.Mathlib.Omega.{arith}
use lib.ListN.{length}
use borrow.Author.Tests.{lt-ltb, le-ltb, le-leb}
use Rattle.format.specs.Utf8.{is_scalar, encode_scalar}
use Rattle.utf8.proofs.CharLaws.{scalar-low, scalar-high, not_scalar}
use Rattle.writing.specs.Written.{Put, filled, written}
use Rattle.encode.specs.Scalar.{one, two, three, four, scalar_bytes}

-- a scalar value's bytes are the definition's
pub scalar-bytes : (c : ℕ) → is_scalar c ≡ true → scalar_bytes c ≡ encode_scalar c
unfolding scalar_bytes
scalar-bytes c e = rw e

module _ (c : ℕ) where
  pub is_one : c < 0x80 → scalar_bytes c ≡ one c
  unfolding scalar_bytes encode_scalar
  is_one h = rw (scalar-low c (omega arith), lt-ltb c 0x80 h)

  pub is_two : 0x80 ≤ c → c < 0x800 → scalar_bytes c ≡ two c
  unfolding scalar_bytes encode_scalar
  is_two l h = rw (scalar-low c (omega arith), le-ltb c 0x80 l, lt-ltb c 0x800 h)

  pub is_three-low : 0x800 ≤ c → c < 0xD800 → scalar_bytes c ≡ three c
  unfolding scalar_bytes encode_scalar
  is_three-low l h = rw (scalar-low c h, le-ltb c 0x80 (omega arith), le-ltb c 0x800 l, lt-ltb c 0x10000 (omega arith))

  pub is_three-high : 0xE000 ≤ c → c < 0x10000 → scalar_bytes c ≡ three c
  unfolding scalar_bytes encode_scalar
  is_three-high l h = rw (scalar-high c l (omega arith), le-ltb c 0x80 (omega arith), le-ltb c 0x800 (omega arith), lt-ltb c 0x10000 h)

  pub is_four : 0x10000 ≤ c → c < 0x110000 → scalar_bytes c ≡ four c
  unfolding scalar_bytes encode_scalar
  is_four l h = rw (
    scalar-high c (omega arith) (omega arith),
    le-ltb c 0x80 (omega arith),
    le-ltb c 0x800 (omega arith),
    le-ltb c 0x10000
        l,
  )

  pub is_surrogate : 0xD800 ≤ c → c < 0xE000 → scalar_bytes c ≡ []
  unfolding scalar_bytes
  is_surrogate l h = rw (not_scalar c l (inl h))

  pub is_beyond : 0x110000 ≤ c → scalar_bytes c ≡ []
  unfolding scalar_bytes
  is_beyond l = rw (not_scalar c (omega arith) (inr (omega arith)))

-- nothing to write
pub put-none : (part room : List ℕ) → part ≡ [] → Put part room 0 room
unfolding filled written
put-none part room e = rw (e, le-leb 0 (length room) (omega arith)) (refl, refl)

pub put_same : (part part' room : List ℕ) (r : ℕ) (after : List ℕ) → part' ≡ part → Put part room r after → Put part' room r after
put_same part part' room r after e h = rw e h
