-- A number's bytes, as std has them, are its digits. Assumes nothing.
use mathlib.Core.Path.{◌≡◌, refl}
use Prim.Native.Nat.{ℕ, ◌/◌}
use native.Mathlib.Omega.{arith}
use Rattle.std.specs.Int.{w16, w64, to_le_bytes}
use Rattle.format.specs.Digits.{digits_of}

pub two_bytes : (v : ℕ) → to_le_bytes w16 v ≡ digits_of 8 2 v
unfolding digits_of
two_bytes v = refl

pub eight_bytes : (v : ℕ) → to_le_bytes w64 v ≡ digits_of 8 8 v
unfolding digits_of
eight_bytes v =
    let e2 : v / 256 / 256 ≡ v / 65536 = omega arith in
    let e3 : v / 65536 / 256 ≡ v / 16777216 = omega arith in
    let e4 : v / 16777216 / 256 ≡ v / 4294967296 = omega arith in
    let e5 : v / 4294967296 / 256 ≡ v / 1099511627776 = omega arith in
    let e6 : v / 1099511627776 / 256 ≡ v / 281474976710656 = omega arith in
    let e7 : v / 281474976710656 / 256 ≡ v / 72057594037927936 = omega arith in
    rw (e2, e3, e4, e5, e6, e7) refl
