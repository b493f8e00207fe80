-- Tests, and the byte that stands at a place.
-- Assumes nothing.
use mathlib.Core.Path.{◌≡◌, refl}
use mathlib.Core.Bool.{Bool, true, false, ◌&&◌}
use mathlib.Core.List.{List, ◌∷◌}
use Prim.Native.Nat.{ℕ, ◌+◌, ◌≤◌, ◌<◌}
use native.Mathlib.Numerals.{add-one}
use lib.ListN.{length, drop, get_or}
use lib.Seq.{drop-cons, drop-drop}
use lib.Dec.{leb}
use borrow.Author.Tests.{le-leb, lt-leb}
use Rattle.format.specs.Utf8.{is_between}

pub by_test : {P : Type 0} (t : Bool) → (t ≡ true → P) → (t ≡ false → P) → P
by_test true f g = f refl
by_test false f g = g refl

pub and_no : (t : Bool) → (t && false) ≡ false
and_no true = refl
and_no false = refl

pub within-yes : (low high x : ℕ) → low ≤ x → x ≤ high → is_between low high x ≡ true
within-yes low high x a b = simp (le-leb low x a, le-leb x high b)

pub within_low : (low high x : ℕ) → x < low → is_between low high x ≡ false
within_low low high x a = simp (lt-leb low x a)

pub within-high : (low high x : ℕ) → high < x → is_between low high x ≡ false
within-high low high x a = simp (lt-leb x high a) (and_no (leb low x))

-- the rest from a place: the byte there, and the rest after it
pub front : {A : Type 0} (d : A) (s : List A) (at : ℕ) → at < length s → drop at s ≡ get_or s at d ∷ drop (at + 1) s
front d s at h = rw add-one (drop-cons s at d h)

pub drop_more : {A : Type 0} (s : List A) (at n : ℕ) → drop n (drop at s) ≡ drop (at + n) s
drop_more s at n = drop-drop n at s
