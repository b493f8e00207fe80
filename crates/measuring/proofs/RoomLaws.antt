-- Parts measured one after the other. Assumes nothing.
use mathlib.Core.Path.{◌≡◌, sym, ap, ◌∙◌}
use mathlib.Core.Bool.{true, false}
use mathlib.Core.List.{List, [], ◌++◌}
use mathlib.Core.Option.{Option, none, some}
use Prim.Native.Nat.{ℕ, ◌+◌, ◌-◌, ◌≤◌, ◌<◌}
use native.Mathlib.Omega.{arith}
use lib.ListN.{length, length-append}
use lib.Dec.{leb}
use borrow.Author.Tests.{le-leb, lt-leb, leb-true, leb-false}
use Rattle.format.specs.Basics.{and_then}
use Rattle.format.proofs.ListLaws.{by_test}
use Rattle.std.specs.Prelude as prelude
use Rattle.std.specs.Prelude.{Some, None, SomeIff, is_some}
use Rattle.measuring.specs.Room.{less, less_part, room_of}

module _ (room n : ℕ) where
  pub less_some : n ≤ room → some (room - n) ≡ less room n
  unfolding less
  less_some h = rw (le-leb n room h)

  pub less_none : room < n → none ≡ less room n
  unfolding less
  less_none h = rw (lt-leb n room h)

  -- what an answer says of the length
  pub fits : {k : ℕ} → some k ≡ less room n → (n ≤ room) × (k ≡ room - n)
  unfolding less
  fits {k} e =
      by_test (leb n room) (λ t. let q : some k ≡ some (room - n) = simp t at e in (leb-true n room t, cc))
      (λ t. let q : some k ≡ none = simp t at e in let z : ◌≡◌ {A = ℕ} 0 1 = cc in absurd (omega arith))

  pub short : none ≡ less room n → room < n
  unfolding less
  short e =
      by_test (leb n room) (λ t. let q : none ≡ some (room - n) = simp t at e in let z : ◌≡◌ {A = ℕ} 0 1 = cc in absurd (omega arith))
      (λ t. leb-false n room t)

  pub less-add : (m : ℕ) → less room (n + m) ≡ (and_then (less room n) λ k. less k m)
  unfolding less
  less-add m =
      by_test (leb n room)
      (λ t. let h = leb-true n room t in
      by_test (leb m (room - n))
      (λ u. let l = leb-true m (room - n) u in
      let q : room - (n + m) ≡ room - n - m = omega arith in
      let e : leb (n + m) room ≡ true = le-leb (n + m) room (omega arith) in simp (t, u, e, q))
      (λ u. let l = leb-false m (room - n) u in let e : leb (n + m) room ≡ false = lt-leb (n + m) room (omega arith) in simp (t, u, e)))
      (λ t. let h = leb-false n room t in let e : leb (n + m) room ≡ false = lt-leb (n + m) room (omega arith) in simp (t, e))

  -- what the library's subtraction says
  pub checked : (r : prelude.Option ℕ) → SomeIff r (n ≤ room) (room - n) → room_of r ≡ less room n
  checked (Some k) h = ap some h.1 ∙ less_some h.0
  checked None h = less_none (omega (arith, h))

  -- what an answer says of the length, by whether there is one
  pub roomy : (r : prelude.Option ℕ) → room_of r ≡ less room n → is_some r ≡ true → n ≤ room
  roomy (Some k) e h = (fits e).0
  roomy None e h = let z : true ≡ false = sym h in cc

  pub said : (r : prelude.Option ℕ) → room_of r ≡ less room n → is_some r ≡ leb n room
  said (Some k) e = sym (le-leb n room (fits e).0)
  said None e = sym (lt-leb n room (short e))

  pub roomless : (r : prelude.Option ℕ) → room_of r ≡ less room n → is_some r ≡ false → room < n
  roomless (Some k) e h = let z : true ≡ false = h in cc
  roomless None e h = short e

-- n bytes, and m more
pub less-on : (room n m : ℕ) → n ≤ room → less (room - n) m ≡ less room (n + m)
less-on room n m h = ap (λ (o : Option ℕ). and_then o λ k. less k m) (less_some room n h) ∙ sym (less-add room n m)

-- the same, by what was said of the n bytes
pub fits-then :
    (room n m : ℕ) {k left : ℕ} {o : Option ℕ} → k ≡ n + m → some left ≡ less room n → o ≡ less left m → o ≡ less room k
fits-then room n m e q r =
    r ∙ ap (λ (o : Option ℕ). and_then o λ j. less j m) q ∙ sym (ap (less room) e ∙ less-add room n m)

pub short-then : (room n m : ℕ) {k : ℕ} → k ≡ n + m → none ≡ less room n → none ≡ less room k
short-then room n m e q = ap (λ (o : Option ℕ). and_then o λ j. less j m) q ∙ sym (ap (less room) e ∙ less-add room n m)

pub less-nothing : (room : ℕ) → some room ≡ less_part room []
less-nothing room = let e : room - 0 ≡ room = omega arith in ap some (sym e) ∙ less_some room 0 (omega arith)

-- a part, and what follows it
module _ (room : ℕ) (part left : List ℕ) where
  less-append : less_part room (part ++ left) ≡ (and_then (less_part room part) λ k. less_part k left)
  less-append = ap (less room) (length-append part left) ∙ less-add room (length part) (length left)

  pub part-fits : {whole : List ℕ} {k : ℕ} → whole ≡ part ++ left → some k ≡ less_part room part → less_part k left ≡ less_part room whole
  part-fits e q =
      ap (λ (o : Option ℕ). and_then o λ j. less_part j left) q ∙ sym (ap (less_part room) e ∙ less-append)

  pub part-short : {whole : List ℕ} → whole ≡ part ++ left → none ≡ less_part room part → none ≡ less_part room whole
  part-short e q = ap (λ (o : Option ℕ). and_then o λ j. less_part j left) q ∙ sym (ap (less_part room) e ∙ less-append)
