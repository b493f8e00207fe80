-- A part at the front of the room, for elements of any type: bytes and words alike. Assumes nothing.
use mathlib.Core.Path.{◌≡◌, refl, sym, ◌∙◌}
use mathlib.Core.List.{List, [], ◌∷◌, ◌++◌, append_assoc}
use Prim.Native.Nat.{ℕ, ◌≤◌, ◌<◌}
use native.Mathlib.Nat.{zero-add}
use native.Mathlib.Numerals.{add-one}
use native.Mathlib.Omega.{arith}
use lib.ListN.{length, take, drop, set, length-append, length-drop}
use lib.Seq.{sets, sets-eq, take_at, drop_at, drop-drop, drop-cons, set_at, append_snoc}
use borrow.Author.Tests.{le-leb, lt-leb}
use Rattle.format.specs.Basics.{given}
use Rattle.format.specs.Calls.{fill}
use Rattle.writing.specs.Written.{into, filled, written, Put}

module _ {A : Type 0} (part room : List A) where
  pub filled-fits : length part ≤ length room → filled part room ≡ length part
  unfolding filled
  filled-fits h = rw (le-leb _ _ h)

  pub written-fits : length part ≤ length room → written part room ≡ into part room
  unfolding written
  written-fits h = rw (le-leb _ _ h)

  pub length-into : length part ≤ length room → length (into part room) ≡ length room
  length-into h = simp (length-append, length-drop) (omega arith)

-- what a part writer of n elements returns: where the room is too short, and after its n stores
module _ {A : Type 0} (part room : List A) (n : ℕ) (e : length part ≡ n) where
  pub too_short : length room < n → Put part room 0 room
  unfolding filled written
  too_short h = let l : length room < length part = rw e h in (rw (lt-leb _ _ l), rw (lt-leb _ _ l))

  pub stored : n ≤ length room → Put part room n (sets room 0 part)
  stored h =
      let l : length part ≤ length room = rw e h in
      (sym e ∙ sym (filled-fits part room l), sets-eq part room 0 (simp zero-add l) ∙ (simp zero-add) ∙ sym (written-fits part room l))

module _ {A : Type 0} where
  -- a second part, into what the first left
  pub into-into :
      (a b room : List A) (at : ℕ) → at ≡ length a → length a ≤ length room
      → take at (into a room) ++ into b (drop at (into a room)) ≡ into (a ++ b) room
  into-into a b room at e h =
      let past = drop (length a) room in
      simp (e, take_at a past (length a) refl, drop_at a past (length a) refl, drop-drop, length-append, append_assoc)

  -- one element more, stored at the end of what is done
  pub into_snoc :
      (done room : List A) (at : ℕ) (x : A) → at ≡ length done → length done < length room
      → set (into done room) at x ≡ into (done ++ x ∷ []) room
  into_snoc done room at x e h =
      rw (drop-cons room (length done) x) (set_at done _ _ x at (sym e) ∙ sym (append_snoc done x _) ∙ simp (length-append, add-one))

-- a buffer that a part writer has filled is what `fill` says of the answer
pub put_fills :
    (out buffer : List ℕ) {after : List ℕ} {r : ℕ} → length out ≤ length buffer → Put out buffer r after
    → record { number = 0; len = r; buffer = after } ≡ fill (given out) buffer
unfolding fill
put_fills out buffer h p =
    rw (le-leb _ _ h, p.0, p.1, filled-fits out buffer h, written-fits out buffer h)
