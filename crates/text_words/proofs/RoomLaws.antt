-- The room that rows leave, counted down. Assumes nothing.
use mathlib.Core.Path.{◌≡◌, refl, sym, ap, ◌∙◌, subst}
use mathlib.Core.List.{List, [], ◌∷◌, ◌++◌, map, flat_map}
use mathlib.Core.Option.{Option, none, some}
use Prim.Native.Nat.{ℕ, ◌+◌, ◌-◌, ◌≤◌, ◌<◌}
use native.Mathlib.Omega.{arith}
use lib.ListN.{length, take, length-append}
use lib.Dec.{leb}
use borrow.Author.Tests.{le-leb, lt-leb, leb-true, leb-false}
use Rattle.format.specs.Basics.{and_then}
use Rattle.format.specs.Records.{Record}
use Rattle.format.specs.Words.{record_words}
use Rattle.format.proofs.ListLaws.{by_test}
use Rattle.text_gather.specs.Order.{HandsOut}
use Rattle.text_words.specs.Written.{words_at}
use Rattle.std.specs.Prelude.{SomeIff, Some, None}
use Rattle.std.specs.Prelude as rust
use Rattle.text_words.specs.Room.{room_of, room_for, room_after}
use Rattle.text_words.proofs.PutLaws.{window-fits, window-words, window-last, window-less}

pub room-short : (n room : ℕ) → room < n → none ≡ room_for n room
unfolding room_for
room-short n room h = rw (lt-leb n room h) refl

pub room-left : (n room m : ℕ) → n ≤ room → m ≡ room - n → some m ≡ room_for n room
unfolding room_for
room-left n room m h e = rw (le-leb n room h) (ap some e)

-- what `checked_sub` leaves of a room
pub room_taken : (n room : ℕ) (r : rust.Option ℕ) → SomeIff r (n ≤ room) (room - n) → room_of r ≡ room_for n room
room_taken n room (Some m) h = room-left n room m h.0 h.1
room_taken n room None h = room-short n room (omega arith)

-- PARTS one after the other
room-more : (ps qs : List (List ℕ)) (room : ℕ) → room_after (ps ++ qs) room ≡ and_then (room_after ps room) λ left. room_after qs left
unfolding room_after
room-more [] qs room = refl
room-more (p ∷ ps) qs room = go (room_for (length p) room) (room-more ps qs)
  where
    go : (o : Option ℕ) → ((k : ℕ) → room_after (ps ++ qs) k ≡ and_then (room_after ps k) λ left. room_after qs left)
        → (and_then o λ left. room_after (ps ++ qs) left) ≡ and_then (and_then o λ left. room_after ps left) λ left. room_after qs left
    go none ih = refl
    go (some left) ih = ih left

pub rooms_none : (ps : List (List ℕ)) (room : ℕ) → ps ≡ [] → some room ≡ room_after ps room
unfolding room_after
rooms_none ps room e = sym (ap (λ (x : List (List ℕ)). room_after x room) e)

module _ (ps qs rs : List (List ℕ)) (room : ℕ) (e : rs ≡ ps ++ qs) where
  pub rooms_short : none ≡ room_after ps room → none ≡ room_after rs room
  rooms_short o = ap (λ (x : Option ℕ). and_then x λ left. room_after qs left) o ∙ sym (room-more ps qs room) ∙ ap (λ (x : List (List ℕ)). room_after x room) (sym e)

  pub rooms_on : (m : ℕ) → some m ≡ room_after ps room → room_after qs m ≡ room_after rs room
  rooms_on m o = ap (λ (x : Option ℕ). and_then x λ left. room_after qs left) o ∙ sym (room-more ps qs room) ∙ ap (λ (x : List (List ℕ)). room_after x room) (sym e)

pub room-one : (p : List ℕ) (room : ℕ) (o : Option ℕ) → o ≡ room_for (length p) room → o ≡ room_after (p ∷ []) room
unfolding room_after
room-one p room o e = e ∙ go (room_for (length p) room)
  where
    go : (o : Option ℕ) → o ≡ and_then o λ left. some left
    go none = refl
    go (some left) = refl

module _ (p : List ℕ) (room n : ℕ) (e : n ≡ length p) where
  pub one-short : ¬ (n ≤ room) → none ≡ room_after (p ∷ []) room
  one-short h = room-one p room none (room-short (length p) room (omega (arith, e)))

  pub one_left : (m : ℕ) → (n ≤ room) × (m ≡ room - n) → some m ≡ room_after (p ∷ []) room
  one_left m h = room-one p room (some m) (room-left (length p) room m (omega (arith, e)) (omega (arith, e)))

-- THE LAW for who asks: what is left, and what there is to write, make up the room
abbrev joined : List (List ℕ) → List ℕ
joined ps = flat_map (λ p. p) ps

pub room_is : (ps : List (List ℕ)) (room m : ℕ) → some m ≡ room_after ps room → length (joined ps) + m ≡ room
unfolding room_after room_for flat_map
room_is [] room m e = let q : m ≡ room = cc in omega arith
room_is (p ∷ ps) room m e =
    by_test (leb (length p) room)
    (λ u. let k : some m ≡ room_after ps (room - length p) = rw u at e in
    omega (arith, length-append p (joined ps), room_is ps (room - length p) m k, leb-true (length p) room u))
    (λ u. let k : some m ≡ none = rw u at e in let z : ◌≡◌ {A = ℕ} 0 1 = cc in absurd (let w : ⊥ = omega arith in w))

pub room_lacks : (ps : List (List ℕ)) (room : ℕ) → none ≡ room_after ps room → room < length (joined ps)
unfolding room_after room_for flat_map
room_lacks [] room e = let z : ◌≡◌ {A = ℕ} 0 1 = cc in absurd (let w : ⊥ = omega arith in w)
room_lacks (p ∷ ps) room e =
    by_test (leb (length p) room)
    (λ u. let k : none ≡ room_after ps (room - length p) = rw u at e in
    omega (arith, length-append p (joined ps), room_lacks ps (room - length p) k, leb-true (length p) room u))
    (λ u. omega (arith, length-append p (joined ps), leb-false (length p) room u))

-- THE WALK over the windows
pub record Rooms (kind : ℕ) (t : List ℕ) (rows all : List Record) (room left : ℕ) (win₀ win : List ℕ) (k : ℕ) : Type 0 where
  pub same_kind : k ≡ kind
  pub window : length win ≡ length win₀
  pub same : room_after (map record_words rows) left ≡ room_after (map record_words all) room

module _ (kind : ℕ) (t : List ℕ) (rows others all : List Record) (room left : ℕ) (win₀ win win' : List ℕ) (k n : ℕ)
    (s : Rooms kind t rows all room left win₀ win k) (h : HandsOut k t rows win win' n others) (l : length win' ≡ length win) where
  hands : HandsOut kind t rows win win' n others
  hands = subst (λ (j : ℕ). HandsOut j t rows win win' n others) s.same_kind h

  abbrev first : List (List ℕ)
  first = map (words_at kind t) (take n win')

  words : map record_words rows ≡ first ++ map record_words others
  words = window-words kind t rows win win' n others hands

  pub rooms_fit : n ≤ length win'
  rooms_fit = window-fits kind t rows win win' n others hands

  pub rooms_lack : none ≡ room_after first left → none ≡ room_after (map record_words all) room
  rooms_lack o = rooms_short first (map record_words others) (map record_words rows) left words o ∙ s.same

  module _ (m : ℕ) (o : some m ≡ room_after first left) where
    rest-same : room_after (map record_words others) m ≡ room_after (map record_words all) room
    rest-same = rooms_on first (map record_words others) (map record_words rows) left words m o ∙ s.same

    pub rooms_next : (j : ℕ) → j ≡ k → Rooms kind t others all room m win₀ win' j
    rooms_next j e = record { same_kind = e ∙ s.same_kind; window = l ∙ s.window; same = rest-same }

    pub rooms_end : n < length win' → some m ≡ room_after (map record_words all) room
    rooms_end z = rooms_none (map record_words others) m (window-last kind t rows win win' n others hands (omega arith)) ∙ rest-same

  pub rooms_less : length win' ≤ n → 0 < length win₀ → length others < length rows
  rooms_less z p = window-less kind t rows win win' n others hands (omega arith) (omega (arith, s.window))
