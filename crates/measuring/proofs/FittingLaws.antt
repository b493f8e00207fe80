-- Parts written one after the other, each where it still fits. Assumes nothing.
use mathlib.Core.Path.{◌≡◌, refl, sym, ap, subst, ◌∙◌}
use mathlib.Core.Bool.{false}
use mathlib.Core.List.{List, [], ◌∷◌, ◌++◌, flat_map, append-nil, append_assoc}
use Prim.Native.Nat.{ℕ, ◌+◌, ◌-◌, ◌≤◌, ◌<◌}
use native.Mathlib.Omega.{arith}
use lib.ListN.{length, length-append, length-drop}
use lib.Dec.{leb}
use borrow.Author.Tests.{le-leb, lt-leb, leb-true, leb-false}
use borrow.Author.Rules.{part_to_end}
use Rattle.format.proofs.ListLaws.{by_test}
use Rattle.writing.specs.Written.{filled, written, Put}
use Rattle.writing.proofs.WriteLaws.{filled-fits, written-fits}
use Rattle.writing.proofs.Parts.{State, Emits, rest, after, emit, emitted, begin, same, has_room}
use Rattle.measuring.specs.Fitting.{keep, fitting}

-- A PART
module _ (room : ℕ) (part : List ℕ) where
  pub keep-fits : length part ≤ room → keep room part ≡ part
  unfolding keep
  keep-fits h = rw (le-leb (length part) room h)

  pub keep-short : room < length part → keep room part ≡ []
  unfolding keep
  keep-short h = rw (lt-leb (length part) room h)

  pub keep-room : length (keep room part) ≤ room
  keep-room =
      by_test (leb (length part) room)
      (λ t. let h = leb-true (length part) room t in omega (arith, h, ap length (keep-fits h)))
      (λ t. let h = leb-false (length part) room t in omega (arith, ap length (keep-short h)))

nothing_put : (room : List ℕ) → Put [] room 0 room
nothing_put room = emitted (begin [] room (omega arith)) refl

not-put : (part room after : List ℕ) (r : ℕ) → length room < length part → Put part room r after → Put [] room r after
unfolding filled written
not-put part room after r h p =
    let n = nothing_put room in
    let f : leb (length part) (length room) ≡ false = lt-leb (length part) (length room) h in
    let a : r ≡ 0 = p.0 ∙ rw f refl in
    let b : after ≡ room = p.1 ∙ rw f refl in
    (a ∙ n.0, b ∙ n.1)

-- a part writer writes the part if there is room for it
pub put-kept : (part room after : List ℕ) (r : ℕ) → Put part room r after → Put (keep (length room) part) room r after
put-kept part room after r p =
    by_test (leb (length part) (length room))
    (λ t. let h = leb-true (length part) (length room) t in
    subst (λ (x : List ℕ). Put x room r after) (sym (keep-fits (length room) part h)) p)
    (λ t. let h = leb-false (length part) (length room) t in
    subst (λ (x : List ℕ). Put x room r after) (sym (keep-short (length room) part h)) (not-put part room after r h p))

-- SEVERAL
module _ {A : Type 0} (part : A → List ℕ) where
  pub fitting-room : (xs : List A) (room : ℕ) → length (fitting part room xs) ≤ room
  unfolding fitting
  fitting-room [] room = omega arith
  fitting-room (x ∷ xs) room =
      let k = keep room (part x) in
      omega (
        arith,
        length-append k (fitting part (room - length k) xs),
        keep-room room (part x),
        fitting-room xs (room - length k),
      )

  -- where there is room for all, all
  pub fitting-all : (xs : List A) (room : ℕ) → length (flat_map part xs) ≤ room → fitting part room xs ≡ flat_map part xs
  unfolding fitting flat_map
  fitting-all [] room h = refl
  fitting-all (x ∷ xs) room h =
      let l = length-append (part x) (flat_map part xs) in
      let e = keep-fits room (part x) (omega (arith, l, h)) in
      ap (λ (k : List ℕ). k ++ fitting part (room - length k) xs) e
      ∙ ap (λ (k : List ℕ). part x ++ k) (fitting-all xs (room - length (part x)) (omega (arith, l, h)))

  pub fitting-append : (xs ys : List A) (room : ℕ)
      → fitting part room (xs ++ ys) ≡ fitting part room xs ++ fitting part (room - length (fitting part room xs)) ys
  unfolding fitting
  fitting-append [] ys room = let e : room ≡ room - 0 = omega arith in ap (λ (n : ℕ). fitting part n ys) e
  fitting-append (x ∷ xs) ys room =
      let k = keep room (part x) in
      let n : ℕ = room - length k in
      let f = fitting part n xs in
      let e : n - length f ≡ room - length (k ++ f) = omega (arith, length-append k f) in
      ap (λ (r : List ℕ). k ++ r) (fitting-append xs ys n) ∙ sym (append_assoc k f (fitting part (n - length f) ys))
      ∙ ap (λ (m : ℕ). k ++ f ++ fitting part m ys) e

  -- all of them written, where there is room
  pub all-put : (xs : List A) (room after : List ℕ) (r : ℕ) → length (flat_map part xs) ≤ length room
      → Put (fitting part (length room) xs) room r after → Put (flat_map part xs) room r after
  all-put xs room after r h p = subst (λ (x : List ℕ). Put x room r after) (fitting-all xs (length room) h) p

-- PART BY PART: what is left is what fits in the rest
module _ {whole room left : List ℕ} {s : State ℕ} (f : Emits whole room left s) where
  rest-long : length (rest s) ≡ length room - s.at
  rest-long = ap length (part_to_end s.out s.at) ∙ length-drop s.at s.out ∙ ap (λ (n : ℕ). n - s.at) (same f)

  -- a part, and what fits past it
  advance : (p ys : List ℕ) (r : ℕ) (past : ℕ → List ℕ) → length p ≤ length (rest s) → left ≡ p ++ past (length (rest s) - length p)
      → Put p (rest s) r ys → Emits whole room (past (length room - (s.at + r))) (after s r ys)
  advance p ys r past h e q =
      let n : r ≡ length p = q.0 ∙ filled-fits p (rest s) h in
      let m : length (rest s) - length p ≡ length room - (s.at + r) = omega (arith, n, rest-long) in
      emit f p (past (length room - (s.at + r))) (e ∙ ap (λ (k : ℕ). p ++ past k) m) q

  module _ {A : Type 0} (part : A → List ℕ) where
    pub fill_one : (x : A) (xs : List A) (ys : List ℕ) (r : ℕ) → left ≡ fitting part (length room - s.at) (x ∷ xs)
        → Put (part x) (rest s) r ys → Emits whole room (fitting part (length room - (s.at + r)) xs) (after s r ys)
    unfolding fitting
    fill_one x xs ys r e q =
        advance (keep (length (rest s)) (part x)) ys r (λ n. fitting part n xs) (keep-room (length (rest s)) (part x))
        (e ∙ ap (λ (n : ℕ). keep n (part x) ++ fitting part (n - length (keep n (part x))) xs) (sym rest-long))
        (put-kept (part x) (rest s) ys r q)

    pub fill_more : (xs zs : List A) (ys : List ℕ) (r : ℕ) → left ≡ fitting part (length room - s.at) (xs ++ zs)
        → Put (fitting part (length (rest s)) xs) (rest s) r ys
        → Emits whole room (fitting part (length room - (s.at + r)) zs) (after s r ys)
    fill_more xs zs ys r e q =
        advance (fitting part (length (rest s)) xs) ys r (λ n. fitting part n zs) (fitting-room part xs (length (rest s)))
        (e ∙ ap (λ (n : ℕ). fitting part n (xs ++ zs)) (sym rest-long) ∙ fitting-append part xs zs (length (rest s))) q

-- the first of several parts, written at the front
pub first-put : (part left room : List ℕ) {whole ys : List ℕ} {r : ℕ} → whole ≡ part ++ left → length whole ≤ length room
    → Put part room r ys → Emits whole room left (record { at = r; out = ys })
first-put part left room e h p =
    let n : length part ≤ length room = omega (arith, h, ap length e, length-append part left) in
    record {
      done = part;
      split = sym e;
      place = p.0 ∙ filled-fits part room n;
      held = p.1 ∙ written-fits part room n;
      fits = h;
    }

pub fill_begin : {A : Type 0} (part : A → List ℕ) (xs : List A) (room : List ℕ)
    → Emits (fitting part (length room) xs) room (fitting part (length room - 0) xs) (record { at = 0; out = room })
fill_begin part xs room =
    let e : length room ≡ length room - 0 = omega arith in
    subst (λ (n : ℕ). Emits (fitting part (length room) xs) room (fitting part n xs) (record { at = 0; out = room })) e
    (begin (fitting part (length room) xs) room (fitting-room part xs (length room)))

-- the last of several, and the first
pub fill-last : {A : Type 0} (part : A → List ℕ) (xs : List A) {whole room left : List ℕ} {s : State ℕ} (f : Emits whole room left s)
    (ys : List ℕ) (r : ℕ) → left ≡ fitting part (length room - s.at) xs → Put (fitting part (length (rest s)) xs) (rest s) r ys
    → Emits whole room [] (after s r ys)
fill-last part xs {s = s} f ys r e q =
    let p = fitting part (length (rest s)) xs in
    emit f p [] (e ∙ ap (λ (n : ℕ). fitting part n xs) (sym (rest-long f)) ∙ sym (append-nil p)) q

pub fill-first : (part room : List ℕ) (past : ℕ → List ℕ) {ys : List ℕ} {r : ℕ}
    → let k = keep (length room) part in length (k ++ past (length room - length k)) ≤ length room → Put part room r ys
    → Emits (k ++ past (length room - length k)) room (past (length room - r)) (record { at = r; out = ys })
fill-first part room past {ys} {r} h p =
    let k = keep (length room) part in
    let q = put-kept part room ys r p in
    let e : r ≡ length k = q.0 ∙ filled-fits k room (keep-room (length room) part) in
    first-put k (past (length room - r)) room (ap (λ (n : ℕ). k ++ past (length room - n)) (sym e)) h q

-- what is to be put next fits in the room that is lent
pub lent_room : {whole room left : List ℕ} {s : State ℕ} (f : Emits whole room left s) (part left' : List ℕ) → left ≡ part ++ left'
    → length part ≤ length (rest s)
lent_room {s = s} f part left' e =
    omega (arith, has_room f, ap length e, length-append part left', ap length (part_to_end s.out s.at), length-drop s.at s.out)

-- several at the front
pub fill_start : {A : Type 0} (part : A → List ℕ) (xs zs : List A) (room : List ℕ) {ys : List ℕ} {r : ℕ}
    → Put (fitting part (length room) xs) room r ys
    → Emits (fitting part (length room) (xs ++ zs)) room (fitting part (length room - r) zs) (record { at = r; out = ys })
fill_start part xs zs room {ys} {r} p =
    let f = fitting part (length room) xs in
    let e : r ≡ length f = p.0 ∙ filled-fits f room (fitting-room part xs (length room)) in
    first-put f (fitting part (length room - r) zs) room
    (fitting-append part xs zs (length room) ∙ ap (λ (n : ℕ). f ++ fitting part (length room - n) zs) (sym e))
    (fitting-room part (xs ++ zs) (length room)) p
