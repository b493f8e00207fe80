-- From calls that fill a buffer to what is printed. Assumes nothing.
use mathlib.Core.Path.{◌≡◌, refl, sym, ap, subst, ◌∙◌}
use mathlib.Core.Bool.{Bool, true, false}
use mathlib.Core.List.{List}
use Prim.Native.Nat.{ℕ, ◌≤◌, ◌<◌}
use native.Mathlib.Omega.{arith}
use lib.ListN.{length, take, drop, replicate, length-append, length-replicate}
use lib.Seq.{take_at, length-take-le}
use lib.Dec.{eqb, leb}
use borrow.Author.Tests.{le-leb, lt-leb, leb-true, eqb-true, eqb-false}
use Rattle.std.specs.Prelude.{if◌then◌else◌, Result, Ok, Err}
use Rattle.format.specs.Basics.{Outcome, refused, given, ◌>>=◌}
use Rattle.format.specs.Calls.{Filled, fill, message, fitting}
use Rattle.format.proofs.ListLaws.{by_test}
use Rattle.units.specs.declared.refusal.Refusal.{Refusal}
use Rattle.units.specs.Refusal.{number_of, filled_of}
use Rattle.units.proofs.RefusalLaws.{number_of-above}
use Rattle.writing.specs.Written.{into, filled, written, Put}
use Rattle.writing.proofs.WriteLaws.{filled-fits, written-fits}
use Rattle.printing.specs.Printed.{words_read, number_line, PrintsFilled, Counts}
use Rattle.format.proofs.Numbered.{Numbered, numbered_bind, numbered_ask}

-- A CALL THAT FILLS A BUFFER, as an outcome that asks for the buffer's length too

-- another number than 0: the outcome is refused with it, and the buffer is as found
abbrev WhenRefused : Outcome (List ℕ) → List ℕ → Filled → Type 0
WhenRefused o buffer f = ¬ (f.number ≡ 0) → (fitting (length buffer) o ≡ refused f.number) × (f.buffer ≡ buffer)

-- number 0: what is given stands at the front of the buffer
record Gave (o : Outcome (List ℕ)) (buffer : List ℕ) (f : Filled) : Type 0 where
  pub out : List ℕ
  pub is : fitting (length buffer) o ≡ given out
  pub len : f.len ≡ length out
  pub after : f.buffer ≡ into out buffer
  pub fits : length out ≤ length buffer

abbrev WhenGiven : Outcome (List ℕ) → List ℕ → Filled → Type 0
WhenGiven o buffer f = f.number ≡ 0 → Gave o buffer f

fill-refused : (o : Outcome (List ℕ)) (buffer : List ℕ) → WhenRefused o buffer (fill o buffer)
unfolding fill fitting
fill-refused (refused n) buffer = λ h. (refl, refl)
fill-refused (given out) buffer =
    by_test (leb (length out) (length buffer)) (λ t. rw t (λ h. absurd (h refl))) (λ t. rw t (λ h. (refl, refl)))

fill-given : (o : Outcome (List ℕ)) (buffer : List ℕ) → Numbered o → WhenGiven o buffer (fill o buffer)
unfolding fill fitting
fill-given (refused n) buffer q = λ h. absurd (omega arith)
fill-given (given out) buffer q =
    by_test (leb (length out) (length buffer))
    (λ t. let l = leb-true (length out) (length buffer) t in
    rw t (λ h. record { out = out; is = rw t; len = refl; after = refl; fits = l }))
    (λ t. rw t (λ h. absurd (omega arith)))

module _ (o : Outcome (List ℕ)) (buffer : List ℕ) (f : Filled) (e : f ≡ fill o buffer) where
  was_refused : WhenRefused o buffer f
  was_refused = subst (WhenRefused o buffer) (sym e) (fill-refused o buffer)

  was_given : Numbered o → WhenGiven o buffer f
  was_given q = subst (WhenGiven o buffer) (sym e) (fill-given o buffer q)

-- the length filled is within the buffer
within : (o : Outcome (List ℕ)) (buffer : List ℕ) → (fill o buffer).len ≤ length (fill o buffer).buffer
unfolding fill
within (refused n) buffer = omega arith
within (given out) buffer =
    by_test (leb (length out) (length buffer)) (λ t. rw t (simp length-append (omega arith))) (λ t. rw t (omega arith))

pub fill-counts : (o : Outcome (List ℕ)) (buffer : List ℕ) (f : Filled) → f ≡ fill o buffer → Counts f.len f.buffer
fill-counts o buffer f e =
    let h : f.len ≤ length f.buffer = subst (λ (x : Filled). x.len ≤ length x.buffer) (sym e) (within o buffer) in
    (h, sym (length-take-le f.len f.buffer h))

-- THE OBJECT THAT IS READ

-- "an input longer than its buffer is 3"
pub too_long : (read : List ℕ → Outcome (List ℕ)) (input : List ℕ) → 65536 < length input → words_read read input ≡ refused 3
unfolding words_read fitting
too_long read input h = rw (lt-leb (length input) 65536 h)

module _ (read : List ℕ → Outcome (List ℕ)) (input : List ℕ) (h : length input ≤ 65536) where
  whole : words_read read input ≡ fitting 16384 (read input)
  unfolding words_read fitting
  whole = rw (le-leb (length input) 65536 h)

  module _ (words : List ℕ) (n : words ≡ replicate 16384 0) (f : Filled) (e : f ≡ fill (read input) words) where
    room : words_read read input ≡ fitting (length words) (read input)
    room = whole ∙ ap (λ k. fitting k (read input)) (sym (ap length n ∙ length-replicate {A = ℕ} 16384 0))

    pub not-read : ¬ (f.number ≡ 0) → words_read read input ≡ refused f.number
    not-read z = room ∙ (was_refused (read input) words f e z).0

    pub is_read :
        Numbered (read input) → f.number ≡ 0
        → (words_read read input ≡ given (take f.len f.buffer)) × Counts f.len f.buffer
    is_read q z =
        let g = was_given (read input) words f e q z in
        let front : take f.len f.buffer ≡ g.out =
        ap (take f.len) g.after ∙ take_at g.out (drop (length g.out) words) f.len (sym g.len) in
        let same = room ∙ g.is ∙ ap given (sym front) in
        (same, fill-counts (read input) words f e)

-- WHAT IS PRINTED

-- a part that was put is within the buffer
counts-put : (part room after : List ℕ) (r : ℕ) → Put part room r after → Counts r after
unfolding filled written
counts-put part room after r p = (inside, sym (length-take-le r after inside))
  where
    Inside : Bool → Type 0
    Inside t = (if t then length part else 0) ≤ length (if t then into part room else room)

    go : (t : Bool) → Inside t
    go true = simp length-append (omega arith)
    go false = omega arith

    inside : r ≤ length after
    inside = rw (p.0, p.1) (go (leb (length part) (length room)))

-- the buffer's length is asked last
pub fitting-last :
    {A B : Type 0} (o : Outcome A) (g : A → Outcome B) (f : B → Outcome (List ℕ)) (n : ℕ)
    → (o >>= λ a. g a >>= λ b. fitting n (f b)) ≡ fitting n (o >>= g >>= f)
unfolding fitting
fitting-last (refused m) g f n = refl
fitting-last {B = B} (given a) g f n = go (g a)
  where
    go : (o : Outcome B) → (o >>= λ b. fitting n (f b)) ≡ fitting n (o >>= f)
    go (refused m) = refl
    go (given b) = refl

fitting_numbered : (n : ℕ) (o : Outcome (List ℕ)) → Numbered o → Numbered (fitting n o)
unfolding fitting
fitting_numbered n o q = numbered_bind 0 o _ q λ out. numbered_ask 0 3 (leb (length out) n) _ (omega arith) tt

pub words_numbered :
    (read : List ℕ → Outcome (List ℕ)) → ((bs : List ℕ) → Numbered (read bs)) → (input : List ℕ) → Numbered (words_read read input)
unfolding words_read
words_numbered read q input =
    numbered_bind 0 (fitting 65536 (given input)) _ (fitting_numbered 65536 (given input) tt) λ bs. fitting_numbered 16384 (read bs) (q bs)

-- of a call that filled the buffer: the number and a newline, or what was filled
module _ (o : Outcome (List ℕ)) (buffer left : List ℕ) where
  abbrev Prints : ℕ → List ℕ → Type 0
  Prints r after = Put (message (fitting (length buffer) o)) buffer r after × Counts r after

  number_printed : (x : Refusal) → filled_of (Err x) left ≡ fill o buffer → (r : ℕ) (after : List ℕ) → Put (number_line x) left r after → Prints r after
  unfolding message
  number_printed x e r after p =
      let w = was_refused o buffer (filled_of (Err x) left) e (λ z. omega (arith, number_of-above x, z)) in
      let q = subst (λ (b : List ℕ). Put (number_line x) b r after) w.1 p in
      (subst (λ (m : Outcome (List ℕ)). Put (message m) buffer r after) (sym w.0) q, counts-put _ _ after r p)

  file_printed : Numbered o → (len : ℕ) → filled_of (Ok len) left ≡ fill o buffer → Prints len left
  unfolding message
  file_printed q len e =
      let f = was_given o buffer (filled_of (Ok len) left) e q refl in
      let p : Put f.out buffer len left =
      (f.len ∙ sym (filled-fits f.out buffer f.fits), f.after ∙ sym (written-fits f.out buffer f.fits)) in
      (subst (λ (m : Outcome (List ℕ)). Put (message m) buffer len left) (sym f.is) p, counts-put _ _ left len p)

  pub printed :
      Numbered o → (g : Result ℕ Refusal) → filled_of g left ≡ fill o buffer → (r : ℕ) (after : List ℕ) → PrintsFilled g left r after
      → Prints r after
  printed q (Ok len) e r after p = rw (p.0, p.1) (file_printed q len e)
  printed q (Err x) e r after p = number_printed x e r after p
