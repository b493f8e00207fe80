-- A reader has room for its words if each object that it reads has few enough; and then it never gives 3, where none of its own questions
-- has this number. Assumes nothing.
use mathlib.Core.Path.{◌≡◌, refl, ◌∙◌, ap, sym}
use mathlib.Core.List.{List}
use Prim.Native.Nat.{ℕ, ◌≤◌}
use native.Mathlib.Omega.{arith}
use lib.ListN.{length}
use borrow.Author.Tests.{le-leb}
use Rattle.format.specs.Basics.{Outcome, refused, given, ◌>>=◌}
use Rattle.format.specs.ObjectFile.{ObjectFile}
use Rattle.format.specs.Words.{words_of}
use Rattle.format.specs.Calls.{Filled, fill}
use Rattle.format.specs.Bounds.{WordsFit, NeverShort}
use Rattle.format.proofs.Outcomes.{Gives, gives}
use Rattle.format.proofs.WordsOnly.{bind_given, given-same}
use Rattle.format.proofs.Numbered.{RefusedAbove}

-- the words of the objects that are read
pub words_fit : (read : List ℕ → Outcome ObjectFile) (room : ℕ → ℕ)
    → ((bs : List ℕ) → Gives (λ h. length (words_of h) ≤ room (length bs)) (read bs)) → WordsFit (λ bs. read bs >>= λ h. given (words_of h)) room
words_fit read room few bs ws e =
    let p = bind_given (read bs) (λ h. given (words_of h)) ws e in
    let same : words_of p.0 ≡ ws = given-same p.2 in
    omega (arith, gives (λ h. length (words_of h) ≤ room (length bs)) (read bs) p.0 (few bs) p.1, ap length same)

fill-number : (o : Outcome (List ℕ)) (buffer : List ℕ) → RefusedAbove 9 o → ((ws : List ℕ) → o ≡ given ws → length ws ≤ length buffer)
    → ¬ ((fill o buffer).number ≡ 3)
unfolding fill
fill-number (refused n) buffer above room three = omega arith
fill-number (given ws) buffer above room three =
    let z : ◌≡◌ {A = ℕ} 0 3 = rw (le-leb (length ws) (length buffer) (room ws refl)) at three in omega arith

pub never_short : (read : List ℕ → Outcome (List ℕ)) (room : ℕ → ℕ) → WordsFit read room → ((bs : List ℕ) → RefusedAbove 9 (read bs))
    → NeverShort (λ bs buffer r. r ≡ fill (read bs) buffer) room
never_short read room fit above bs buffer r enough e three =
    fill-number (read bs) buffer (above bs) (λ ws q. omega (arith, fit bs ws q, enough)) (sym (ap (λ (x : Filled). x.number) e) ∙ three)
