-- Text words, and a text word by word. Assumes nothing.
use mathlib.Core.Path.{◌≡◌, refl, sym, ◌∙◌, ap}
use mathlib.Core.Bool.{Bool, true, false, ◌&&◌}
use mathlib.Core.List.{List, [], ◌∷◌, ◌++◌}
use Prim.Native.Nat.{ℕ, ◌+◌, ◌*◌, ◌/◌, ◌%◌, ◌^◌, ◌≤◌, ◌<◌}
use native.Mathlib.Omega.{arith}
use lib.ListN.{length}
use lib.Dec.{ltb, eqb}
use borrow.Author.Tests.{lt-ltb, le-ltb, le-leb, ltb-true, ltb-false, eqb-true, eqb-false}
use Rattle.format.specs.Basics.{Outcome, refused, given, ◌>>=◌, ask}
use Rattle.format.specs.Digits.{digits_of}
use Rattle.format.specs.Utf8.{is_utf8}
use Rattle.format.specs.Words.{text_part, text_from}
use Rattle.format.proofs.Laws.{digits_length}
use Rattle.utf8.specs.declared.Utf8.{Utf8}
use Rattle.utf8.specs.Utf8.{step, run, whole}
use Rattle.object.specs.Bodies.{allows}
use Rattle.object.specs.Bodies.{good_text}
use Rattle.format.proofs.ListLaws.{by_test}
use Rattle.object.proofs.WordLaws.{bits_given, bits_refused}
use Rattle.utf8.proofs.TableLaws.{run_is_utf8}

module _ (w n : ℕ) (top : w / 2 ^ 24 ≡ 0xE0 + n) (some : 1 ≤ n) (few : n ≤ 3) where
  part-given : w % 2 ^ 24 < 2 ^ (8 * n) → text_part w ≡ given (digits_of 8 n (w % 2 ^ 29))
  unfolding text_part
  part-given h =
      let e : w % 2 ^ 29 / 2 ^ 24 ≡ n = omega arith in
      let f : w % 2 ^ 29 % 2 ^ 24 ≡ w % 2 ^ 24 = omega arith in
      simp (bits_given 7 (2 ^ 26) w (omega arith) (omega arith), e, f, le-leb 1 n some, le-leb n 3 few, lt-ltb (w % 2 ^ 24) (2 ^ (8 * n)) h)

  pub part-long : 2 ^ (8 * n) ≤ w % 2 ^ 24 → text_part w ≡ refused 1
  unfolding text_part
  part-long h =
      let e : w % 2 ^ 29 / 2 ^ 24 ≡ n = omega arith in
      let f : w % 2 ^ 29 % 2 ^ 24 ≡ w % 2 ^ 24 = omega arith in
      simp (bits_given 7 (2 ^ 26) w (omega arith) (omega arith), e, f, le-leb 1 n some, le-leb n 3 few, le-ltb (w % 2 ^ 24) (2 ^ (8 * n)) h)

module _ (w : ℕ) where
  low_1 : digits_of 8 1 (w % 2 ^ 29) ≡ digits_of 8 1 w
  unfolding digits_of
  low_1 = let a : w % 2 ^ 29 % 2 ^ 8 ≡ w % 2 ^ 8 = omega arith in rw a

  second : w % 2 ^ 29 / 2 ^ 8 % 2 ^ 8 ≡ w / 2 ^ 8 % 2 ^ 8
  second = let e : w / 2 ^ 8 ≡ 2 ^ 8 * (2 ^ 13 * (w / 2 ^ 29)) + w % 2 ^ 29 / 2 ^ 8 = omega arith in omega arith

  third : w % 2 ^ 29 / 2 ^ 8 / 2 ^ 8 % 2 ^ 8 ≡ w / 2 ^ 8 / 2 ^ 8 % 2 ^ 8
  third =
      let e : w / 2 ^ 8 ≡ 2 ^ 8 * (2 ^ 13 * (w / 2 ^ 29)) + w % 2 ^ 29 / 2 ^ 8 = omega arith in
      let f : w / 2 ^ 8 / 2 ^ 8 ≡ 2 ^ 8 * (2 ^ 5 * (w / 2 ^ 29)) + w % 2 ^ 29 / 2 ^ 8 / 2 ^ 8 = omega arith in omega arith

  low_2 : digits_of 8 2 (w % 2 ^ 29) ≡ digits_of 8 2 w
  unfolding digits_of
  low_2 = let a : w % 2 ^ 29 % 2 ^ 8 ≡ w % 2 ^ 8 = omega arith in rw (a, second)

  low_3 : digits_of 8 3 (w % 2 ^ 29) ≡ digits_of 8 3 w
  unfolding digits_of
  low_3 = let a : w % 2 ^ 29 % 2 ^ 8 ≡ w % 2 ^ 8 = omega arith in rw (a, second, third)

  pub part_1 : w / 2 ^ 24 ≡ 0xE1 → w % 2 ^ 24 < 2 ^ 8 → text_part w ≡ given (digits_of 8 1 w)
  part_1 e h = part-given w 1 e (omega arith) (omega arith) h ∙ ap given low_1

  pub part_2 : w / 2 ^ 24 ≡ 0xE2 → w % 2 ^ 24 < 2 ^ 16 → text_part w ≡ given (digits_of 8 2 w)
  part_2 e h = part-given w 2 e (omega arith) (omega arith) h ∙ ap given low_2

  pub part_3 : w / 2 ^ 24 ≡ 0xE3 → text_part w ≡ given (digits_of 8 3 w)
  part_3 e = part-given w 3 e (omega arith) (omega arith) (omega arith) ∙ ap given low_3

  pub part-other : (w / 2 ^ 24 ≡ 0xE3 → ⊥) → (w / 2 ^ 24 ≡ 0xE2 → ⊥) → (w / 2 ^ 24 ≡ 0xE1 → ⊥) → text_part w ≡ refused 1
  unfolding text_part
  part-other n3 n2 n1 =
      by_test (eqb (w / 2 ^ 29) 7)
      (λ a. let k = eqb-true (w / 2 ^ 29) 7 a in
      by_test (ltb (w % 2 ^ 29) (2 ^ 26))
      (λ b. let l = ltb-true (w % 2 ^ 29) (2 ^ 26) b in let z : w % 2 ^ 29 / 2 ^ 24
      ≡ 0 = omega arith in simp (bits_given 7 (2 ^ 26) w k l, z))
      (λ b. let l = ltb-false (w % 2 ^ 29) (2 ^ 26) b in rw (bits_refused 7 (2 ^ 26) w (λ p q. omega arith))))
      (λ a. let m = eqb-false (w / 2 ^ 29) 7 a in rw (bits_refused 7 (2 ^ 26) w (λ p q. m p)))

-- the bytes of a word, one by one
module _ (u : Utf8) (w : ℕ) where
  pub run_1 : run u (digits_of 8 1 w) ≡ step u (w % 256)
  unfolding digits_of run
  run_1 = refl

  pub run_2 : run u (digits_of 8 2 w) ≡ step (step u (w % 256)) (w / 256 % 256)
  unfolding digits_of run
  run_2 = refl

  pub run_3 : run u (digits_of 8 3 w) ≡ step (step (step u (w % 256)) (w / 256 % 256)) (w / 65536 % 256)
  unfolding digits_of run
  run_3 = let e : w / 256 / 256 % 256 ≡ w / 65536 % 256 = omega arith in ap (step (step (step u (w % 256)) (w / 256 % 256))) e

run-append : (u : Utf8) (xs ys : List ℕ) → run u (xs ++ ys) ≡ run (run u xs) ys
unfolding run
run-append u [] ys = refl
run-append u (x ∷ xs) ys = run-append (step u x) xs ys

-- A text from its middle: the state of UTF-8, and whether every word so far is full.
unfoldable pub text_on : Utf8 → Bool → List ℕ → Bool
text_on u full [] = eqb u.need 0
text_on u full (w ∷ ws) = full && allows (text_part w) (λ bs. text_on (run u bs) (eqb (length bs) 3) ws)

text_agrees : (u : Utf8) (ws : List ℕ) → text_on u true ws ≡ allows (text_from ws) (λ t. eqb (run u t).need 0)
unfolding text_on text_from run
text_agrees u [] = refl
text_agrees u (w ∷ []) = refl
text_agrees u (w ∷ v ∷ ws) = go (text_part w) (λ bs. text_agrees (run u bs) (v ∷ ws))
  where
    later : (bs : List ℕ) (o : Outcome (List ℕ)) → allows o (λ t. eqb (run (run u bs) t).need 0)
        ≡ allows (o >>= λ cs. given (bs ++ cs)) (λ t. eqb (run u t).need 0)
    later bs (refused n) = refl
    later bs (given cs) = ap (λ (s : Utf8). eqb s.need 0) (sym (run-append u bs cs))

    full : (bs : List ℕ) (t : Bool) → text_on (run u bs) true (v ∷ ws) ≡ allows (text_from (v ∷ ws)) (λ t. eqb (run (run u bs) t).need 0)
        → text_on (run u bs) t (v ∷ ws) ≡ allows (ask 1 t >>= λ _. text_from (v ∷ ws) >>= λ cs. given (bs ++ cs)) (λ t. eqb (run u t).need 0)
    full bs true ih = ih ∙ later bs (text_from (v ∷ ws))
    full bs false ih = refl

    go : (o : Outcome (List ℕ)) → ((bs : List ℕ) → text_on (run u bs) true (v ∷ ws)
        ≡ allows (text_from (v ∷ ws)) (λ t. eqb (run (run u bs) t).need 0))
        → allows o (λ bs. text_on (run u bs) (eqb (length bs) 3) (v ∷ ws))
        ≡ allows (o >>= λ bs. ask 1 (eqb (length bs) 3) >>= λ _. text_from (v ∷ ws) >>= λ cs. given (bs ++ cs)) (λ t. eqb (run u t).need 0)
    go (refused n) ih = refl
    go (given bs) ih = full bs (eqb (length bs) 3) (ih bs)

pub text-start : (ws : List ℕ) → text_on whole true ws ≡ good_text ws
unfolding good_text
text-start ws = text_agrees whole ws ∙ go (text_from ws)
  where
    go : (o : Outcome (List ℕ)) → allows o (λ t. eqb (run whole t).need 0) ≡ allows o is_utf8
    go (refused n) = refl
    go (given t) = run_is_utf8 t

pub text-end : (u : Utf8) (full : Bool) → text_on u full [] ≡ eqb u.need 0
unfolding text_on
text-end u full = refl

module _ (u : Utf8) (w : ℕ) (ws : List ℕ) where
  pub text-short : (full : Bool) → full ≡ false → text_on u full (w ∷ ws) ≡ false
  unfolding text_on
  text-short full e = rw e

  pub text-bad : (full : Bool) → full ≡ true → text_part w ≡ refused 1 → text_on u full (w ∷ ws) ≡ false
  unfolding text_on
  text-bad full e p = rw (e, p)

  pub text-next : (full : Bool) (n : ℕ) → full ≡ true → text_part w ≡ given (digits_of 8 n w) → text_on u full (w ∷ ws)
      ≡ text_on (run u (digits_of 8 n w)) (eqb n 3) ws
  unfolding text_on
  text-next full n e p = rw (e, p, digits_length 8 n w)
