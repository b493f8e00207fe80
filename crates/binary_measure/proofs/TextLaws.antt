-- The bytes of a text, word by word. Assumes nothing.
use mathlib.Core.Path.{◌≡◌, refl, sym, ap, subst, ◌∙◌}
use mathlib.Core.List.{List, [], ◌∷◌, ◌++◌, append-nil}
use Prim.Native.Nat.{ℕ, suc, ◌+◌, ◌-◌, ◌*◌, ◌/◌, ◌%◌, ◌^◌, ◌≤◌, ◌<◌}
use native.Mathlib.Omega.{arith}
use lib.ListN.{length, drop, get_or, length-append, drop_of_length-le}
use lib.Dec.{ltb}
use borrow.Author.Tests.{ltb-true, ltb-false, le-ltb}
use Rattle.format.specs.Digits.{digits_of}
use Rattle.format.specs.Words.{is_head, text_from}
use Rattle.format.proofs.Laws.{digits_length}
use Rattle.format.proofs.ListLaws.{by_test}
use Rattle.writing.proofs.EachLaws.{drop_at_place}
use Rattle.object.specs.Bodies.{body_at, Text}
use Rattle.object.specs.Texts.{text_len}
use Rattle.object.proofs.WordLaws.{head-other}
use Rattle.object.proofs.BodyLaws.{body_goes, body_stops}
use Rattle.object.proofs.OrderLaws.{Split, split, text-rest}
use Rattle.object.proofs.ByteLaws.{len-none, len_some, text-size}
use Rattle.binary_measure.specs.Measured.{text_of}

no_bytes_lem : text_of [] ≡ []
unfolding text_from
no_bytes_lem = refl

size : (w : ℕ) (xs : List ℕ) (s : Split w xs) → length (text_of (w ∷ xs)) ≡ s.count + length (text_of xs)
size w xs s =
    ap length s.bytes ∙ length-append (digits_of 8 s.count w) (text_of xs)
    ∙ ap (λ n. n + length (text_of xs)) (digits_length 8 s.count w)

-- a word that others follow carries three
full : (w x : ℕ) (xs : List ℕ) → Text (w ∷ x ∷ xs) → text_of (w ∷ x ∷ xs) ≡ digits_of 8 3 w ++ text_of (x ∷ xs)
full w x xs h =
    let s = split w (x ∷ xs) h in
    let r = split x xs s.rest in
    let three : s.count ≡ 3 =
    by_test (ltb s.count 3)
    (λ t. let l = ltb-true s.count 3 t in absurd (omega (arith, ap length (s.word.last l), size x xs r, r.word.some)))
    (λ t. let l = ltb-false s.count 3 t in omega (arith, s.word.few)) in
    s.bytes ∙ ap (λ n. digits_of 8 n w ++ text_of (x ∷ xs)) three

-- where the words of a text stop: at a word of another kind, or at the end
module _ (ws : List ℕ) (i : ℕ) (t : Text (body_at ws i)) (h : i < length ws) where
  pub text_goes : 0xE000_0000 ≤ get_or ws i 0 → get_or ws i 0 < 2 ^ 32 → (body_at ws i ≡ get_or ws i 0 ∷ body_at ws (i + 1)) × Text (body_at ws (i + 1))
  text_goes k f =
      let w = get_or ws i 0 in
      let seven : w / 2 ^ 29 ≡ 7 = omega arith in
      let e = body_goes ws i h (sym (head-other w (λ z. omega arith)) ∙ le-ltb (w / 2 ^ 29) 6 (omega arith)) in
      (e, text-rest w (body_at ws (i + 1)) (subst Text e t))

  pub text_stops : get_or ws i 0 < 0xE000_0000 → body_at ws i ≡ []
  text_stops k =
      let w = get_or ws i 0 in
      by_test (is_head w) (λ e. body_stops ws i h e)
      (λ e. let q = body_goes ws i h e in
      let s = split w (body_at ws (i + 1)) (subst Text q t) in absurd (omega (arith, s.word.top)))

-- the last word by its count
module _ (w : ℕ) (h : Text (w ∷ [])) where
  abbrev pub count : ℕ
  count = w / 2 ^ 24 % 4

  counts : (split w [] h).count ≡ count
  counts = let s = split w [] h in omega (arith, s.word.top, s.word.few)

  pub last_some : 1 ≤ count
  last_some = omega (arith, counts, (split w [] h).word.some)

  pub last-bytes : text_of (w ∷ []) ≡ digits_of 8 count w
  last-bytes =
      (split w [] h).bytes ∙ ap (λ bs. digits_of 8 (split w [] h).count w ++ bs) no_bytes_lem ∙ append-nil (digits_of 8 (split w [] h).count w)
      ∙ ap (λ n. digits_of 8 n w) counts

-- what is left of the words, for the loop
module _ (ws : List ℕ) (i : ℕ) where
  pub text-here : i + 1 < length ws → Text (drop i ws)
      → (text_of (drop i ws) ≡ digits_of 8 3 (get_or ws i 0) ++ text_of (drop (i + 1) ws)) × Text (drop (i + 1) ws)
  text-here h t =
      let w = get_or ws i 0 in
      let x = get_or ws (i + 1) 0 in
      let here = drop_at_place 0 ws i (omega arith) in
      let next = drop_at_place 0 ws (i + 1) h in
      let both : drop i ws ≡ w ∷ x ∷ drop (i + 1 + 1) ws = here ∙ ap (λ xs. w ∷ xs) next in (
        ap text_of both ∙ full w x (drop (i + 1 + 1) ws) (subst Text both t) ∙ ap (λ xs. digits_of 8 3 w ++ text_of xs) (sym next),
        text-rest w (drop (i + 1) ws) (subst Text here t),
      )

  pub text-last : i + 1 ≡ length ws → drop i ws ≡ get_or ws i 0 ∷ []
  text-last h = drop_at_place 0 ws i (omega arith) ∙ ap (λ xs. get_or ws i 0 ∷ xs) (drop_of_length-le ws {i = i + 1} (omega arith))

pub no_words : (ws : List ℕ) → length ws ≡ 0 → text_of ws ≡ []
no_words [] e = no_bytes_lem
no_words (w ∷ ws) e = absurd (omega arith)

-- the length, as the words say it
pub text-length : (ws : List ℕ) → Text ws → text_len ws 0 (length ws) ≡ length (text_of ws)
text-length [] t = sym (len-none [] 0 0 (omega arith)) ∙ sym (ap length no_bytes_lem)
text-length (w ∷ ws) t =
    let n = length ws in
    let a : suc n - 1 - 0 ≡ n = omega arith in
    let b : suc n - 1 ≡ n = omega arith in
    len_some (w ∷ ws) 0 (suc n) (omega arith) (omega arith) ∙ ap (λ k. k * 3 + get_or (w ∷ ws) (suc n - 1) 0 / 2 ^ 24 % 4) a
    ∙ ap (λ k. n * 3 + get_or (w ∷ ws) k 0 / 2 ^ 24 % 4) b ∙ sym (text-size w ws t)
