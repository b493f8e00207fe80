-- The words up to the next head, by place. Assumes nothing.
use mathlib.Core.Path.{◌≡◌, refl, sym, ◌∙◌, ap}
use mathlib.Core.Bool.{true, false, not}
use mathlib.Core.List.{List, [], ◌∷◌}
use Prim.Native.Nat.{ℕ, suc, ◌+◌, ◌≤◌, ◌<◌, max}
use native.Mathlib.Omega.{arith}
use native.Mathlib.Numerals.{add-one}
use lib.ListN.{length, drop, get_or, drop_of_length-le, length-drop}
use lib.Seq.{drop-cons, drop-drop}
use lib.Dec.{ltb, leb}
use borrow.Author.Tests.{ltb-true, ltb-false, leb-true, leb-false}
use Rattle.format.specs.Basics.{is_empty}
use Rattle.format.specs.Tokens.{Parts, parts_at, head_of, body_of}
use Rattle.format.specs.Words.{is_head}
use Rattle.object.specs.Bodies.{body_at, groups_at, SameEnd}
use Rattle.format.proofs.ListLaws.{by_test}
use Rattle.object.proofs.Tests.{clash}

pub head-parts : (x : ℕ) (xs : List ℕ) → is_head x ≡ true → parts_at is_head (x ∷ xs) ≡ head_of x (parts_at is_head xs)
unfolding parts_at
head-parts x xs e = rw e

pub body_parts : (x : ℕ) (xs : List ℕ) → is_head x ≡ false → parts_at is_head (x ∷ xs) ≡ body_of x (parts_at is_head xs)
unfolding parts_at
body_parts x xs e = rw e

-- past the words of a record stands a head or the end
abbrev rest : Parts ℕ → Parts ℕ
rest p = record { before = []; groups = p.groups }

abbrev past : List ℕ → Parts ℕ → Parts ℕ
past xs p = parts_at is_head (drop (length p.before) xs)

parts-after : (xs : List ℕ) → past xs (parts_at is_head xs) ≡ rest (parts_at is_head xs)
unfolding parts_at
parts-after [] = refl
parts-after (x ∷ xs) =
    by_test (is_head x)
    (λ e. let q = head-parts x xs e in ap (past (x ∷ xs)) q ∙ q ∙ ap rest (sym q))
    (λ e. let q = body_parts x xs e in ap (past (x ∷ xs)) q ∙ parts-after xs ∙ ap rest (sym q))

before-length : (xs : List ℕ) → length (parts_at is_head xs).before ≤ length xs
unfolding parts_at
before-length [] = omega arith
before-length (x ∷ xs) =
    by_test (is_head x)
    (λ e. omega (arith, ap (λ p. length p.before) (head-parts x xs e)))
    (λ e. omega (arith, before-length xs, ap (λ p. length p.before) (body_parts x xs e)))

module _ (ws : List ℕ) (i : ℕ) where
  pub body_out : length ws ≤ i → body_at ws i ≡ []
  unfolding body_at parts_at
  body_out h = ap (λ xs. (parts_at is_head xs).before) (drop_of_length-le ws h)

  pub groups_out : length ws ≤ i → groups_at ws i ≡ []
  unfolding groups_at parts_at
  groups_out h = ap (λ xs. (parts_at is_head xs).groups) (drop_of_length-le ws h)

  pub body_stops : i < length ws → is_head (get_or ws i 0) ≡ true → body_at ws i ≡ []
  unfolding body_at
  body_stops h e = ap (λ xs. (parts_at is_head xs).before) (drop-cons ws i 0 h)
      ∙ ap (λ p. p.before) (head-parts (get_or ws i 0) (drop (suc i) ws) e)

  pub body_goes : i < length ws → is_head (get_or ws i 0) ≡ false → body_at ws i ≡ get_or ws i 0 ∷ body_at ws (i + 1)
  unfolding body_at
  body_goes h e =
      ap (λ xs. (parts_at is_head xs).before) (drop-cons ws i 0 h) ∙ ap (λ p. p.before) (body_parts (get_or ws i 0) (drop (suc i) ws) e)
      ∙ ap (λ n. get_or ws i 0 ∷ body_at ws n) (sym (add-one i))

  pub groups-here : i < length ws → is_head (get_or ws i 0) ≡ true → groups_at ws i ≡ (get_or ws i 0, body_at ws (i + 1)) ∷ groups_at ws (i + 1)
  unfolding body_at groups_at
  groups-here h e =
      ap (λ xs. (parts_at is_head xs).groups) (drop-cons ws i 0 h) ∙ ap (λ p. p.groups) (head-parts (get_or ws i 0) (drop (suc i) ws) e)
      ∙ ap (λ n. (get_or ws i 0, body_at ws n) ∷ groups_at ws n) (sym (add-one i))

  pub after_body : body_at ws (i + length (body_at ws i)) ≡ []
  unfolding body_at
  after_body = ap (λ xs. (parts_at is_head xs).before) (sym (drop-drop (length (body_at ws i)) i ws))
      ∙ ap (λ p. p.before) (parts-after (drop i ws))

  pub after-groups : groups_at ws (i + length (body_at ws i)) ≡ groups_at ws i
  unfolding body_at groups_at
  after-groups = ap (λ xs. (parts_at is_head xs).groups) (sym (drop-drop (length (body_at ws i)) i ws))
      ∙ ap (λ p. p.groups) (parts-after (drop i ws))

  pub body_fits : i ≤ length ws → i + length (body_at ws i) ≤ length ws
  unfolding body_at
  body_fits h = omega (arith, before-length (drop i ws), length-drop i ws)

  -- what the code's test says
  pub goes : not (is_empty (body_at ws i)) ≡ true → (i < length ws) × (body_at ws i ≡ get_or ws i 0 ∷ body_at ws (i + 1))
  unfolding is_empty
  goes t =
      by_test (ltb i (length ws))
      (λ l. let h : i < length ws = ltb-true i (length ws) l in
      by_test (is_head (get_or ws i 0)) (λ e. clash t (rw (body_stops h e))) (λ e. (h, body_goes h e)))
      (λ l. clash t (rw (body_out (ltb-false i (length ws) l))))

  pub stops : not (is_empty (body_at ws i)) ≡ false → body_at ws i ≡ []
  unfolding is_empty
  stops t = go (body_at ws i) t
    where
      go : (xs : List ℕ) → not (is_empty xs) ≡ false → xs ≡ []
      go [] e = refl
      go (x ∷ xs) e = clash refl e

  -- the same, by how many words go on
  pub goes_inside : 0 < length (body_at ws i) → (i < length ws) × (body_at ws i ≡ get_or ws i 0 ∷ body_at ws (i + 1))
  unfolding is_empty
  goes_inside h = goes (go (body_at ws i) h)
    where
      go : (xs : List ℕ) → 0 < length xs → not (is_empty xs) ≡ true
      go [] h = absurd (omega arith)
      go (x ∷ xs) h = refl

  pub stops_inside : length (body_at ws i) ≡ 0 → body_at ws i ≡ []
  stops_inside e = go (body_at ws i) e
    where
      go : (xs : List ℕ) → length xs ≡ 0 → xs ≡ []
      go [] e = refl
      go (x ∷ xs) e = absurd (omega (arith, e))

-- whether a place begins a record
pub head_at : (ws : List ℕ) (i : ℕ) → i < length ws → body_at ws i ≡ [] → is_head (get_or ws i 0) ≡ true
head_at ws i h e = by_test (is_head (get_or ws i 0)) (λ t. t) (λ t. let p = body_goes ws i h t in let z : ◌≡◌ {A = ℕ} 0 1 = cc in absurd
    (omega arith))

pub same_start : (ws : List ℕ) (at : ℕ) → SameEnd ws at (at + 0)
same_start ws at = let q : at ≡ at + 0 = omega arith in ap (λ n. n + length (body_at ws n)) q

-- a word more that goes on
pub same_more :
    (ws : List ℕ) (at k : ℕ)
    → SameEnd ws at (at + k)
    → at + k < length ws
    → is_head (get_or ws (at + k) 0) ≡ false
    → SameEnd ws at (at + (k + 1))
same_more ws at k s h e =
    let q : at + k + 1 ≡ at + (k + 1) = omega arith in
    omega (arith, s, ap length (body_goes ws (at + k) h e), ap (λ n. length (body_at ws n)) q)

-- words passed to the end of the object, from a place that may lie past it
pub ends_within :
    (ws : List ℕ) (at i : ℕ)
    → length ws ≤ i
    → (at ≤ length ws → i ≤ length ws)
    → i + length (body_at ws i) ≡ at + length (body_at ws at)
    → max at (length ws) ≡ at + length (body_at ws at)
ends_within ws at i h within e =
    by_test (leb at (length ws))
    (λ t. omega (arith, within (leb-true at (length ws) t), e, ap length (body_out ws i h)))
    (λ t. let l = leb-false at (length ws) t in omega (arith, ap length (body_out ws at (omega (arith, l)))))
