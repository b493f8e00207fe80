-- Rows at the places of a window, and window after window. Assumes nothing.
use mathlib.Core.Path.{◌≡◌, ap, ◌∙◌}
use mathlib.Core.List.{List, [], ◌∷◌, ◌++◌, flat_map}
use Prim.Native.Nat.{ℕ, ◌+◌, ◌≤◌, ◌<◌}
use native.Mathlib.Omega.{arith}
use lib.ListN.{length, take, drop, length-append, length-take, length-drop, drop_of_length-le}
use Rattle.format.specs.Sorted.{upsert, upsert_all}
use borrow.Author.Rules.{part_to_end}
use Rattle.writing.proofs.Parts.{State, Emits, rest, has_room}
use Rattle.gather.specs.Order.{HandsOut}
use Rattle.gather.proofs.WindowLaws.{by_order, upsert_below, upsert-same, upsert_above}

module _ (line : ℕ → List ℕ) (win : List ℕ) (n i : ℕ) where
  pub window-end : n ≤ i → flat_map line (drop i (take n win)) ≡ []
  unfolding flat_map
  window-end h = ap (flat_map line) (drop_of_length-le (take n win) {i = i} (omega (arith, length-take n win)))

-- what is handed out, and what is left
module _ (places found now rest : List ℕ) (n : ℕ) (h : HandsOut places found now n rest) where
  few : n ≤ length places
  few = omega (arith, h.windowed.count, length-take (length found) places)

  pub handed_few : n ≤ length found
  handed_few = omega (arith, h.windowed.count, length-take (length found) places)

  pub handed_long : length now ≡ length found
  handed_long =
      omega (
        arith,
        ap length h.windowed.holds,
        length-append (take (length found) places) (drop n found),
        length-drop n found,
        h.windowed.count,
        handed_few,
      )

  pub handed_less : 0 < n → length rest < length places
  handed_less p = omega (arith, ap length h.others, length-drop n places, few)

  pub handed_last : (line : ℕ → List ℕ) → n < length found → flat_map line rest ≡ []
  unfolding flat_map
  handed_last line l =
      let e : length places ≤ n = omega (arith, h.windowed.count, length-take (length found) places) in
      ap (flat_map line) (h.others ∙ drop_of_length-le places {i = n} e)

-- a sorted list has no more rows
module _ (key : ℕ → List ℕ) (line : ℕ → List ℕ) where
  rows : List ℕ → ℕ
  rows ps = length (flat_map line ps)

  rows-cons : (p : ℕ) (ps : List ℕ) → rows (p ∷ ps) ≡ length (line p) + rows ps
  unfolding rows flat_map
  rows-cons p ps = length-append (line p) (flat_map line ps)

  upsert-rows : (a : ℕ) (ps : List ℕ) → rows (upsert key a ps) ≤ length (line a) + rows ps
  unfolding upsert
  upsert-rows a [] = omega (arith, rows-cons a [])
  upsert-rows a (p ∷ ps) =
      by_order (key a) (key p)
      (λ e. omega (arith, ap rows (upsert_below key a p ps e), rows-cons a (p ∷ ps)))
      (λ e. omega (arith, ap rows (upsert-same key a p ps e), rows-cons a ps, rows-cons p ps))
      (λ e. omega (arith, ap rows (upsert_above key a p ps e), rows-cons p (upsert key a ps), rows-cons p ps, upsert-rows a ps))

  all-rows : (ps acc : List ℕ) → rows (upsert_all key ps acc) ≤ rows ps + rows acc
  unfolding upsert_all
  all-rows [] acc = omega arith
  all-rows (p ∷ ps) acc = omega (arith, all-rows ps (upsert key p acc), upsert-rows p acc, rows-cons p ps)

-- what is to be put next fits in the room that is lent
pub lent_room : {whole room left : List ℕ} {s : State ℕ} (f : Emits whole room left s) (part left' : List ℕ) → left ≡ part ++ left'
    → length part ≤ length (rest s)
lent_room {s = s} f part left' e =
    omega (arith, has_room f, ap length e, length-append part left', ap length (part_to_end s.out s.at), length-drop s.at s.out)
