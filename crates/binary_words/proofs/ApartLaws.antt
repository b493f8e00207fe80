-- Line blocks apart, place by place and window by window. Assumes nothing.
use mathlib.Core.Path.{◌≡◌, refl, sym, ap, ◌∙◌}
use mathlib.Core.Bool.{Bool, true, false, ◌&&◌}
use mathlib.Core.List.{List, [], ◌∷◌, ◌++◌, map, append-nil}
use mathlib.Core.Option.{Option, none, some}
use Prim.Native.Nat.{ℕ, suc, ◌+◌, ◌-◌, ◌*◌, ◌/◌, ◌≤◌, ◌<◌}
use native.Mathlib.Omega.{arith}
use lib.ListN.{length, take, drop, get_or, drop_of_length-le}
use lib.Seq.{drop-cons, get_or-take, length-take-le}
use lib.Dec.{leb}
use borrow.Author.Tests.{le-leb, lt-leb, leb-true, leb-false}
use Rattle.format.specs.Basics.{chain}
use Rattle.format.specs.ObjectFile.{line_end, apart}
use Rattle.format.specs.Binary.{bytes_at, number_at}
use Rattle.format.proofs.ListLaws.{by_test}
use Rattle.binary_words.specs.RecordAt.{line_block_at, in_order, object_at, body_length}
use Rattle.binary_words.specs.Apart.{follows_at, apart_from}
use Rattle.format.proofs.Counts.{addresses-length}

-- where a line block ends
pub line-end : (s : List ℕ) (q : ℕ) → line_end (line_block_at s q) ≡ number_at (q + 1) 8 s + body_length 2 s q / 2
unfolding body_length
line-end s q = ap (λ (n : ℕ). number_at (q + 1) 8 s + n) (addresses-length (bytes_at (q + 11) (2 * number_at (q + 9) 2 s) s))

module _ (s : List ℕ) (q p n a b : ℕ) (en : n ≡ body_length 2 s q) (ea : a ≡ number_at (q + 1) 8 s) (eb : b ≡ number_at (p + 1) 8 s) where
  pub ends_late : b < a → false ≡ leb (line_end (line_block_at s q)) (line_block_at s p).first
  ends_late h = sym (lt-leb (line_end (line_block_at s q)) (number_at (p + 1) 8 s) (omega (arith, line-end s q)))

  pub ends_by : a ≤ b → leb (n / 2) (b - a) ≡ leb (line_end (line_block_at s q)) (line_block_at s p).first
  ends_by h =
      by_test (leb (n / 2) (b - a))
      (λ u. let l = leb-true (n / 2) (b - a) u in u ∙ sym (le-leb (line_end (line_block_at s q)) (number_at (p + 1) 8 s) (omega (arith, line-end s q))))
      (λ u. let l = leb-false (n / 2) (b - a) u in u ∙ sym (lt-leb (line_end (line_block_at s q)) (number_at (p + 1) 8 s) (omega (arith, line-end s q))))

module _ (s : List ℕ) where
  after_one : (q : ℕ) (ps : List ℕ) → apart_from s (some q) ps ≡ apart (map (line_block_at s) (q ∷ ps))
  unfolding apart_from apart chain
  after_one q [] = refl
  after_one q (p ∷ ps) = ap (λ (t : Bool). leb (line_end (line_block_at s q)) (line_block_at s p).first && t) (after_one p ps)

  pub apart-all : (ps : List ℕ) → apart_from s none ps ≡ apart (map (line_block_at s) ps)
  unfolding apart_from apart chain
  apart-all [] = refl
  apart-all (p ∷ ps) = after_one p ps

  pub apart-object : apart_from s none (in_order 2 s) ≡ apart (object_at s).line_blocks
  unfolding object_at
  apart-object = apart-all (in_order 2 s)

  -- place by place
  module _ (q : Option ℕ) (ps : List ℕ) (i : ℕ) (h : i < length ps) where
    ahead : drop i ps ≡ get_or ps i 0 ∷ drop (i + 1) ps
    ahead = let e : suc i ≡ i + 1 = omega arith in drop-cons ps i 0 h ∙ ap (λ (j : ℕ). get_or ps i 0 ∷ drop j ps) e

    pub apart_no : follows_at s q (get_or ps i 0) ≡ false → apart_from s q (drop i ps) ≡ false
    unfolding apart_from
    apart_no e = ap (apart_from s q) ahead ∙ rw e refl

    pub apart-yes : follows_at s q (get_or ps i 0) ≡ true → apart_from s q (drop i ps) ≡ apart_from s (some (get_or ps i 0)) (drop (i + 1) ps)
    unfolding apart_from
    apart-yes e = ap (apart_from s q) ahead ∙ rw e refl

  pub apart-end : (q : Option ℕ) (ps : List ℕ) (i : ℕ) → length ps ≤ i → apart_from s q (drop i ps) ≡ true
  unfolding apart_from
  apart-end q ps i h = ap (apart_from s q) (drop_of_length-le ps {i = i} h)

  -- window by window
  apart-append : (q : Option ℕ) (x : ℕ) (xs ys : List ℕ) → apart_from s q (x ∷ xs ++ ys) ≡ (apart_from s q (x ∷ xs) && apart_from s (some (get_or (x ∷ xs) (length xs) 0)) ys)
  unfolding apart_from
  apart-append q x [] ys = by_test (follows_at s q x) (λ u. rw u refl) (λ u. rw u refl)
  apart-append q x (y ∷ xs) ys = by_test (follows_at s q x) (λ u. rw u (apart-append (some x) y xs ys)) (λ u. rw u refl)

  joined-apart : (q : Option ℕ) (xs ys : List ℕ) → 0 < length xs → apart_from s q (xs ++ ys) ≡ (apart_from s q xs && apart_from s (some (get_or xs (length xs - 1) 0)) ys)
  joined-apart q [] ys h = absurd (let z : ⊥ = omega arith in z)
  joined-apart q (x ∷ xs) ys h = let e : suc (length xs) - 1 ≡ length xs = omega arith in rw e (apart-append q x xs ys)

  module _ (q : Option ℕ) (now ps rest : List ℕ) (n : ℕ) (l : n ≤ length now) (j : take n now ++ rest ≡ ps) where
    whole : 0 < n → apart_from s q ps ≡ (apart_from s q (take n now) && apart_from s (some (get_or now (n - 1) 0)) rest)
    whole h =
        let e = length-take-le n now l in
        let g : get_or (take n now) (length (take n now) - 1) 0 ≡ get_or now (n - 1) 0 = rw e (get_or-take n now (n - 1) 0 (omega arith)) in
        ap (apart_from s q) (sym j) ∙ joined-apart q (take n now) rest (omega arith)
        ∙ ap (λ (p : ℕ). apart_from s q (take n now) && apart_from s (some p) rest) g

    pub window_no : apart_from s q (take n now) ≡ false → apart_from s q ps ≡ false
    unfolding apart_from
    window_no e =
        by_test (leb n 0)
        (λ u. let z : n ≡ 0 = omega (arith, leb-true n 0 u) in let f : ◌≡◌ {A = Bool} true false = rw z at e in let w : ◌≡◌ {A = ℕ} 0 1 = cc in absurd (let v : ⊥ = omega arith in v))
        (λ u. whole (leb-false n 0 u) ∙ rw e refl)

    pub window-yes : 0 < n → apart_from s q (take n now) ≡ true → apart_from s q ps ≡ apart_from s (some (get_or now (n - 1) 0)) rest
    window-yes h e = whole h ∙ rw e refl

    pub window-last : rest ≡ [] → apart_from s q (take n now) ≡ true → apart_from s q ps ≡ true
    window-last z e = ap (apart_from s q) (sym (sym (append-nil (take n now)) ∙ ap (λ (r : List ℕ). take n now ++ r) (sym z) ∙ j)) ∙ e
