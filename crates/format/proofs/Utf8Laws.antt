-- UTF-8 there and back: the bytes of scalar values are a text of these scalar values, and every text is the bytes of its own.
-- Assumes nothing.
use mathlib.Core.Path.{◌≡◌, refl, sym, ◌∙◌, ap, subst}
use mathlib.Core.Bool.{Bool, true, false, ◌&&◌, ◌||◌}
use mathlib.Core.List.{List, [], ◌∷◌, ◌++◌, append_assoc, flat_map}
use mathlib.Core.Option.{Option, none, some}
use Prim.Native.Nat.{ℕ, zero, suc, ◌+◌, ◌-◌, ◌*◌, ◌/◌, ◌%◌, ◌^◌, ◌≤◌, ◌<◌}
use native.Mathlib.Omega.{arith}
use lib.ListN.{length, drop}
use lib.Dec.{ltb, leb}
use borrow.Author.Tests.{ltb-true, ltb-false, leb-true, lt-ltb, le-ltb, le-leb, lt-leb}
use Rattle.std.specs.Prelude.{if◌then◌else◌}
use Rattle.format.specs.Basics.{and_then, is_some, All}
use Rattle.format.specs.Utf8.{is_between, is_scalar, encode_scalar, follow, shortest_form, char_at, scalars_from, scalars, is_utf8}
use Rattle.format.proofs.ListFacts.{and_left, and_right}
use Rattle.format.proofs.Outcomes.{by_if}
use Rattle.format.proofs.ListLaws.{all_append, flat_map-append}

abbrev pub Scalar : ℕ → Type 0
Scalar c = is_scalar c ≡ true

pub scalar_bound : (c : ℕ) → Scalar c → c < 0x110000
unfolding is_scalar
scalar_bound c h = go (ltb c 0xD800) refl h
  where
    go : (t : Bool) → ltb c 0xD800 ≡ t → t || is_between 0xE000 0x10FFFF c ≡ true → c < 0x110000
    go true e h = let l = ltb-true c 0xD800 e in omega arith
    go false e h = let l = leb-true c 0x10FFFF (and_right (leb 0xE000 c) (leb c 0x10FFFF) h) in omega arith

-- by how many bytes a scalar value has
pub by_size :
    (P : List ℕ → Type 0) (c : ℕ) → (c < 0x80 → P (c ∷ [])) → (0x80 ≤ c → c < 0x800 → P ((0xC0 + c / 2 ^ 6) ∷ (0x80 + c % 2 ^ 6) ∷ []))
    → (0x800 ≤ c → c < 0x10000 → P ((0xE0 + c / 2 ^ 12) ∷ (0x80 + c / 2 ^ 6 % 2 ^ 6) ∷ (0x80 + c % 2 ^ 6) ∷ []))
    → (0x10000 ≤ c → P ((0xF0 + c / 2 ^ 18) ∷ (0x80 + c / 2 ^ 12 % 2 ^ 6) ∷ (0x80 + c / 2 ^ 6 % 2 ^ 6) ∷ (0x80 + c % 2 ^ 6) ∷ []))
    → P (encode_scalar c)
unfolding encode_scalar
by_size P c one two three four =
    by_if P (ltb c 0x80) _ _ (λ e. one (ltb-true c 0x80 e)) λ e.
    by_if P (ltb c 0x800) _ _ (λ f. two (ltb-false c 0x80 e) (ltb-true c 0x800 f)) λ f.
    by_if P (ltb c 0x10000) _ _ (λ g. three (ltb-false c 0x800 f) (ltb-true c 0x10000 g)) λ g. four (ltb-false c 0x10000 g)

-- an ASCII byte ends what came before it
pub follow-ascii : (n c : ℕ) (xs ys : List ℕ) (b : ℕ) → b < 0x80 → follow n c (xs ++ b ∷ ys) ≡ follow n c xs
unfolding follow
follow-ascii zero c xs ys b h = refl
follow-ascii (suc n) c [] ys b h = rw (lt-leb 0x80 b h)
follow-ascii (suc n) c (x ∷ xs) ys b h = rw (follow-ascii n (c * 2 ^ 6 + (x - 0x80)) xs ys b h)

pub char_ascii : (x : ℕ) (xs ys : List ℕ) (b : ℕ) → b < 0x80 → char_at (x ∷ xs ++ b ∷ ys) ≡ char_at (x ∷ xs)
unfolding char_at
char_ascii x xs ys b h = rw (follow-ascii 1 (x - 0xC0) xs ys b h, follow-ascii 2 (x - 0xE0) xs ys b h, follow-ascii 3 (x - 0xF0) xs ys b h)

pub char_one : (b : ℕ) (bs : List ℕ) → b < 0x80 → char_at (b ∷ bs) ≡ some (b, 0)
unfolding char_at
char_one b bs h = rw (lt-ltb b 0x80 h)

-- a byte 10xxxxxx begins nothing
pub char_middle : (b : ℕ) (bs : List ℕ) → 0x80 ≤ b → b < 0xC0 → char_at (b ∷ bs) ≡ none
unfolding char_at
char_middle b bs h l = rw (le-ltb b 0x80 h, lt-leb 0xC0 b l, lt-leb 0xE0 b (omega arith), lt-leb 0xF0 b (omega arith))

-- there: the character that a scalar value's bytes begin with
module _ (c : ℕ) (rest : List ℕ) (s : Scalar c) where
  pub char_2 : 0x80 ≤ c → c < 0x800 → char_at ((0xC0 + c / 2 ^ 6) ∷ (0x80 + c % 2 ^ 6) ∷ rest) ≡ some (c, 1)
  unfolding char_at follow
  char_2 h l =
      let e : (0xC0 + c / 64 - 0xC0) * 64 + (0x80 + c % 64 - 0x80) ≡ c = omega arith in
      rw
      (le-ltb (0xC0 + c / 64) 0x80 (omega arith), le-leb 0xC0 (0xC0 + c / 64) (omega arith), le-leb (0xC0 + c / 64) 0xDF (omega arith), le-leb 0x80 (0x80 + c % 64) (omega arith), le-leb (0x80 + c % 64) 0xBF (omega arith), e, le-leb 0x80 c h, s)

  pub char_3 : 0x800 ≤ c → c < 0x10000 → char_at ((0xE0 + c / 2 ^ 12) ∷ (0x80 + c / 2 ^ 6 % 2 ^ 6) ∷ (0x80 + c % 2 ^ 6) ∷ rest) ≡ some (c, 2)
  unfolding char_at follow
  char_3 h l =
      let e : ((0xE0 + c / 4096 - 0xE0) * 64 + (0x80 + c / 64 % 64 - 0x80)) * 64 + (0x80 + c % 64 - 0x80) ≡ c = omega arith in
      rw
      (le-ltb (0xE0 + c / 4096) 0x80 (omega arith), lt-leb (0xE0 + c / 4096) 0xDF (omega arith), le-leb 0xC0 (0xE0 + c / 4096) (omega arith), le-leb 0xE0 (0xE0 + c / 4096) (omega arith), le-leb (0xE0 + c / 4096) 0xEF (omega arith), le-leb 0x80 (0x80 + c / 64 % 64) (omega arith), le-leb (0x80 + c / 64 % 64) 0xBF (omega arith), le-leb 0x80 (0x80 + c % 64) (omega arith), le-leb (0x80 + c % 64) 0xBF (omega arith), e, le-leb 0x800 c h, s)

  pub char_4 :
      0x10000 ≤ c
      → char_at ((0xF0 + c / 2 ^ 18) ∷ (0x80 + c / 2 ^ 12 % 2 ^ 6) ∷ (0x80 + c / 2 ^ 6 % 2 ^ 6) ∷ (0x80 + c % 2 ^ 6) ∷ rest) ≡ some (c, 3)
  unfolding char_at follow
  char_4 h =
      let l = scalar_bound c s in
      let e1 : (0xF0 + c / 262144 - 0xF0) * 64 + (0x80 + c / 4096 % 64 - 0x80) ≡ c / 4096 = omega arith in
      let e2 : c / 4096 * 64 + (0x80 + c / 64 % 64 - 0x80) ≡ c / 64 = omega arith in
      let e3 : c / 64 * 64 + (0x80 + c % 64 - 0x80) ≡ c = omega arith in
      rw
      (le-ltb (0xF0 + c / 262144) 0x80 (omega arith), lt-leb (0xF0 + c / 262144) 0xDF (omega arith), le-leb 0xC0 (0xF0 + c / 262144) (omega arith), lt-leb (0xF0 + c / 262144) 0xEF (omega arith), le-leb 0xE0 (0xF0 + c / 262144) (omega arith), le-leb 0xF0 (0xF0 + c / 262144) (omega arith), le-leb (0xF0 + c / 262144) 0xF7 (omega arith), le-leb 0x80 (0x80 + c / 4096 % 64) (omega arith), le-leb (0x80 + c / 4096 % 64) 0xBF (omega arith), le-leb 0x80 (0x80 + c / 64 % 64) (omega arith), le-leb (0x80 + c / 64 % 64) 0xBF (omega arith), le-leb 0x80 (0x80 + c % 64) (omega arith), le-leb (0x80 + c % 64) 0xBF (omega arith), e1, e2, e3, le-leb 0x10000 c h, s)

  pub scalars_char : scalars (encode_scalar c ++ rest) ≡ (and_then (scalars rest) λ ds. some (c ∷ ds))
  unfolding scalars_from
  scalars_char =
      by_size (λ e. scalars (e ++ rest) ≡ (and_then (scalars rest) λ ds. some (c ∷ ds))) c (λ h. rw (char_one c rest h)) (λ h l. rw (char_2 h l))
      (λ h l. rw (char_3 h l)) (λ h. rw (char_4 h))

pub scalars-flat_map : (cs : List ℕ) (rest : List ℕ) → All Scalar cs → scalars (flat_map encode_scalar cs ++ rest) ≡ (and_then (scalars rest) λ ds. some (cs ++ ds))
unfolding flat_map
scalars-flat_map [] rest h = same (scalars rest)
  where
    same : (o : Option (List ℕ)) → o ≡ (and_then o λ ds. some ds)
    same none = refl
    same (some a) = refl
scalars-flat_map (c ∷ cs) rest h =
    rw (append_assoc (encode_scalar c) (flat_map encode_scalar cs) rest, scalars_char c (flat_map encode_scalar cs ++ rest) h.0, scalars-flat_map cs rest h.1) (twice (scalars rest))
  where
    twice : (o : Option (List ℕ)) → (and_then (and_then o λ ds. some (cs ++ ds)) λ ds. some (c ∷ ds)) ≡ (and_then o λ ds. some (c ∷ (cs ++ ds)))
    twice none = refl
    twice (some a) = refl

pub scalars_of_lem : (cs : List ℕ) → All Scalar cs → scalars (flat_map encode_scalar cs) ≡ some cs
unfolding flat_map scalars_from
scalars_of_lem [] h = refl
scalars_of_lem (c ∷ cs) h = scalars_char c (flat_map encode_scalar cs) h.0 ∙ rw (scalars_of_lem cs h.1)

-- back: what a character was read from
full-form :
    (least n : ℕ) (o : Option ℕ) (c m : ℕ) → shortest_form least n o ≡ some (c, m) → (n ≡ m) × (o ≡ some c) × (least ≤ c) × Scalar c
full-form least n none c m h = let z : ◌≡◌ {A = ℕ} 0 1 = cc in absurd (omega arith)
full-form least n (some d) c m h = go (leb least d && is_scalar d) refl h
  where
    go : (t : Bool) → leb least d && is_scalar d ≡ t → if◌then◌else◌ {A = Option (ℕ × ℕ)} t (some (d, n)) none ≡ some (c, m) → (n ≡ m) × (some d ≡ some c) × (least ≤ c) × Scalar c
    go false e h = let z : ◌≡◌ {A = ℕ} 0 1 = cc in absurd (omega arith)
    go true e h =
        let q : ◌≡◌ {A = ℕ × ℕ} (d, n) (c, m) = cc in
        let p : d ≡ c = ap (λ (r : ℕ × ℕ). r.0) q in
        (ap (λ (r : ℕ × ℕ). r.1) q, ap (λ (x : ℕ). some x) p, subst (λ (x : ℕ). least ≤ x) p (leb-true least d (and_left (leb least d) (is_scalar d) e)), subst (λ (x : ℕ). Scalar x) p (and_right (leb least d) (is_scalar d) e))

abbrev Follows : ℕ → ℕ → List ℕ → ℕ → Type 0
Follows n c xs v = (y : ℕ) × (ys : List ℕ) × (xs ≡ y ∷ ys) × (0x80 ≤ y) × (y ≤ 0xBF) × (follow n (c * 64 + (y - 0x80)) ys ≡ some v)

follow-suc : (n c : ℕ) (xs : List ℕ) (v : ℕ) → follow (suc n) c xs ≡ some v → Follows n c xs v
unfolding follow
follow-suc n c [] v h = let z : ◌≡◌ {A = ℕ} 0 1 = cc in absurd (omega arith)
follow-suc n c (y ∷ ys) v h = go (leb 0x80 y && leb y 0xBF) refl h
  where
    go : (t : Bool) → leb 0x80 y && leb y 0xBF ≡ t → (if t then follow n (c * 64 + (y - 0x80)) ys else none) ≡ some v → Follows n c (y ∷ ys) v
    go false e h = let z : ◌≡◌ {A = ℕ} 0 1 = cc in absurd (omega arith)
    go true e h = (y, ys, refl, leb-true 0x80 y (and_left (leb 0x80 y) (leb y 0xBF) e), leb-true y 0xBF (and_right (leb 0x80 y) (leb y 0xBF) e), h)

follow-zero : (c : ℕ) (xs : List ℕ) (v : ℕ) → follow 0 c xs ≡ some v → c ≡ v
unfolding follow
follow-zero c xs v h = cc

-- the first byte and n that follow are the character's
abbrev pub Reads : ℕ → List ℕ → ℕ → ℕ → Type 0
Reads b bs c n = (encode_scalar c ++ drop n bs ≡ b ∷ bs) × (n ≤ length bs) × Scalar c

reads_2 : (b : ℕ) (bs : List ℕ) (c : ℕ) → 0xC0 ≤ b → b ≤ 0xDF → follow 1 (b - 0xC0) bs ≡ some c → 0x80 ≤ c → Scalar c → Reads b bs c 1
unfolding encode_scalar
reads_2 b bs c h l f k s =
    let w = follow-suc 0 (b - 0xC0) bs c f in
    let y : ℕ = w.0 in
    let ys : List ℕ = w.1 in
    let e : (b - 0xC0) * 64 + (y - 0x80) ≡ c = follow-zero ((b - 0xC0) * 64 + (y - 0x80)) ys c w.5 in
    let p : 0x80 ≤ y = w.3 in
    let q : y ≤ 0xBF = w.4 in
    let x1 : 0xC0 + c / 64 ≡ b = omega arith in
    let x2 : 0x80 + c % 64 ≡ y = omega arith in
    let g : Reads b (y ∷ ys) c 1 = (rw (le-ltb c 0x80 k, lt-ltb c 0x800 (omega arith), x1, x2), omega arith, s) in
    subst (λ (r : List ℕ). Reads b r c 1) (sym w.2) g

reads_3 : (b : ℕ) (bs : List ℕ) (c : ℕ) → 0xE0 ≤ b → b ≤ 0xEF → follow 2 (b - 0xE0) bs ≡ some c → 0x800 ≤ c → Scalar c → Reads b bs c 2
unfolding encode_scalar
reads_3 b bs c h l f k s =
    let w = follow-suc 1 (b - 0xE0) bs c f in
    let y : ℕ = w.0 in
    let ys : List ℕ = w.1 in
    let w' = follow-suc 0 ((b - 0xE0) * 64 + (y - 0x80)) ys c w.5 in
    let z : ℕ = w'.0 in
    let zs : List ℕ = w'.1 in
    let e : ((b - 0xE0) * 64 + (y - 0x80)) * 64 + (z - 0x80) ≡ c = follow-zero (((b - 0xE0) * 64 + (y - 0x80)) * 64 + (z - 0x80)) zs c w'.5 in
    let p : 0x80 ≤ y = w.3 in
    let q : y ≤ 0xBF = w.4 in
    let p' : 0x80 ≤ z = w'.3 in
    let q' : z ≤ 0xBF = w'.4 in
    let x1 : 0xE0 + c / 4096 ≡ b = omega arith in
    let x2 : 0x80 + c / 64 % 64 ≡ y = omega arith in
    let x3 : 0x80 + c % 64 ≡ z = omega arith in
    let g : Reads b (y ∷ z ∷ zs) c 2 = (rw (le-ltb c 0x80 (omega arith), le-ltb c 0x800 k, lt-ltb c 0x10000 (omega arith), x1, x2, x3), omega arith, s) in
    subst (λ (r : List ℕ). Reads b r c 2) (sym (w.2 ∙ ap (λ (r : List ℕ). y ∷ r) w'.2)) g

reads_4 : (b : ℕ) (bs : List ℕ) (c : ℕ) → 0xF0 ≤ b → b ≤ 0xF7 → follow 3 (b - 0xF0) bs ≡ some c → 0x10000 ≤ c → Scalar c → Reads b bs c 3
unfolding encode_scalar
reads_4 b bs c h l f k s =
    let w = follow-suc 2 (b - 0xF0) bs c f in
    let y : ℕ = w.0 in
    let ys : List ℕ = w.1 in
    let w' = follow-suc 1 ((b - 0xF0) * 64 + (y - 0x80)) ys c w.5 in
    let z : ℕ = w'.0 in
    let zs : List ℕ = w'.1 in
    let w'' = follow-suc 0 (((b - 0xF0) * 64 + (y - 0x80)) * 64 + (z - 0x80)) zs c w'.5 in
    let u : ℕ = w''.0 in
    let us : List ℕ = w''.1 in
    let e : (((b - 0xF0) * 64 + (y - 0x80)) * 64 + (z - 0x80)) * 64 + (u - 0x80) ≡ c =
    follow-zero ((((b - 0xF0) * 64 + (y - 0x80)) * 64 + (z - 0x80)) * 64 + (u - 0x80)) us c w''.5 in
    let p : 0x80 ≤ y = w.3 in
    let q : y ≤ 0xBF = w.4 in
    let p' : 0x80 ≤ z = w'.3 in
    let q' : z ≤ 0xBF = w'.4 in
    let p'' : 0x80 ≤ u = w''.3 in
    let q'' : u ≤ 0xBF = w''.4 in
    let x1 : 0xF0 + c / 262144 ≡ b = omega arith in
    let x2 : 0x80 + c / 4096 % 64 ≡ y = omega arith in
    let x3 : 0x80 + c / 64 % 64 ≡ z = omega arith in
    let x4 : 0x80 + c % 64 ≡ u = omega arith in
    let g : Reads b (y ∷ z ∷ u ∷ us) c 3 = (rw (le-ltb c 0x80 (omega arith), le-ltb c 0x800 (omega arith), le-ltb c 0x10000 k, x1, x2, x3, x4), omega arith, s) in
    subst (λ (r : List ℕ). Reads b r c 3) (sym (w.2 ∙ ap (λ (r : List ℕ). y ∷ r) (w'.2 ∙ ap (λ (r : List ℕ). z ∷ r) w''.2))) g

pub char_reads : (b : ℕ) (bs : List ℕ) (c n : ℕ) → char_at (b ∷ bs) ≡ some (c, n) → Reads b bs c n
unfolding char_at encode_scalar is_scalar
char_reads b bs c n h = go (ltb b 0x80) refl (leb 0xC0 b && leb b 0xDF) refl (leb 0xE0 b && leb b 0xEF) refl (leb 0xF0 b && leb b 0xF7) refl h
  where
    go : (t : Bool) → ltb b 0x80 ≡ t → (u : Bool) → leb 0xC0 b && leb b 0xDF ≡ u → (v : Bool) → leb 0xE0 b && leb b 0xEF ≡ v → (w : Bool) → leb 0xF0 b && leb b 0xF7 ≡ w
        → if◌then◌else◌ {A = Option (ℕ × ℕ)} t (some (b, 0))
        (if u then shortest_form 0x80 1 (follow 1 (b - 0xC0) bs)
        else if v then shortest_form 0x800 2 (follow 2 (b - 0xE0) bs)
        else if w then shortest_form 0x10000 3 (follow 3 (b - 0xF0) bs)
        else none) ≡ some (c, n) → Reads b bs c n
    go true e u f v g w i h =
        let q : ◌≡◌ {A = ℕ × ℕ} (b, 0) (c, n) = cc in
        let p : b ≡ c = ap (λ (r : ℕ × ℕ). r.0) q in
        let o : 0 ≡ n = ap (λ (r : ℕ × ℕ). r.1) q in
        let l = ltb-true b 0x80 e in
        let k : Reads b bs b 0 = (rw (lt-ltb b 0x80 l), omega arith, rw (lt-ltb b 0xD800 (omega arith))) in
        subst (λ (m : ℕ). Reads b bs c m) o (subst (λ (x : ℕ). Reads b bs x 0) p k)
    go false e true f v g w i h =
        let k = full-form 0x80 1 (follow 1 (b - 0xC0) bs) c n h in
        subst (λ (m : ℕ). Reads b bs c m) k.0 (reads_2 b bs c (leb-true 0xC0 b (and_left (leb 0xC0 b) (leb b 0xDF) f)) (leb-true b 0xDF (and_right (leb 0xC0 b) (leb b 0xDF) f)) k.1 k.2 k.3)
    go false e false f true g w i h =
        let k = full-form 0x800 2 (follow 2 (b - 0xE0) bs) c n h in
        subst (λ (m : ℕ). Reads b bs c m) k.0 (reads_3 b bs c (leb-true 0xE0 b (and_left (leb 0xE0 b) (leb b 0xEF) g)) (leb-true b 0xEF (and_right (leb 0xE0 b) (leb b 0xEF) g)) k.1 k.2 k.3)
    go false e false f false g true i h =
        let k = full-form 0x10000 3 (follow 3 (b - 0xF0) bs) c n h in
        subst (λ (m : ℕ). Reads b bs c m) k.0 (reads_4 b bs c (leb-true 0xF0 b (and_left (leb 0xF0 b) (leb b 0xF7) i)) (leb-true b 0xF7 (and_right (leb 0xF0 b) (leb b 0xF7) i)) k.1 k.2 k.3)
    go false e false f false g false i h = let z : ◌≡◌ {A = ℕ} 0 1 = cc in absurd (omega arith)

-- every text is the bytes of its scalar values
scalars-back :
    (k : ℕ) (bs cs : List ℕ) → k ≤ length bs → scalars_from k bs ≡ some cs → (flat_map encode_scalar cs ≡ drop k bs) × All Scalar cs
unfolding scalars_from flat_map
scalars-back zero [] cs l h = let e : [] ≡ cs = cc in subst (λ (r : List ℕ). (flat_map encode_scalar r ≡ []) × All Scalar r) e (refl, tt)
scalars-back (suc k) [] cs l h = absurd (omega arith)
scalars-back (suc k) (b ∷ bs) cs l h = scalars-back k bs cs (omega arith) h
scalars-back zero (b ∷ bs) cs l h = go (char_at (b ∷ bs)) refl h (λ k ds. scalars-back k bs ds)
  where
    more : (c n : ℕ) → char_at (b ∷ bs) ≡ some (c, n) → (o : Option (List ℕ)) → scalars_from n bs ≡ o → (and_then o λ ts. some (c ∷ ts)) ≡ some cs
        → ((ds : List ℕ) → n ≤ length bs → scalars_from n bs ≡ some ds → (flat_map encode_scalar ds ≡ drop n bs) × All Scalar ds)
        → (flat_map encode_scalar cs ≡ b ∷ bs) × All Scalar cs
    more c n e none f h ih = let z : ◌≡◌ {A = ℕ} 0 1 = cc in absurd (omega arith)
    more c n e (some ds) f h ih =
        let r = char_reads b bs c n e in
        let i = ih ds r.1 f in
        let q : c ∷ ds ≡ cs = cc in
        subst (λ (x : List ℕ). (flat_map encode_scalar x ≡ b ∷ bs) × All Scalar x) q (ap (λ (x : List ℕ). encode_scalar c ++ x) i.0 ∙ r.0, (r.2, i.1))

    go : (o : Option (ℕ × ℕ)) → char_at (b ∷ bs) ≡ o → (and_then o λ t. and_then (scalars_from t.1 bs) λ ts. some (t.0 ∷ ts)) ≡ some cs
        → ((k : ℕ) (ds : List ℕ) → k ≤ length bs → scalars_from k bs ≡ some ds → (flat_map encode_scalar ds ≡ drop k bs) × All Scalar ds)
        → (flat_map encode_scalar cs ≡ b ∷ bs) × All Scalar cs
    go none e h ih = let z : ◌≡◌ {A = ℕ} 0 1 = cc in absurd (omega arith)
    go (some p) e h ih = more p.0 p.1 e (scalars_from p.1 bs) refl h (ih p.1)

-- a text: the bytes of scalar values
abbrev pub Text : List ℕ → Type 0
Text t = (cs : List ℕ) × All Scalar cs × (flat_map encode_scalar cs ≡ t)

pub text_of : (t : List ℕ) → is_utf8 t ≡ true → Text t
unfolding is_utf8 is_some
text_of t h = go (scalars_from 0 t) refl h
  where
    go : (o : Option (List ℕ)) → scalars_from 0 t ≡ o → is_some o ≡ true → Text t
    go none e h = let z : ◌≡◌ {A = ℕ} 0 1 = cc in absurd (omega arith)
    go (some cs) e h = let r = scalars-back 0 t cs (omega arith) e in (cs, r.1, r.0)

pub text_utf8 : (t : List ℕ) → Text t → is_utf8 t ≡ true
unfolding is_utf8 is_some
text_utf8 t x = rw (← x.2, scalars_of_lem x.0 x.1)

pub text-append : (s t : List ℕ) → Text s → Text t → Text (s ++ t)
text-append s t x y =
    (x.0 ++ y.0, all_append Scalar x.0 y.0 x.1 y.1, flat_map-append encode_scalar x.0 y.0 ∙ rw (x.2, y.2))

pub text-ascii : (t : List ℕ) → All (λ b. b < 0x80) t → Text t
unfolding flat_map encode_scalar is_scalar
text-ascii [] h = ([], tt, refl)
text-ascii (b ∷ bs) h =
    let r = text-ascii bs h.1 in
    (b ∷ r.0, (rw (lt-ltb b 0xD800 (omega (arith, h.0))), r.1), rw (lt-ltb b 0x80 h.0, r.2))
