-- A fair name, character by character. Assumes nothing.
use mathlib.Core.Path.{◌≡◌, refl, sym, ◌∙◌, ap, subst}
use mathlib.Core.Bool.{Bool, true, false, ◌&&◌, not}
use mathlib.Core.List.{List, [], ◌∷◌}
use mathlib.Core.Option
use mathlib.Core.Option.{Option, none, some}
use Prim.Native.Nat.{ℕ, zero, suc, ◌+◌, ◌<◌}
use native.Mathlib.Omega.{arith}
use native.Mathlib.Numerals.{add-one}
use lib.ListN.{length, drop, get_or}
use lib.Seq.{drop-drop}
use lib.Dec.{eqb}
use borrow.Author.Tests.{eq-eqb, ne_eqb}
use Rattle.format.specs.Basics.{and_then, is_some, every, is_empty, begins_with, ascii}
use Rattle.format.specs.Utf8.{char_at, scalars_from, is_utf8, is_white_space}
use Rattle.format.specs.Fair.{no_white_space, is_fair_name}

scalars_skip : (k : ℕ) (bs : List ℕ) → scalars_from k bs ≡ scalars_from 0 (drop k bs)
unfolding scalars_from
scalars_skip zero bs = refl
scalars_skip (suc k) [] = refl
scalars_skip (suc k) (b ∷ bs) = scalars_skip k bs

step-scalars : (b : ℕ) (bs : List ℕ) (c k : ℕ) → char_at (b ∷ bs) ≡ some (c, k)
    → scalars_from 0 (b ∷ bs) ≡ (and_then (scalars_from 0 (drop k bs)) λ cs. some (c ∷ cs))
unfolding scalars_from
step-scalars b bs c k e = rw e (ap (λ o. and_then o λ cs. some (c ∷ cs)) (scalars_skip k bs))

abbrev clean : Option (List ℕ) → Bool
clean o = every (λ c. not (is_white_space c)) (Option.get_or o [])

by_scalars : (o : Option (List ℕ)) (c : ℕ) → is_some (and_then o λ cs. some (c ∷ cs)) ≡ true
    → (is_some o ≡ true) × (clean (and_then o λ cs. some (c ∷ cs)) ≡ (not (is_white_space c) && clean o))
unfolding is_some every
by_scalars none c u = let z : ◌≡◌ {A = ℕ} 0 1 = cc in absurd (omega arith)
by_scalars (some cs) c u = (refl, refl)

-- a text by its first character: the rest is a text
pub record Split (t : List ℕ) (c : ℕ) (rest : List ℕ) : Type 0 where
  pub utf8 : is_utf8 rest ≡ true
  pub white : no_white_space t ≡ (not (is_white_space c) && no_white_space rest)

split_first : (t : List ℕ) (c k : ℕ) → char_at t ≡ some (c, k) → is_utf8 t ≡ true → Split t c (drop (k + 1) t)
unfolding char_at is_utf8 no_white_space
split_first [] c k e u = let z : ◌≡◌ {A = ℕ} 0 1 = cc in absurd (omega arith)
split_first (b ∷ bs) c k e u =
    let q = step-scalars b bs c k e in
    let r = by_scalars (scalars_from 0 (drop k bs)) c (ap is_some (sym q) ∙ u) in
    subst (λ n. Split (b ∷ bs) c (drop n (b ∷ bs))) (sym (add-one k)) (record { utf8 = r.0; white = ap clean q ∙ r.1 })

pub split : (s : List ℕ) (p c k : ℕ) → char_at (drop p s) ≡ some (c, k) → is_utf8 (drop p s) ≡ true → Split (drop p s) c (drop (p + (k + 1)) s)
split s p c k e u = subst (λ t. Split (drop p s) c t) (drop-drop (k + 1) p s) (split_first (drop p s) c k e u)

-- a text without a first character is empty
pub no_more : (t : List ℕ) → char_at t ≡ none → is_utf8 t ≡ true → true ≡ no_white_space t
unfolding is_utf8 no_white_space scalars_from is_some every
no_more [] e u = refl
no_more (b ∷ bs) e u =
    let q : is_some (scalars_from 0 (b ∷ bs)) ≡ false = rw e refl in
    let z : ◌≡◌ {A = ℕ} 0 1 = cc in absurd (omega arith)

pub white_stops : (t : List ℕ) (c : ℕ) (rest : List ℕ) → Split t c rest → is_white_space c ≡ true → false ≡ no_white_space t
white_stops t c rest x w = sym (x.white ∙ ap (λ v. not v && no_white_space rest) w)

pub white_on : (t : List ℕ) (c : ℕ) (rest : List ℕ) → Split t c rest → is_white_space c ≡ false → no_white_space rest ≡ no_white_space t
white_on t c rest x w = sym (x.white ∙ ap (λ v. not v && no_white_space rest) w)

-- A NAME'S FIRST CHARACTER

by_dot : (a b d e : Bool) → false ≡ (a && b && false && d && e)
by_dot true true d e = refl
by_dot true false d e = refl
by_dot false b d e = refl

by_hash : (a b c e : Bool) → false ≡ (a && b && c && false && e)
by_hash true true true e = refl
by_hash true true false e = refl
by_hash true false c e = refl
by_hash false b c e = refl

by_equals : (a b c d : Bool) → false ≡ (a && b && c && d && false)
by_equals true true true true = refl
by_equals true true true false = refl
by_equals true true false d = refl
by_equals true false c d = refl
by_equals false b c d = refl

by_white : (b : Bool) → b ≡ (true && b && true && true && true)
by_white true = refl
by_white false = refl

pub name-empty : (t : List ℕ) → length t ≡ 0 → false ≡ is_fair_name t
unfolding is_fair_name is_empty
name-empty [] e = refl
name-empty (b ∷ bs) e = absurd (omega arith)

begins : (x b : ℕ) (bs : List ℕ) → begins_with (x ∷ []) (b ∷ bs) ≡ eqb x b
unfolding begins_with
begins x b bs = go (eqb x b)
  where
    go : (t : Bool) → (t && true) ≡ t
    go true = refl
    go false = refl

pub name_dot : (t : List ℕ) → 0 < length t → get_or t 0 0 ≡ 0x2E → false ≡ is_fair_name t
unfolding is_fair_name is_empty ascii
name_dot [] h e = absurd (omega arith)
name_dot (b ∷ bs) h e = rw (begins 0x2E b bs, eq-eqb 0x2E b (sym e))
    (by_dot true (no_white_space (b ∷ bs)) (not (begins_with (ascii "#") (b ∷ bs))) (not (begins_with (ascii "=") (b ∷ bs))))

pub name_hash : (t : List ℕ) → 0 < length t → get_or t 0 0 ≡ 0x23 → false ≡ is_fair_name t
unfolding is_fair_name is_empty ascii
name_hash [] h e = absurd (omega arith)
name_hash (b ∷ bs) h e = rw (begins 0x23 b bs, eq-eqb 0x23 b (sym e))
    (by_hash true (no_white_space (b ∷ bs)) (not (begins_with (ascii ".") (b ∷ bs))) (not (begins_with (ascii "=") (b ∷ bs))))

pub name_equals : (t : List ℕ) → 0 < length t → get_or t 0 0 ≡ 0x3D → false ≡ is_fair_name t
unfolding is_fair_name is_empty ascii
name_equals [] h e = absurd (omega arith)
name_equals (b ∷ bs) h e = rw (begins 0x3D b bs, eq-eqb 0x3D b (sym e))
    (by_equals true (no_white_space (b ∷ bs)) (not (begins_with (ascii ".") (b ∷ bs))) (not (begins_with (ascii "#") (b ∷ bs))))

pub name-rest : (t : List ℕ) → 0 < length t → (get_or t 0 0 ≡ 0x2E → ⊥) → (get_or t 0 0 ≡ 0x23 → ⊥) → (get_or t 0 0 ≡ 0x3D → ⊥)
    → no_white_space t ≡ is_fair_name t
unfolding is_fair_name is_empty ascii
name-rest [] h d x e = absurd (omega arith)
name-rest (b ∷ bs) h d x e =
    rw (
      begins 0x2E b bs,
      ne_eqb 0x2E b (λ z. d (sym z)),
      begins 0x23 b bs,
      ne_eqb 0x23 b (λ z. x (sym z)),
      begins 0x3D b bs,
      ne_eqb 0x3D b (λ z. e (sym z)),
    )
    (by_white (no_white_space (b ∷ bs)))
