-- Trimming at places: over White_Space characters from the start, and back over them from the end. Assumes nothing.
use mathlib.Core.Path.{◌≡◌, refl, sym, ap, ◌∙◌}
use mathlib.Core.Bool.{Bool, true, false, true≢false, ◌&&◌}
use mathlib.Core.Logic.{◌⊎◌, inl, inr}
use mathlib.Core.List.{List, [], ◌∷◌}
use mathlib.Core.Option.{Option, none, some}
use Prim.Native.Nat.{ℕ, zero, suc, ◌+◌, ◌-◌, ◌*◌, ◌≤◌, ◌<◌}
use native.Mathlib.Omega.{arith}
use native.Mathlib.Numerals.{add-one}
use lib.ListN.{length, take, drop, get_or, length-drop}
use lib.Seq.{drop-drop, get_or-drop, drop-length, drop-nil}
use lib.Dec.{leb, ltb, eqb}
use borrow.Author.Tests.{le-leb, eq-eqb, ltb-true, ltb-false, leb-true, leb-false, eqb-true, eqb-false, lt-ltb, ne_eqb}
use Rattle.std.specs.Prelude.{if◌then◌else◌}
use Rattle.format.specs.Basics.{is_empty}
use Rattle.format.specs.Utf8.{is_between, is_scalar, follow, shortest_form, char_at, is_white_space, white_space_length, pass_over, trim_from}
use Rattle.format.specs.Utf8.{trim_start, is_blank, trim_end}
use Rattle.format.proofs.ListLaws.{by_test, both}
use Rattle.format.proofs.Utf8Laws.{char_middle}
use Rattle.utf8.proofs.CharLaws.{front}
use Rattle.trim.proofs.WhiteLaws.{Alone, above, below, white_not}
use Rattle.trim.specs.WhiteSpace.{shown_white, white_at, ends_white, white_before}

-- a character lies in the text; its later bytes are 10xxxxxx; three of them only from x10000 on
abbrev Fitting : Option (ℕ × ℕ) → List ℕ → Type 0
Fitting none bs = Unit {0}
Fitting (some c) bs =
    (c.1 < length bs) × (c.1 ≤ 3) × (2 < c.1 → 0x10000 ≤ c.0) ×
    ((j : ℕ) → j < c.1 → (0x80 ≤ get_or (drop 1 bs) j 0) × (get_or (drop 1 bs) j 0 ≤ 0xBF))

follow-fits : (n c : ℕ) (bs : List ℕ) (v : ℕ) → follow n c bs ≡ some v → (n ≤ length bs) ×
    ((j : ℕ) → j < n → (0x80 ≤ get_or bs j 0) × (get_or bs j 0 ≤ 0xBF))
unfolding follow
follow-fits zero c bs v e = (omega arith, λ j h. absurd (omega arith))
follow-fits (suc n) c [] v e = let z : ◌≡◌ {A = ℕ} 0 1 = cc in absurd (omega arith)
follow-fits (suc n) c (b ∷ bs) v e =
    by_test (leb 0x80 b)
    (λ t. by_test (leb b 0xBF)
    (λ u. let g : follow n (c * 64 + (b - 0x80)) bs ≡ some v = simp (t, u) at e in
    let r = follow-fits n (c * 64 + (b - 0x80)) bs v g in
    (omega (arith, r.0), λ j h. inner n b bs (leb-true 0x80 b t) (leb-true b 0xBF u) r.1 j h))
    (λ u. let g : none ≡ some v = simp (t, u) at e in let z : ◌≡◌ {A = ℕ} 0 1 = cc in absurd (omega arith)))
    (λ t. let g : none ≡ some v = simp t at e in let z : ◌≡◌ {A = ℕ} 0 1 = cc in absurd (omega arith))
  where
    inner : (n b : ℕ) (bs : List ℕ) → 0x80 ≤ b → b ≤ 0xBF → ((j : ℕ) → j < n → (0x80 ≤ get_or bs j 0) × (get_or bs j 0 ≤ 0xBF)) → (j : ℕ) → j <
        suc n → (0x80 ≤ get_or (b ∷ bs) j 0) × (get_or (b ∷ bs) j 0 ≤ 0xBF)
    inner n b bs l u r zero h = (l, u)
    inner n b bs l u r (suc j) h = r j (omega arith)

form-fits :
    (least n c : ℕ) (b : ℕ) (bs : List ℕ) (o : Option ℕ) → follow n c bs ≡ o → n ≤ 3 → (2 < n → 0x10000 ≤ least)
    → Fitting (shortest_form least n o) (b ∷ bs)
form-fits least n c b bs none e h k = tt
form-fits least n c b bs (some v) e h k =
    by_test (leb least v && is_scalar v)
    (λ t. let r = follow-fits n c bs v e in
    let l = leb-true least v (both (leb least v) (is_scalar v) t).0 in
    simp t (omega (arith, r.0), h, (λ g. omega (arith, k g)), r.1))
    (λ t. simp t tt)

char_fits : (bs : List ℕ) → Fitting (char_at bs) bs
unfolding char_at
char_fits [] = tt
char_fits (b ∷ bs) =
    by_test (ltb b 0x80)
    (λ t. simp t (omega arith, omega arith, (λ g. absurd (omega arith)), λ j h. absurd (omega arith)))
    (λ t. by_test (is_between 0xC0 0xDF b)
    (λ u. simp (t, u) (form-fits 0x80 1 (b - 0xC0) b bs (follow 1 (b - 0xC0) bs) refl (omega arith) (λ g. absurd (omega arith))))
    (λ u. by_test (is_between 0xE0 0xEF b)
    (λ v. simp (t, u, v) (form-fits 0x800 2 (b - 0xE0) b bs (follow 2 (b - 0xE0) bs) refl (omega arith) (λ g. absurd (omega arith))))
    (λ v. by_test (is_between 0xF0 0xF7 b)
    (λ w. simp (t, u, v, w) (form-fits 0x10000 3 (b - 0xF0) b bs (follow 3 (b - 0xF0) bs) refl (omega arith) (λ g. omega arith)))
    (λ w. simp (t, u, v, w) tt))))

-- no White_Space from x3001 on
white_high : (c : ℕ) → 0x3000 < c → is_white_space c ≡ false
white_high c h = sym (white_not c beyond (above 0x9 0xD c (omega arith)) (above 0x2000 0x200A c (omega arith)) (λ e. omega arith)
    (λ e. omega arith))
  where
    beyond : Alone c → ⊥
    beyond (inl e) = omega arith
    beyond (inr (inl e)) = omega arith
    beyond (inr (inr (inl e))) = omega arith
    beyond (inr (inr (inr (inl e)))) = omega arith
    beyond (inr (inr (inr (inr (inl e))))) = omega arith
    beyond (inr (inr (inr (inr (inr (inl e)))))) = omega arith
    beyond (inr (inr (inr (inr (inr (inr e)))))) = omega arith

-- a White_Space character lies in the text, has three bytes at most, and its later bytes begin no character
white_of : (o : Option (ℕ × ℕ)) (bs : List ℕ) → Fitting o bs → (white_space_length o ≤ length bs) × (white_space_length o ≤ 3) ×
    ((j : ℕ) → suc j < white_space_length o → (0x80 ≤ get_or (drop 1 bs) j 0) × (get_or (drop 1 bs) j 0 ≤ 0xBF))
white_of none bs f = (omega arith, omega arith, λ j h. absurd (omega arith))
white_of (some c) bs f =
    by_test (is_white_space c.0)
    (λ t. let l : c.1 ≤ 2 = by_test (leb c.1 2) (λ u. leb-true c.1 2 u)
    (λ u. absurd (true≢false (sym t ∙ white_high c.0 (omega (arith, f.2 (leb-false c.1 2 u)))))) in
    simp t (omega (arith, f.0), omega arith, λ j h. f.3 j (omega arith)))
    (λ t. simp t (omega arith, omega arith, λ j h. absurd (omega arith)))

abbrev white : List ℕ → ℕ
white bs = white_space_length (char_at bs)

module _ (bs : List ℕ) where
  pub white_none : none ≡ char_at bs → 0 ≡ white bs
  white_none e = ap white_space_length e

  pub white_yes : (v n : ℕ) → some (v, n) ≡ char_at bs → is_white_space v ≡ true → n + 1 ≡ white bs
  white_yes v n e t = let w : n + 1 ≡ white_space_length (some (v, n)) = simp t (add-one n) in w ∙ ap white_space_length e

  pub white_no : (v n : ℕ) → some (v, n) ≡ char_at bs → is_white_space v ≡ false → 0 ≡ white bs
  white_no v n e t = let w : 0 ≡ white_space_length (some (v, n)) = simp t in w ∙ ap white_space_length e

  pub white_fits : white bs ≤ length bs
  white_fits = (white_of (char_at bs) bs (char_fits bs)).0

  pub white_small : white bs ≤ 3
  white_small = (white_of (char_at bs) bs (char_fits bs)).1

-- no White_Space from `!` up to `~`
white_plain : (c : ℕ) → 0x20 < c → c < 0x7F → is_white_space c ≡ false
white_plain c h l = sym (white_not c beyond (above 0x9 0xD c (omega arith)) (below 0x2000 0x200A c (omega arith)) (λ e. omega arith)
    (λ e. omega arith))
  where
    beyond : Alone c → ⊥
    beyond (inl e) = omega arith
    beyond (inr (inl e)) = omega arith
    beyond (inr (inr (inl e))) = omega arith
    beyond (inr (inr (inr (inl e)))) = omega arith
    beyond (inr (inr (inr (inr (inl e))))) = omega arith
    beyond (inr (inr (inr (inr (inr (inl e)))))) = omega arith
    beyond (inr (inr (inr (inr (inr (inr e)))))) = omega arith

-- what a byte shows is a space, or no White_Space
abbrev Shown : ℕ → ℕ → Type 0
Shown b n = ((b ≡ 0x20) × (n ≡ 1)) ⊎ ((0x20 < b) × (b < 0x7F) × (n ≡ 0))

shown_of : (b n : ℕ) → n ≡ shown_white b → n < 4 → Shown b n
unfolding shown_white
shown_of b n e h =
    by_test (eqb b 0x20)
    (λ t. let f : n ≡ 1 = simp t at e in inl (eqb-true b 0x20 t, f))
    (λ t. by_test (ltb b 0x20)
    (λ u. let f : n ≡ 4 = simp (t, u) at e in absurd (omega arith))
    (λ u. by_test (ltb 0x7E b)
    (λ v. let f : n ≡ 4 = simp (t, u, v) at e in absurd (omega arith))
    (λ v. let f : n ≡ 0 = simp (t, u, v) at e in
    inr (omega (arith, eqb-false b 0x20 t, ltb-false b 0x20 u), omega (arith, ltb-false 0x7E b v), f))))

module _ (s : List ℕ) (at n : ℕ) (there : at < length s) where
  shown_ascii : get_or s at 0 < 0x80 → char_at (drop at s) ≡ some (get_or s at 0, 0)
  unfolding char_at
  shown_ascii h = ap char_at (front 0 s at there) ∙ simp (lt-ltb (get_or s at 0) 0x80 h)

  shown_at : Shown (get_or s at 0) n → n ≡ white_at s at
  unfolding is_white_space
  shown_at (inl (e, f)) =
      f ∙ white_yes (drop at s) (get_or s at 0) 0 (sym (shown_ascii (omega arith))) (ap is_white_space e)
  shown_at (inr (l, u, f)) =
      f ∙ white_no (drop at s) (get_or s at 0) 0 (sym (shown_ascii (omega arith))) (white_plain (get_or s at 0) l u)

  pub white_shown : n ≡ shown_white (get_or s at 0) → n < 4 → n ≡ white_at s at
  white_shown e h = shown_at (shown_of (get_or s at 0) n e h)

-- how much is left of the text at a place bounds a White_Space character there
pub white_left : (s : List ℕ) (at : ℕ) → white_at s at ≤ length s - at
white_left s at = let h = white_fits (drop at s) in rw (← length-drop at s) h

trim_from-drop : (k : ℕ) (bs : List ℕ) → trim_from k bs ≡ trim_from 0 (drop k bs)
unfolding trim_from
trim_from-drop zero [] = refl
trim_from-drop (suc k) [] = refl
trim_from-drop zero (b ∷ bs) = refl
trim_from-drop (suc k) (b ∷ bs) = trim_from-drop k bs

pass : (n : ℕ) (b : ℕ) (bs : List ℕ) → white (b ∷ bs) ≡ n → trim_from 0 (b ∷ bs) ≡ pass_over n (b ∷ bs) (λ m. trim_from m bs)
unfolding trim_from
pass n b bs e = ap (λ (m : ℕ). pass_over m (b ∷ bs) (λ (k : ℕ). trim_from k bs)) e

-- a step over White_Space; where there is none, the text stands
trim_pass : (bs : List ℕ) → trim_from 0 bs ≡ trim_from 0 (drop (white bs) bs)
trim_pass [] = ap (trim_from 0) (sym (drop-nil (white [])))
trim_pass (b ∷ bs) = go (white (b ∷ bs)) refl
  where
    go : (n : ℕ) → white (b ∷ bs) ≡ n → trim_from 0 (b ∷ bs) ≡ trim_from 0 (drop n (b ∷ bs))
    go zero e = refl
    go (suc n) e = pass (suc n) b bs e ∙ trim_from-drop n bs

pub trim_stop : (bs : List ℕ) → white bs ≡ 0 → trim_from 0 bs ≡ bs
unfolding trim_from
trim_stop [] e = refl
trim_stop (b ∷ bs) e = pass 0 b bs e

module _ (s : List ℕ) (at : ℕ) where
  pub trim-on : (n : ℕ) → n ≡ white_at s at → trim_from 0 (drop (at + n) s) ≡ trim_from 0 (drop at s)
  trim-on n e = ap (trim_from 0) (sym (drop-drop n at s)) ∙ ap (λ (k : ℕ). trim_from 0 (drop k (drop at s))) e ∙ sym (trim_pass (drop at s))

-- blank from a place on
abbrev pub blank_at : List ℕ → ℕ → Bool
blank_at s p = is_blank (drop p s)

pub blank_end : (s : List ℕ) → blank_at s (length s) ≡ true
unfolding is_blank trim_start trim_from is_empty
blank_end s = rw (drop-length s)

empty-cons : {A : Type 0} (d : A) (s : List A) (at : ℕ) → at < length s → is_empty (drop at s) ≡ false
unfolding is_empty
empty-cons d s at h = rw (front d s at h)

pub blank_no : (s : List ℕ) (at : ℕ) → at < length s → white_at s at ≡ 0 → blank_at s at ≡ false
unfolding is_blank trim_start
blank_no s at h e = ap is_empty (trim_stop (drop at s) e) ∙ empty-cons 0 s at h

pub blank_same : (s : List ℕ) (a b : ℕ) → trim_from 0 (drop a s) ≡ trim_from 0 (drop b s) → blank_at s a ≡ blank_at s b
unfolding is_blank trim_start
blank_same s a b e = ap is_empty e

-- inside a White_Space character nothing is blank
pub blank_inner : (s : List ℕ) (at p : ℕ) → at < p → p < at + white_at s at → blank_at s p ≡ false
blank_inner s at p l u =
    let w = white_of (char_at (drop at s)) (drop at s) (char_fits (drop at s)) in
    let f = white_fits (drop at s) in
    let i : p < length s = omega (arith, f, length-drop at s) in
    let b = w.2 (p - at - 1) (omega arith) in
    let e : get_or (drop 1 (drop at s)) (p - at - 1) 0 ≡ get_or s p 0 = rw (drop-drop 1 at s, get_or-drop (at + 1) s (p - at - 1) 0)
    (let k : at + 1 + (p - at - 1) ≡ p = omega arith in ap (λ (j : ℕ). get_or s j 0) k) in
    let l2 : 0x80 ≤ get_or s p 0 = rw e at b.0 in
    let u2 : get_or s p 0 ≤ 0xBF = rw e at b.1 in
    blank_no s p i (ap white_space_length (ap char_at (front 0 s p i) ∙ char_middle (get_or s p 0) (drop (p + 1) s) l2 (omega arith)))

-- a text is trimmed to e: nothing before e is blank, and e is
pub trim_to : (s : List ℕ) (e : ℕ) → e ≤ length s → ((p : ℕ) → p < e → blank_at s p ≡ false) → blank_at s e ≡ true → take e s ≡ trim_end s
unfolding trim_end
trim_to [] zero h n b = refl
trim_to [] (suc e) h n b = absurd (omega arith)
trim_to (x ∷ xs) zero h n b = rw b
trim_to (x ∷ xs) (suc e) h n b =
    rw (n 0 (omega arith)) (ap (λ (l : List ℕ). x ∷ l) (trim_to xs e (omega arith) (λ p l. n (suc p) (omega arith)) b))

-- WALKING BACK: where the text is blank from p on, and from a later place on, a White_Space character ends at the later place
abbrev EndsAt : List ℕ → ℕ → Type 0
EndsAt s end = (q : ℕ) × (q < end) × (q + white_at s q ≡ end)

last_white : (fuel : ℕ) (s : List ℕ) (p end : ℕ) → end - p ≤ fuel → p < end → end ≤ length s → blank_at s p ≡ true → blank_at s end ≡ true
    → EndsAt s end
last_white zero s p end f l i b d = absurd (omega arith)
last_white (suc fuel) s p end f l i b d =
    by_test (eqb (p + white_at s p) end)
    (λ t. (p, l, eqb-true (p + white_at s p) end t))
    (λ t. by_test (ltb (p + white_at s p) end)
    (λ u. by_test (eqb (white_at s p) 0)
    (λ v. absurd (true≢false (sym b ∙ blank_no s p (omega arith) (eqb-true (white_at s p) 0 v))))
    (λ v. last_white fuel s (p + white_at s p) end (omega (arith, eqb-false (white_at s p) 0 v)) (ltb-true (p + white_at s p) end u) i
    (blank_same s (p + white_at s p) p (trim-on s p (white_at s p) refl) ∙ b) d))
    (λ u. absurd (true≢false (sym d ∙ blank_inner s p end l
    (omega (arith, ltb-false (p + white_at s p) end u, eqb-false (p + white_at s p) end t))))))

-- the first of three lengths that passes
abbrev first_of : (ℕ → Bool) → ℕ
first_of p = if p 1 then 1 else if p 2 then 2 else if p 3 then 3 else 0

first_passes : (p : ℕ → Bool) (n : ℕ) → n ≡ first_of p → 0 < n → p n ≡ true
first_passes p n e h = go (p 1) refl (p 2) refl (p 3) refl e
  where
    go : (t : Bool) → p 1 ≡ t → (u : Bool) → p 2 ≡ u → (v : Bool) → p 3 ≡ v → n ≡ (if t then 1 else if u then 2 else if v then 3 else 0)
        → p n ≡ true
    go true a u b v d e = ap p e ∙ a
    go false a true b v d e = ap p e ∙ b
    go false a false b true d e = ap p e ∙ d
    go false a false b false d e = absurd (omega arith)

none_passes : (p : ℕ → Bool) (n : ℕ) → 0 ≡ first_of p → 0 < n → n ≤ 3 → p n ≡ false
none_passes p n e h l = go (p 1) refl (p 2) refl (p 3) refl e
  where
    go : (t : Bool) → p 1 ≡ t → (u : Bool) → p 2 ≡ u → (v : Bool) → p 3 ≡ v → ◌≡◌ {A = ℕ} 0
        (if t then 1 else if u then 2 else if v then 3 else 0) → p n ≡ false
    go true a u b v d e = absurd (omega arith)
    go false a true b v d e = absurd (omega arith)
    go false a false b true d e = absurd (omega arith)
    go false a false b false d e =
        by_test (eqb n 1) (λ t. ap p (eqb-true n 1 t) ∙ a)
        (λ t. by_test (eqb n 2) (λ u. ap p (eqb-true n 2 u) ∙ b)
        (λ u. let q : n ≡ 3 = omega (arith, eqb-false n 1 t, eqb-false n 2 u) in ap p q ∙ d))

module _ (s : List ℕ) (end : ℕ) (i : end ≤ length s) (d : blank_at s end ≡ true) where
  ends_white_lem : (q : ℕ) → q < end → q + white_at s q ≡ end → ends_white s end (white_at s q) ≡ true
  ends_white_lem q l e =
      let k : end - white_at s q ≡ q = omega arith in
      rw (le-leb (white_at s q) end (omega arith), k) (eq-eqb (white_at s q) (white_at s q) refl)

  -- no White_Space character ends there: the text is trimmed to there
  pub back_stop : 0 ≡ white_before s end → take end s ≡ trim_end s
  unfolding white_before
  back_stop z = trim_to s end i never d
    where
      never : (p : ℕ) → p < end → blank_at s p ≡ false
      never p l =
          by_test (blank_at s p)
          (λ t. let w = last_white (end - p) s p end (omega arith) l i t d in
          let q : ℕ = w.0 in
          let h : q < end = w.1 in
          let e : q + white_at s q ≡ end = w.2 in
          absurd (true≢false (sym (ends_white_lem q h e) ∙ none_passes (ends_white s end) (white_at s q) z (omega arith)
          (white_small (drop q s)))))
          (λ t. t)

  -- one of n bytes does: the text is blank from n bytes earlier on
  pub back_on : (n : ℕ) → n ≡ white_before s end → 0 < n → (n ≤ end) × (blank_at s (end - n) ≡ true)
  unfolding white_before
  back_on n e h =
      let t = both (leb n end) (eqb (white_at s (end - n)) n) (first_passes (ends_white s end) n e h) in
      let l : n ≤ end = leb-true n end t.0 in
      let k : end - n + n ≡ end = omega arith in
      let f = trim-on s (end - n) n (sym (eqb-true (white_at s (end - n)) n t.1)) in
      (l, sym (blank_same s (end - n + n) (end - n) f) ∙ ap (blank_at s) k ∙ d)

-- no White_Space character of two or three bytes ends in a byte of ASCII
ends_late : (s : List ℕ) (end n : ℕ) → 1 < n → end ≤ length s → get_or s (end - 1) 0 < 0x80 → ends_white s end n ≡ false
ends_late s end n h i a =
    by_test (ends_white s end n)
    (λ t. let b = both (leb n end) (eqb (white_at s (end - n)) n) t in
    let l : n ≤ end = leb-true n end b.0 in
    let w : white_at s (end - n) ≡ n = eqb-true (white_at s (end - n)) n b.1 in
    let f = (white_of (char_at (drop (end - n) s)) (drop (end - n) s) (char_fits (drop (end - n) s))).2 (n - 2) (omega (arith, w)) in
    let k : end - n + 1 + (n - 2) ≡ end - 1 = omega arith in
    let e : get_or (drop 1 (drop (end - n) s)) (n - 2) 0 ≡ get_or s (end - 1) 0 =
    rw (drop-drop 1 (end - n) s, get_or-drop (end - n + 1) s (n - 2) 0) (ap (λ (j : ℕ). get_or s j 0) k) in
    let g : 0x80 ≤ get_or s (end - 1) 0 = rw e at f.0 in
    absurd (omega arith))
    (λ t. t)

pub white_shown_before : (s : List ℕ) (end n : ℕ) → 0 < end → end ≤ length s → n ≡ shown_white (get_or s (end - 1) 0) → n < 4
    → n ≡ white_before s end
unfolding white_before
white_shown_before s end n p i e h = go (shown_of (get_or s (end - 1) 0) n e h)
  where
    w : n ≡ white_at s (end - 1)
    w = white_shown s (end - 1) n (omega arith) e h

    go : Shown (get_or s (end - 1) 0) n → n ≡ (if ends_white s end 1 then 1 else if ends_white s end 2 then 2 else if ends_white s end 3 then 3 else 0)
    go (inl (a, f)) = simp (le-leb 1 end p, eq-eqb (white_at s (end - 1)) 1 (sym w ∙ f)) f
    go (inr (l, u, f)) =
        simp (
          le-leb 1 end p,
          ne_eqb (white_at s (end - 1)) 1 (λ g. omega (arith, w)),
          ends_late s end 2 (omega arith) i (omega arith),
          ends_late s end 3 (omega arith) i (omega arith),
        ) f
