-- Trimming: of a text without White_Space nothing is trimmed, of one between spaces the spaces. Assumes nothing.
use mathlib.Core.Path.{◌≡◌, refl, sym, ◌∙◌, ap, subst}
use mathlib.Core.Bool.{Bool, true, false, not}
use mathlib.Core.List.{List, [], ◌∷◌, ◌++◌, append-nil, flat_map}
use mathlib.Core.Option.{Option, none, some}
use Prim.Native.Nat.{ℕ, zero, suc, ◌+◌, ◌/◌, ◌%◌, ◌≤◌, ◌<◌}
use native.Mathlib.Omega.{arith}
use lib.ListN.{length, replicate}
use borrow.Author.Tests.{ne_eqb, not-true}
use Rattle.std.specs.Prelude.{if◌then◌else◌}
use Rattle.format.specs.Basics.{is_empty, every, All}
use Rattle.format.specs.Utf8.{encode_scalar, char_at, scalars, is_white_space, white_space_length, pass_over, trim_from, trim_start, is_blank, trim_end, trim}
use Rattle.format.specs.Fair.{no_white_space}
use Rattle.format.specs.TextWriter.{spaces}
use Rattle.format.proofs.ListLaws.{all-every}
use Rattle.format.proofs.NumeralBack.{Numeric}
use Rattle.format.proofs.Utf8Laws.{Scalar, Text, by_size, char_ascii, char_one, char_middle, char_2, char_3, char_4, char_reads, scalars_of_lem}
use Rattle.format.proofs.WhiteSpaceLaws.{below, above, white_last}
use Rattle.format.proofs.TextLaws.{OneLine}

-- no White_Space begins at any byte
abbrev pub Solid : List ℕ → Type 0
Solid [] = Unit {0}
Solid (b ∷ bs) = (white_space_length (char_at (b ∷ bs)) ≡ 0) × Solid bs

-- visible ASCII
abbrev pub Visible : ℕ → Type 0
Visible b = (0x21 ≤ b) × (b < 0x7F)

pub visible_not_white : (c : ℕ) → Visible c → is_white_space c ≡ false
visible_not_white c v =
    let h : 0x21 ≤ c = v.0 in
    let l : c < 0x7F = v.1 in
    sym
    (white_last c (above 0x9 0xD c (omega arith)) (λ e. omega arith) (λ e. omega arith) (λ e. omega arith) (λ e. omega arith)
    (below 0x2000 0x200A c (omega arith)) (λ e. omega arith) (λ e. omega arith) (λ e. omega arith) (λ e. omega arith))
    ∙ ne_eqb c 0x3000 (λ e. omega arith)

pub visible_first : (b : ℕ) (bs : List ℕ) → Visible b → white_space_length (char_at (b ∷ bs)) ≡ 0
visible_first b bs v = rw (char_one b bs (omega (arith, v.1)), visible_not_white b v)

pub visible_solid : (t : List ℕ) → All Visible t → Solid t
visible_solid [] h = tt
visible_solid (b ∷ bs) h = (visible_first b bs h.0, visible_solid bs h.1)

pub numeric_visible : (t : List ℕ) → All Numeric t → All Visible t
numeric_visible [] h = tt
numeric_visible (b ∷ bs) h = ((omega (arith, h.0.0), omega (arith, h.0.1)), numeric_visible bs h.1)

-- names
module _ (c : ℕ) (rest : List ℕ) (s : Scalar c) (w : is_white_space c ≡ false) where
  pub solid_char : Solid rest → Solid (encode_scalar c ++ rest)
  solid_char h =
      by_size (λ e. Solid (e ++ rest)) c (λ l. (rw (char_one c rest l, w), h))
      (λ k l. (rw (char_2 c rest s k l, w), (middle c rest, h)))
      (λ k l. (rw (char_3 c rest s k l, w), (middle (c / 64) ((0x80 + c % 64) ∷ rest), (middle c rest, h))))
      (λ k. (
        rw (char_4 c rest s k, w),
        (
          middle (c / 4096) ((0x80 + c / 64 % 64) ∷ (0x80 + c % 64) ∷ rest),
          (middle (c / 64) ((0x80 + c % 64) ∷ rest), (middle c rest, h)),
        ),
      ))
    where
      middle : (d : ℕ) (bs : List ℕ) → white_space_length (char_at ((0x80 + d % 64) ∷ bs)) ≡ 0
      middle d bs = rw (char_middle (0x80 + d % 64) bs (omega arith) (omega arith))

solid_flat_map : (cs : List ℕ) → All Scalar cs → All (λ c. not (is_white_space c) ≡ true) cs → Solid (flat_map encode_scalar cs)
unfolding flat_map
solid_flat_map [] h w = tt
solid_flat_map (c ∷ cs) h w = solid_char c (flat_map encode_scalar cs) h.0 (not-true (is_white_space c) w.0) (solid_flat_map cs h.1 w.1)

pub solid_name : (t : List ℕ) → Text t → no_white_space t ≡ true → Solid t
unfolding no_white_space
solid_name t x h =
    let e : scalars t ≡ some x.0 = sym (ap scalars x.2) ∙ scalars_of_lem x.0 x.1 in
    let k : every (λ c. not (is_white_space c)) x.0 ≡ true = rw e at h in
    subst (λ (r : List ℕ). Solid r) x.2 (solid_flat_map x.0 x.1 (all-every (λ c. not (is_white_space c)) x.0 k))

-- what is not in a text without White_Space
white_byte : (w b : ℕ) (bs : List ℕ) → white_space_length (char_at (w ∷ bs)) ≡ 1 → white_space_length (char_at (b ∷ bs)) ≡ 0 → b ≡ w → ⊥
white_byte w b bs h k e = let z : ◌≡◌ {A = ℕ} 0 1 = sym k ∙ ap (λ (x : ℕ). white_space_length (char_at (x ∷ bs))) e ∙ h in omega arith

pub solid_byte : (b : ℕ) (bs : List ℕ) → white_space_length (char_at (b ∷ bs)) ≡ 0 → (b ≡ 0x20 → ⊥) × (b ≡ 0x0A → ⊥) × (b ≡ 0x0D → ⊥)
unfolding char_at is_white_space
solid_byte b bs h = (white_byte 0x20 b bs refl h, white_byte 0x0A b bs refl h, white_byte 0x0D b bs refl h)

pub solid_line : (t : List ℕ) → Solid t → OneLine t
solid_line [] h = tt
solid_line (b ∷ bs) h = let k = solid_byte b bs h.0 in (k.1, k.2, solid_line bs h.1)

-- trimming
pub start_first : (b : ℕ) (bs : List ℕ) → white_space_length (char_at (b ∷ bs)) ≡ 0 → trim_from 0 (b ∷ bs) ≡ b ∷ bs
unfolding trim_from
start_first b bs h = rw h

pub start-spaces : (k : ℕ) (t : List ℕ) → trim_start (spaces k ++ t) ≡ trim_start t
unfolding trim_start trim_from char_at is_white_space
start-spaces zero t = refl
start-spaces (suc k) t = start-spaces k t

start_blank : (k : ℕ) → trim_start (spaces k) ≡ []
unfolding trim_start trim_from
start_blank k = sym (ap trim_start (append-nil (spaces k))) ∙ start-spaces k []

end-spaces : (k : ℕ) → trim_end (spaces k) ≡ []
unfolding trim_end is_blank is_empty
end-spaces zero = refl
end-spaces (suc k) = rw (start_blank (suc k))

padded : (k b : ℕ) (bs : List ℕ) → char_at (b ∷ bs ++ spaces k) ≡ char_at (b ∷ bs)
padded zero b bs = rw (append-nil bs)
padded (suc k) b bs = char_ascii b bs (spaces k) 0x20 (omega arith)

pub end_solid : (k : ℕ) (t : List ℕ) → Solid t → trim_end (t ++ spaces k) ≡ t
unfolding trim_end is_blank is_empty trim_start
end_solid k [] h = end-spaces k
end_solid k (b ∷ bs) h =
    rw (start_first b (bs ++ spaces k) (ap white_space_length (padded k b bs) ∙ h.0), end_solid k bs h.1)

first_padded : (k b : ℕ) (bs : List ℕ) → Solid (b ∷ bs) → trim_start (b ∷ bs ++ spaces k) ≡ b ∷ bs ++ spaces k
unfolding trim_start
first_padded k b bs h = start_first b (bs ++ spaces k) (ap white_space_length (padded k b bs) ∙ h.0)

pub trim_right : (k : ℕ) (t : List ℕ) → Solid t → trim (t ++ spaces k) ≡ t
unfolding trim
trim_right k [] h = ap trim_end (start_blank k) ∙ end-spaces 0
trim_right k (b ∷ bs) h = ap trim_end (first_padded k b bs h) ∙ end_solid k (b ∷ bs) h

pub trim_solid : (t : List ℕ) → Solid t → trim t ≡ t
trim_solid t h = ap trim (sym (append-nil t)) ∙ trim_right 0 t h

pub trim-left : (k : ℕ) (t : List ℕ) → Solid t → trim (spaces k ++ t) ≡ t
unfolding trim
trim-left k t h = ap trim_end (start-spaces k t) ∙ trim_solid t h

-- a visible byte keeps a text from being blank
pub not_blank : (k : ℕ) (xs : List ℕ) (b : ℕ) (ws : List ℕ) → Visible b → k ≤ length xs → is_empty (trim_from k (xs ++ b ∷ ws)) ≡ false
unfolding trim_from is_empty
not_blank zero [] b ws v l = rw (visible_first b ws v)
not_blank (suc k) [] b ws v l = absurd (omega arith)
not_blank (suc k) (x ∷ xs) b ws v l = not_blank k xs b ws v (omega arith)
not_blank zero (x ∷ xs) b ws v l = rw (char_ascii x xs ws b (omega (arith, v.1))) (go (char_at (x ∷ xs)) refl (λ n. not_blank n xs b ws v))
  where
    go : (o : Option (ℕ × ℕ)) → char_at (x ∷ xs) ≡ o → ((n : ℕ) → n ≤ length xs → is_empty (trim_from n (xs ++ b ∷ ws)) ≡ false)
        → is_empty (pass_over (white_space_length o) (x ∷ xs ++ b ∷ ws) (λ n. trim_from n (xs ++ b ∷ ws))) ≡ false
    go none e ih = refl
    go (some p) e ih = pick (is_white_space p.0) (ih p.1 (char_reads x xs p.0 p.1 e).1)
      where
        pick : (t : Bool) → is_empty (trim_from p.1 (xs ++ b ∷ ws)) ≡ false
            → is_empty (pass_over (if t then suc p.1 else 0) (x ∷ xs ++ b ∷ ws) (λ n. trim_from n (xs ++ b ∷ ws))) ≡ false
        pick true i = i
        pick false i = refl

pub visible_in : (xs : List ℕ) (b : ℕ) (ws : List ℕ) → Visible b → is_blank (xs ++ b ∷ ws) ≡ false
unfolding is_blank trim_start
visible_in xs b ws v = not_blank 0 xs b ws v (omega arith)

-- newlines after the last visible byte
abbrev pub newlines_of : ℕ → List ℕ
newlines_of k = replicate k 0x0A

start-newlines : (k : ℕ) → trim_start (newlines_of k) ≡ []
unfolding trim_start trim_from char_at is_white_space
start-newlines zero = refl
start-newlines (suc k) = start-newlines k

end-newlines : (k : ℕ) → trim_end (newlines_of k) ≡ []
unfolding trim_end is_blank is_empty
end-newlines zero = refl
end-newlines (suc k) = rw (start-newlines (suc k))

pub end_visible : (xs : List ℕ) (b k : ℕ) → Visible b → trim_end (xs ++ b ∷ newlines_of k) ≡ xs ++ b ∷ []
unfolding trim_end
end_visible [] b k v = rw (visible_in [] b (newlines_of k) v, end-newlines k)
end_visible (x ∷ xs) b k v = rw (visible_in (x ∷ xs) b (newlines_of k) v, end_visible xs b k v)
