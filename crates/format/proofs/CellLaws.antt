-- The cells of a row are those that were written. Assumes nothing.
use mathlib.Core.Path.{◌≡◌, refl, sym, ◌∙◌, subst}
use mathlib.Core.Bool.{Bool, true, false, ◌&&◌}
use mathlib.Core.List.{List, [], ◌∷◌, ◌++◌, append_assoc, append-nil}
use mathlib.Core.Option.{some}
use Prim.Native.Nat.{ℕ, zero, suc}
use lib.Dec.{eqb}
use borrow.Author.Tests.{ne_eqb}
use Rattle.format.specs.Basics.{ascii, begins_with}
use Rattle.format.specs.TextWriter.{spaces, table_div}
use Rattle.format.specs.TextReader.{split_once, splitn}
use Rattle.format.proofs.TrimLaws.{Solid, solid_byte}

abbrev pub starts_bar : List ℕ → Bool
starts_bar [] = false
starts_bar (y ∷ ys) = eqb 0x7C y

-- no divider begins in it, with a space behind it
abbrev pub Undivided : List ℕ → Type 0
Undivided [] = Unit {0}
Undivided (b ∷ bs) = (eqb 0x20 b && starts_bar bs ≡ false) × Undivided bs

no_divider : (b : ℕ) (bs rest : List ℕ) → eqb 0x20 b && starts_bar bs ≡ false → begins_with (ascii " | ") (b ∷ bs ++ 0x20 ∷ rest) ≡ false
unfolding begins_with ascii
no_divider b bs rest h = go (eqb 0x20 b) bs h
  where
    go : (t : Bool) (bs : List ℕ) → t && starts_bar bs ≡ false → t && begins_with (0x7C ∷ 0x20 ∷ []) (bs ++ 0x20 ∷ rest) ≡ false
    go false bs h = refl
    go true [] h = refl
    go true (y ∷ ys) h = rw h

pub cut_at : (a rest : List ℕ) → Undivided a → split_once (a ++ (table_div ++ rest)) ≡ some (a, rest)
unfolding split_once ascii begins_with
cut_at [] rest h = refl
cut_at (b ∷ bs) rest h = rw (no_divider b bs (0x7C ∷ 0x20 ∷ rest) h.0, cut_at bs rest h.1)

pub cells_1 : (a rest : List ℕ) → Undivided a → splitn 1 (a ++ table_div ++ rest) ≡ a ∷ rest ∷ []
unfolding splitn
cells_1 a rest h = rw (append_assoc a table_div rest, cut_at a rest h)

pub cells_2 : (a b rest : List ℕ) → Undivided a → Undivided b → splitn 2 (a ++ table_div ++ b ++ table_div ++ rest) ≡ a ∷ b ∷ rest ∷ []
unfolding splitn
cells_2 a b rest h k =
    let e : a ++ table_div ++ b ++ table_div ++ rest ≡ a ++ (table_div ++ (b ++ (table_div ++ rest))) =
    append_assoc (a ++ table_div ++ b) table_div rest ∙ append_assoc (a ++ table_div) b (table_div ++ rest) ∙ append_assoc a table_div (b ++ (table_div ++ rest)) in
    rw (e, cut_at a (b ++ (table_div ++ rest)) h, cut_at b rest k)

pub undivided_append : (s t : List ℕ) → Solid s → Undivided t → Undivided (s ++ t)
undivided_append [] t h k = k
undivided_append (b ∷ bs) t h k =
    let e : eqb 0x20 b ≡ false = ne_eqb 0x20 b (λ q. (solid_byte b bs h.0).0 (sym q)) in
    (rw e, undivided_append bs t h.1 k)

pub undivided_spaces : (k : ℕ) → Undivided (spaces k)
undivided_spaces zero = tt
undivided_spaces (suc zero) = (refl, tt)
undivided_spaces (suc (suc k)) = (refl, undivided_spaces (suc k))

pub undivided_solid : (t : List ℕ) → Solid t → Undivided t
undivided_solid t h = subst (λ (r : List ℕ). Undivided r) (append-nil t) (undivided_append t [] h tt)

pub undivided_left : (k : ℕ) (t : List ℕ) → Undivided t → starts_bar t ≡ false → Undivided (spaces k ++ t)
undivided_left zero t h e = h
undivided_left (suc zero) t h e = (e, h)
undivided_left (suc (suc k)) t h e = (refl, undivided_left (suc k) t h e)
