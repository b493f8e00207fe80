-- The lines of a file are those that were written, and of these the kept ones are kept. Assumes nothing.
use mathlib.Core.Path.{◌≡◌, refl, sym, ◌∙◌, ap}
use mathlib.Core.Bool.{Bool, true, false, not, ◌&&◌}
use mathlib.Core.List.{List, [], ◌∷◌, ◌++◌, append_assoc, flat_map}
use Prim.Native.Nat.{ℕ}
use native.Mathlib.Omega.{arith}
use borrow.Author.Tests.{ne_eqb}
use Rattle.format.specs.Basics.{keep, ascii, begins_with, All}
use Rattle.format.specs.Utf8.{is_blank, trim_from, trim_start, trim_end, trim}
use Rattle.format.specs.TextWriter.{text_line}
use Rattle.format.specs.TextReader.{lines, on_first, kept_lines}
use Rattle.format.proofs.TextLaws.{OneLine, lines-line}
use Rattle.format.proofs.NumeralBack.{Full}
use Rattle.format.proofs.EscapeLaws.{Printable}
use Rattle.format.proofs.TrimLaws.{Visible, visible_first, start_first, end_visible, newlines_of}

-- the lines that the reader keeps
abbrev pub is_kept : List ℕ → Bool
is_kept l = not (begins_with (ascii "#") l) && not (is_blank l)

pub one-line-append : (s t : List ℕ) → OneLine s → OneLine t → OneLine (s ++ t)
one-line-append [] t h k = k
one-line-append (b ∷ bs) t h k = (h.0, h.1, one-line-append bs t h.2 k)

pub printable_line : (t : List ℕ) → All Printable t → OneLine t
printable_line [] h = tt
printable_line (b ∷ bs) h = (λ e. omega (arith, h.0.0), λ e. omega (arith, h.0.0), printable_line bs h.1)

pub lines-flat_map : (ls : List (List ℕ)) (rest : List ℕ) → All OneLine ls → lines (flat_map text_line ls ++ rest) ≡ ls ++ lines rest
unfolding flat_map
lines-flat_map [] rest h = refl
lines-flat_map (l ∷ ls) rest h =
    ap lines (append_assoc (text_line l) (flat_map text_line ls) rest ∙ append_assoc l (0x0A ∷ []) (flat_map text_line ls ++ rest)) ∙ lines-line l (flat_map text_line ls ++ rest) h.0
    ∙ ap (λ (r : List (List ℕ)). l ∷ r) (lines-flat_map ls rest h.1)

-- the last line, which goes without its newline
pub lines-last : (t : List ℕ) → OneLine t → Full t → lines t ≡ t ∷ []
unfolding lines on_first begins_with
lines-last [] h f = absurd f
lines-last (b ∷ []) h f = rw (ne_eqb b 0x0A h.0, ne_eqb b 0x0D h.1)
lines-last (b ∷ c ∷ bs) h f = rw (ne_eqb b 0x0A h.0, ne_eqb b 0x0D h.1, lines-last (c ∷ bs) h.2 tt)

full-last : (xs : List ℕ) (b : ℕ) → Full (xs ++ b ∷ [])
full-last [] b = tt
full-last (x ∷ xs) b = tt

pub kept_file :
    (a : ℕ) (l : List ℕ) (ls : List (List ℕ)) (xs : List ℕ) (b k : ℕ) → Visible a → Visible b → All OneLine ((a ∷ l) ∷ ls) → OneLine (xs ++ b ∷ [])
    → kept_lines (flat_map text_line ((a ∷ l) ∷ ls) ++ (xs ++ b ∷ newlines_of k)) ≡ keep is_kept ((a ∷ l) ∷ ls ++ (xs ++ b ∷ []) ∷ [])
unfolding kept_lines trim trim_start flat_map
kept_file a l ls xs b k va vb h o =
    let pre : List ℕ = flat_map text_line ((a ∷ l) ∷ ls) in
    let e1 : trim_from 0 (pre ++ (xs ++ b ∷ newlines_of k)) ≡ pre ++ (xs ++ b ∷ newlines_of k) =
    start_first a (l ++ 0x0A ∷ [] ++ flat_map text_line ls ++ (xs ++ b ∷ newlines_of k)) (visible_first a (l ++ 0x0A ∷ [] ++ flat_map text_line ls ++ (xs ++ b ∷ newlines_of k)) va) in
    let e2 : trim_end (pre ++ (xs ++ b ∷ newlines_of k)) ≡ pre ++ (xs ++ b ∷ []) =
    ap trim_end (sym (append_assoc pre xs (b ∷ newlines_of k))) ∙ end_visible (pre ++ xs) b k vb ∙ append_assoc pre xs (b ∷ []) in
    ap (λ (r : List ℕ). keep is_kept (lines (trim_end r))) e1 ∙ ap (λ (r : List ℕ). keep is_kept (lines r)) e2
    ∙ ap (λ (r : List (List ℕ)). keep is_kept r)
    (lines-flat_map ((a ∷ l) ∷ ls) (xs ++ b ∷ []) h ∙ ap (λ (r : List (List ℕ)). (a ∷ l) ∷ ls ++ r) (lines-last (xs ++ b ∷ []) o (full-last xs b)))

-- a row: its first byte begins neither a comment nor a group, and it has a visible byte
pub row_kept : (l : List ℕ) → begins_with (ascii "#") l ≡ false → is_blank l ≡ false → is_kept l ≡ true
row_kept l h k = rw (h, k)

pub starts-not : (c b : ℕ) (bs : List ℕ) → (b ≡ c → ⊥) → begins_with (c ∷ []) (b ∷ bs) ≡ false
unfolding begins_with
starts-not c b bs h = rw (ne_eqb c b (λ e. h (sym e)))
