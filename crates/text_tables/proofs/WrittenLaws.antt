-- A row of the label table that is as it is written: its name and spaces, a divider, spaces and its index.
-- Assumes nothing.
use mathlib.Core.Path.{◌≡◌, refl, sym, ap, ◌∙◌, subst}
use mathlib.Core.List.{List, [], ◌∷◌, ◌++◌, append_assoc}
use Prim.Native.Nat.{ℕ, zero, suc, ◌+◌, ◌-◌, ◌≤◌, ◌<◌}
use native.Mathlib.Omega.{arith}
use lib.ListN.{length, take, drop, get_or, take-append-drop}
use lib.Seq.{drop-drop}
use lib.Dec.{eqb}
use borrow.Author.Tests.{eqb-true, eqb-false}
use Rattle.format.specs.Basics.{All, ascii}
use Rattle.format.specs.Utf8.{trim}
use Rattle.format.specs.TextReader.{splitn}
use Rattle.format.specs.TextWriter.{spaces, table_div}
use Rattle.format.proofs.TrimLaws.{Visible, Solid, visible_solid, trim-left, trim_right}
use Rattle.format.proofs.CellLaws.{cells_1, undivided_append, undivided_spaces}
use Rattle.trim.specs.Span.{part, Spans}
use Rattle.text_lines.proofs.TestLaws.{by_test, front}
use Rattle.text_lines.proofs.LineLaws.{to_end, length_part}
use Rattle.text_tables.specs.RowCells.{IsSpace, Run}

-- RUNS of bytes of a kind
module _ (P : ℕ → Type 0) (l : List ℕ) where
  pub run_none : (a : ℕ) → a ≤ length l → Run P l a a
  run_none a h = record { ordered = omega arith; inside = h; each = λ j x y. absurd (omega (arith, x, y)) }

  pub run_on_lem : (a i : ℕ) → Run P l a i → i < length l → P (get_or l i 0) → Run P l a (i + 1)
  run_on_lem a i r h p =
      record {
        ordered = omega (arith, r.ordered);
        inside = omega (arith, h);
        each = λ j x y. by_test (eqb j i)
            (λ u. subst (λ (z : ℕ). P (get_or l z 0)) (sym (eqb-true j i u)) p)
            (λ u. r.each j x (omega (arith, y, eqb-false j i u)));
      }

  all-part : (k a : ℕ) → a + k ≤ length l → ((j : ℕ) → a ≤ j → j < a + k → P (get_or l j 0)) → All P (take k (drop a l))
  all-part zero a h f = tt
  all-part (suc k) a h f =
      subst (λ (z : List ℕ). All P (take (suc k) z)) (sym (front 0 l a (omega (arith, h))))
      (f a (omega arith) (omega arith), all-part k (a + 1) (omega (arith, h)) (λ j x y. f j (omega (arith, x)) (omega (arith, y))))

  run-all : (a e : ℕ) → Run P l a e → All P (part a e l)
  run-all a e r =
      all-part (e - a) a (omega (arith, r.ordered, r.inside)) (λ j x y. r.each j x (omega (arith, y, r.ordered)))

-- what was passed over
pub spaces_run : (l : List ℕ) (a e : ℕ) → a ≤ e → e ≤ length l → ((j : ℕ) → a ≤ j → j < e → get_or l j 0 ≡ 0x20) → Run IsSpace l a e
spaces_run l a e o i f = record { ordered = o; inside = i; each = f }

all-spaces : (xs : List ℕ) → All IsSpace xs → xs ≡ spaces (length xs)
all-spaces [] h = refl
all-spaces (x ∷ xs) h = ap (λ (z : ℕ). z ∷ xs) h.0 ∙ ap (λ (z : List ℕ). 0x20 ∷ z) (all-spaces xs h.1)

run-spaces : (l : List ℕ) (a e : ℕ) → Run IsSpace l a e → part a e l ≡ spaces (e - a)
run-spaces l a e r = all-spaces (part a e l) (run-all IsSpace l a e r) ∙ ap spaces (length_part a e l r.ordered r.inside)

spaces-last : (k : ℕ) → spaces (suc k) ≡ spaces k ++ 0x20 ∷ []
spaces-last zero = refl
spaces-last (suc k) = ap (λ (z : List ℕ). 0x20 ∷ z) (spaces-last k)

cut_part : (l : List ℕ) (a e : ℕ) → a ≤ e → drop a l ≡ part a e l ++ drop e l
cut_part l a e h =
    let k : a + (e - a) ≡ e = omega arith in
    sym (take-append-drop (e - a) (drop a l)) ∙ ap (λ (z : List ℕ). part a e l ++ z) (drop-drop (e - a) a l ∙ ap (λ (j : ℕ). drop j l) k)

regroup : (name pad rest : List ℕ) → name ++ ((pad ++ 0x20 ∷ []) ++ (0x7C ∷ 0x20 ∷ rest)) ≡ (name ++ pad) ++ table_div ++ rest
unfolding ascii
regroup name pad rest =
    ap (λ (z : List ℕ). name ++ z) (append_assoc pad (0x20 ∷ []) (0x7C ∷ 0x20 ∷ rest))
    ∙ sym (append_assoc name pad (0x20 ∷ 0x7C ∷ 0x20 ∷ rest)) ∙ sym (append_assoc (name ++ pad) table_div rest)

module _ (l : List ℕ) (n p d : ℕ) (name : Run Visible l 0 n) (pad : Run IsSpace l n p) (o : n < p) (room : p + 2 ≤ length l)
    (bar : get_or l p 0 ≡ 0x7C) (gap : get_or l (p + 1) 0 ≡ 0x20) (more : Run IsSpace l (p + 2) d) (index : Run Visible l d (length l)) where
  k : ℕ
  k = p - n - 1

  m : ℕ
  m = d - (p + 2)

  pad_is : part n p l ≡ spaces k ++ 0x20 ∷ []
  unfolding k
  pad_is = let e : p - n ≡ suc (p - n - 1) = omega arith in run-spaces l n p pad ∙ ap spaces e ∙ spaces-last (p - n - 1)

  bar_is : drop p l ≡ 0x7C ∷ 0x20 ∷ drop (p + 2) l
  bar_is =
      let e : p + 1 + 1 ≡ p + 2 = omega arith in
      front 0 l p (omega (arith, room)) ∙ ap (λ (b : ℕ). b ∷ drop (p + 1) l) bar
      ∙ ap (λ (z : List ℕ). 0x7C ∷ z)
      (front 0 l (p + 1) (omega (arith, room)) ∙ ap (λ (b : ℕ). b ∷ drop (p + 1 + 1) l) gap ∙ ap (λ (j : ℕ). 0x20 ∷ drop j l) e)

  rest_is : drop (p + 2) l ≡ spaces m ++ part d (length l) l
  unfolding m
  rest_is =
      cut_part l (p + 2) d more.ordered ∙ ap (λ (z : List ℕ). z ++ drop d l) (run-spaces l (p + 2) d more)
      ∙ ap (λ (z : List ℕ). spaces (d - (p + 2)) ++ z) (sym (to_end l d))

  shape : l ≡ (part 0 n l ++ spaces k) ++ table_div ++ (spaces m ++ part d (length l) l)
  shape =
      cut_part l 0 n (omega arith)
      ∙ ap (λ (z : List ℕ). part 0 n l ++ z) (cut_part l n p pad.ordered ∙ ap (λ (z : List ℕ). z ++ drop p l) pad_is
      ∙ ap (λ (z : List ℕ). (spaces k ++ 0x20 ∷ []) ++ z) (bar_is ∙ ap (λ (z : List ℕ). 0x7C ∷ 0x20 ∷ z) rest_is))
      ∙ regroup (part 0 n l) (spaces k) (spaces m ++ part d (length l) l)

  solid_name : Solid (part 0 n l)
  solid_name = visible_solid (part 0 n l) (run-all Visible l 0 n name)

  solid_index : Solid (part d (length l) l)
  solid_index = visible_solid (part d (length l) l) (run-all Visible l d (length l) index)

  cells : splitn 1 l ≡ (part 0 n l ++ spaces k) ∷ (spaces m ++ part d (length l) l) ∷ []
  cells =
      ap (splitn 1) shape
      ∙ cells_1 (part 0 n l ++ spaces k) (spaces m ++ part d (length l) l) (undivided_append (part 0 n l) (spaces k) solid_name (undivided_spaces k))

  pub written_is : Spans l 0 n (trim (get_or (splitn 1 l) 0 [])) × Spans l d (length l) (trim (get_or (splitn 1 l) 1 []))
  written_is = (
    record { ordered = omega arith; inside = name.inside; same = sym (ap (λ (cs : List (List ℕ)). trim (get_or cs 0 [])) cells ∙ trim_right k (part 0 n l) solid_name) },
    record { ordered = index.ordered; inside = omega arith; same = sym (ap (λ (cs : List (List ℕ)). trim (get_or cs 1 [])) cells ∙ trim-left m (part d (length l) l) solid_index) },
  )
