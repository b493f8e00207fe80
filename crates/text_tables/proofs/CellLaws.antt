-- A row's cells, one after the other.
-- Assumes nothing.
use mathlib.Core.Path.{◌≡◌, refl, sym, ap, ◌∙◌}
use mathlib.Core.List.{List, [], ◌∷◌, ◌++◌}
use mathlib.Core.Option.{Option, none, some}
use Prim.Native.Nat.{ℕ, suc, ◌+◌, ◌-◌, ◌≤◌, ◌<◌}
use native.Mathlib.Omega.{arith}
use lib.ListN.{length, take, drop, get_or, length-drop, drop_of_length-le}
use lib.Seq.{drop-drop}
use Rattle.format.specs.Basics.{and_then, begins_with, ascii}
use Rattle.format.specs.Utf8.{trim}
use Rattle.format.specs.TextReader.{split_once, splitn, first_cell}
use Rattle.trim.specs.Span.{part, Spans, Trimmed, trim_span}
use Rattle.trim.specs.declared.Span.{Span}
use Rattle.text_lines.proofs.TestLaws.{by_test}
use Rattle.text_lines.proofs.LineLaws.{to_end, length_part}
use Rattle.text_tables.specs.declared.Cell.{Cell}
use Rattle.format.specs.Basics.{All}
use Rattle.format.specs.TextWriter.{spaces, table_div}
use Rattle.format.proofs.TrimLaws.{Visible, Solid, visible_solid, trim_solid, trim-left}
use Rattle.format.proofs.CellLaws.{cells_2, undivided_solid, undivided_left}
use borrow.Author.Tests.{ne_eqb}
use Rattle.text_tables.specs.RowCells.{CellAt, DividerAt, Aligned}

-- what stands after the first divider begins three bytes after what stands before it, which is no longer than the row
RestIs : List ℕ → Option (List ℕ × List ℕ) → Type 0
RestIs bs none = Unit {0}
RestIs bs (some p) = (p.1 ≡ drop (length p.0 + 3) bs) × (length p.0 ≤ length bs)

RestOn : (b : ℕ) (bs : List ℕ) (o : Option (List ℕ × List ℕ)) → RestIs bs o → RestIs (b ∷ bs) (and_then o λ p. some (b ∷ p.0, p.1))
unfolding RestIs
RestOn b bs none h = tt
RestOn b bs (some p) h =
    let k : suc (length p.0) + 3 ≡ suc (length p.0 + 3) = omega arith in
    (h.0 ∙ sym (ap (λ (j : ℕ). drop j (b ∷ bs)) k), omega (arith, h.1))

once_rest : (bs : List ℕ) → RestIs bs (split_once bs)
unfolding RestIs split_once ascii
once_rest [] = tt
once_rest (b ∷ bs) =
    by_test (begins_with (0x20 ∷ 0x7C ∷ 0x20 ∷ []) (b ∷ bs)) (λ u. rw u (refl, omega arith)) (λ u. rw u (RestOn b bs (split_once bs) (once_rest bs)))

first_rest : (bs : List ℕ) (o : Option (List ℕ × List ℕ)) → RestIs bs o
    → get_or (first_cell bs (λ r. splitn 0 r) o) 1 [] ≡ drop (length (get_or (first_cell bs (λ r. splitn 0 r) o) 0 []) + 3) bs
unfolding RestIs splitn
first_rest bs none h = sym (drop_of_length-le bs {i = length bs + 3} (omega arith))
first_rest bs (some p) h = h.0

first_short : (bs : List ℕ) (o : Option (List ℕ × List ℕ)) → RestIs bs o → length (get_or (first_cell bs (λ r. splitn 0 r) o) 0 []) ≤ length bs
unfolding RestIs
first_short bs none h = omega arith
first_short bs (some p) h = h.1

short-first : (bs : List ℕ) → length (get_or (splitn 1 bs) 0 []) ≤ length bs
unfolding splitn
short-first bs = first_short bs (split_once bs) (once_rest bs)

rest_by_first : (bs : List ℕ) → get_or (splitn 1 bs) 1 [] ≡ drop (length (get_or (splitn 1 bs) 0 []) + 3) bs
unfolding splitn
rest_by_first bs = first_rest bs (split_once bs) (once_rest bs)

-- the cells of a row that is cut twice
cells_of : (l : List ℕ) (o : Option (List ℕ × List ℕ)) → let cs = first_cell l (λ r. splitn 1 r) o in let ds = first_cell l (λ r. splitn 0 r) o in
    (get_or cs 0 [] ≡ get_or ds 0 []) × (get_or cs 1 [] ≡ get_or (splitn 1 (get_or ds 1 [])) 0 []) × (get_or cs 2 [] ≡ get_or (splitn 1 (get_or ds 1 [])) 1 [])
unfolding splitn split_once
cells_of l none = (refl, refl, refl)
cells_of l (some p) = (refl, refl, refl)

cells_two : (l : List ℕ) → (get_or (splitn 2 l) 0 [] ≡ get_or (splitn 1 l) 0 []) × (get_or (splitn 2 l) 1 [] ≡ get_or (splitn 1 (get_or (splitn 1 l) 1 [])) 0 [])
    × (get_or (splitn 2 l) 2 [] ≡ get_or (splitn 1 (get_or (splitn 1 l) 1 [])) 1 [])
unfolding splitn
cells_two l = cells_of l (split_once l)

-- THE FIRST CELL from a place on, and where the row goes on
module _ (l : List ℕ) (at x y : ℕ) (h : at ≤ length l) (c : Spans l x y (get_or (splitn 1 (drop at l)) 0 [])) where
  long : length (get_or (splitn 1 (drop at l)) 0 []) ≡ y - x
  long = sym (ap length c.same) ∙ length_part x y l c.ordered c.inside

  pub cell_room : y - x ≤ length l - at
  cell_room = omega (arith, long, short-first (drop at l), length-drop at l)

module _ (l : List ℕ) (at x y : ℕ) (h : at ≤ length l) (c : Spans l x y (get_or (splitn 1 (drop at l)) 0 [])) (u : Span)
    (s : Trimmed trim trim_span l x y u) where
  first : List ℕ
  first = get_or (splitn 1 (drop at l)) 0 []

  span : Spans l u.start u.end (trim first)
  unfolding first
  span = let r = s.1 in record { ordered = r.ordered; inside = r.inside; same = r.same ∙ ap trim c.same }

  after : (q : ℕ) → drop q l ≡ drop (y - x + 3) (drop at l) → drop q l ≡ get_or (splitn 1 (drop at l)) 1 []
  unfolding first
  after q e = e ∙ ap (λ (n : ℕ). drop (n + 3) (drop at l)) (sym (long l at x y h c)) ∙ sym (rest_by_first (drop at l))

  pub cell-last : length l - at - (y - x) < 3 → CellAt l at (record { start = u.start; end = u.end; next = length l })
  unfolding first
  cell-last e =
      let d = length-drop at l in
      record {
        cell = span;
        inside = omega arith;
        rest = after (length l) (drop_of_length-le l {i = length l} (omega arith) ∙ sym (drop_of_length-le (drop at l) {i = y - x + 3} (omega (arith, d))));
      }

  pub cell-more : 3 ≤ length l - at - (y - x) → CellAt l at (record { start = u.start; end = u.end; next = at + (y - x) + 3 })
  unfolding first
  cell-more e =
      let k : at + (y - x) + 3 ≡ at + (y - x + 3) = omega arith in
      record {
        cell = span;
        inside = omega (arith, e, h);
        rest = after (at + (y - x) + 3) (ap (λ (j : ℕ). drop j l) k ∙ sym (drop-drop (y - x + 3) at l));
      }

-- THE CELLS of a row, one after the other
module _ (l : List ℕ) (c : Cell) (x : CellAt l 0 c) where
  pub first_of_two : Spans l c.start c.end (trim (get_or (splitn 1 l) 0 []))
  first_of_two = x.cell

  last-bytes : part c.next (length l) l ≡ get_or (splitn 1 l) 1 []
  last-bytes = to_end l c.next ∙ x.rest

  pub second_of_two : (u : Span) → Trimmed trim trim_span l c.next (length l) u → Spans l u.start u.end (trim (get_or (splitn 1 l) 1 []))
  second_of_two u s = let r = s.1 in record { ordered = r.ordered; inside = r.inside; same = r.same ∙ ap trim last-bytes }

  pub first_of_three : Spans l c.start c.end (trim (get_or (splitn 2 l) 0 []))
  first_of_three = let r = x.cell in record { ordered = r.ordered; inside = r.inside; same = r.same ∙ ap trim (sym (cells_two l).0) }

  module _ (d : Cell) (y : CellAt l c.next d) where
    pub second_of_three : Spans l d.start d.end (trim (get_or (splitn 2 l) 1 []))
    second_of_three =
        let r = y.cell in
        record {
          ordered = r.ordered;
          inside = r.inside;
          same = r.same ∙ ap (λ (bs : List ℕ). trim (get_or (splitn 1 bs) 0 [])) x.rest ∙ ap trim (sym (cells_two l).1);
        }

    pub third_of_three : (u : Span) → Trimmed trim trim_span l d.next (length l) u → Spans l u.start u.end (trim (get_or (splitn 2 l) 2 []))
    third_of_three u s =
        let r = s.1 in
        record {
          ordered = r.ordered;
          inside = r.inside;
          same = r.same
              ∙ ap trim (to_end l d.next ∙ y.rest ∙ ap (λ (bs : List ℕ). get_or (splitn 1 bs) 1 []) x.rest ∙ sym (cells_two l).2);
        }

-- A ROW OF .SYMBOL that has its cells where they are written
spread : (l : List ℕ) → 13 ≤ length l
    → l ≡ get_or l 0 0 ∷ get_or l 1 0 ∷ get_or l 2 0 ∷ get_or l 3 0 ∷ get_or l 4 0 ∷ get_or l 5 0 ∷ get_or l 6 0 ∷ get_or l 7 0 ∷ get_or l 8 0 ∷ get_or l 9 0 ∷ get_or l 10 0 ∷ get_or l 11 0 ∷ get_or l 12 0 ∷ drop 13 l
spread [] le = absurd (omega arith)
spread (a ∷ []) le = absurd (omega arith)
spread (a ∷ b ∷ []) le = absurd (omega arith)
spread (a ∷ b ∷ c ∷ []) le = absurd (omega arith)
spread (a ∷ b ∷ c ∷ d ∷ []) le = absurd (omega arith)
spread (a ∷ b ∷ c ∷ d ∷ e ∷ []) le = absurd (omega arith)
spread (a ∷ b ∷ c ∷ d ∷ e ∷ f ∷ []) le = absurd (omega arith)
spread (a ∷ b ∷ c ∷ d ∷ e ∷ f ∷ g ∷ []) le = absurd (omega arith)
spread (a ∷ b ∷ c ∷ d ∷ e ∷ f ∷ g ∷ h ∷ []) le = absurd (omega arith)
spread (a ∷ b ∷ c ∷ d ∷ e ∷ f ∷ g ∷ h ∷ i ∷ []) le = absurd (omega arith)
spread (a ∷ b ∷ c ∷ d ∷ e ∷ f ∷ g ∷ h ∷ i ∷ j ∷ []) le = absurd (omega arith)
spread (a ∷ b ∷ c ∷ d ∷ e ∷ f ∷ g ∷ h ∷ i ∷ j ∷ k ∷ []) le = absurd (omega arith)
spread (a ∷ b ∷ c ∷ d ∷ e ∷ f ∷ g ∷ h ∷ i ∷ j ∷ k ∷ l ∷ []) le = absurd (omega arith)
spread (a ∷ b ∷ c ∷ d ∷ e ∷ f ∷ g ∷ h ∷ i ∷ j ∷ k ∷ l ∷ m ∷ xs) le = refl

module _ (l : List ℕ) (n : 13 ≤ length l) (x : DividerAt l 4) (y : DividerAt l 10) (p : get_or l 7 0 ≡ 0x20) (q : get_or l 8 0 ≡ 0x20)
    (d : 0x30 ≤ get_or l 9 0) (e : get_or l 9 0 ≤ 0x39)
    (v : All Visible (get_or l 0 0 ∷ get_or l 1 0 ∷ get_or l 2 0 ∷ get_or l 3 0 ∷ [])) where
  address : List ℕ
  address = get_or l 0 0 ∷ get_or l 1 0 ∷ get_or l 2 0 ∷ get_or l 3 0 ∷ []

  external : List ℕ
  external = get_or l 9 0 ∷ []

  digit : Solid external
  unfolding external
  digit = visible_solid (get_or l 9 0 ∷ []) ((omega (arith, d), omega (arith, e)), tt)

  shape : l ≡ address ++ table_div ++ (spaces 2 ++ external) ++ table_div ++ drop 13 l
  unfolding address external ascii
  shape = spread l n ∙ rw (x.0, x.1, x.2, y.0, y.1, y.2, p, q) refl

  cells : splitn 2 l ≡ address ∷ (spaces 2 ++ external) ∷ drop 13 l ∷ []
  unfolding address external
  cells =
      ap (splitn 2) shape
      ∙ cells_2 address (spaces 2 ++ external) (drop 13 l) (undivided_solid address (visible_solid address v))
      (undivided_left 2 external (undivided_solid external digit) (ne_eqb 0x7C (get_or l 9 0) (λ z. omega (arith, e))))

  pub aligned : Aligned l
  unfolding address external
  aligned =
      record {
        first = record { ordered = omega arith; inside = omega (arith, n); same = ap (take 4) (spread l n) ∙ sym (ap (λ (cs : List (List ℕ)). trim (get_or cs 0 [])) cells ∙ trim_solid address (visible_solid address v)) };
        second =
            record {
              ordered = omega arith;
              inside = omega (arith, n);
              same = ap (λ (z : List ℕ). take 1 (drop 9 z)) (spread l n)
                  ∙ sym (ap (λ (cs : List (List ℕ)). trim (get_or cs 1 [])) cells ∙ trim-left 2 external digit);
            };
        inside = n;
        third = sym (ap (λ (cs : List (List ℕ)). get_or cs 2 []) cells);
      }

pub aligned_third : (l : List ℕ) → Aligned l → (u : Span) → Trimmed trim trim_span l 13 (length l) u → Spans l u.start u.end (trim (get_or (splitn 2 l) 2 []))
aligned_third l c u s =
    let r = s.1 in record { ordered = r.ordered; inside = r.inside; same = r.same ∙ ap trim (to_end l 13 ∙ c.third) }
