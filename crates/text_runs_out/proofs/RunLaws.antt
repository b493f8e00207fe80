-- Rows one after the other. Assumes nothing.
use mathlib.Core.Path.{◌≡◌, refl, sym, ap, ap₂, ◌∙◌}
use mathlib.Core.Bool.{false}
use mathlib.Core.List.{List, [], ◌∷◌, ◌++◌}
use mathlib.Core.Option.{Option}
use Prim.Native.Nat.{ℕ, suc, ◌+◌, ◌-◌, ◌≤◌, ◌<◌}
use native.Mathlib.Omega.{arith}
use native.Mathlib.Numerals.{add-one}
use lib.ListN.{length}
use borrow.Author.Tests.{eq-eqb, ne_eqb}
use Rattle.format.specs.ObjectFile.{line_end}
use Rattle.format.specs.TextWriter.{Row, plain_rows}
use Rattle.format.proofs.ListLaws.{flat_map-append}
use Rattle.object.specs.Bodies.{body_at}
use Rattle.object.specs.Access.{kind_at, line_block_at}
use Rattle.text_parts_out.specs.Parts.{heads}
use Rattle.text_parts_out.proofs.HeadLaws.{heads-end, heads-next}
use Rattle.text_lines_out.specs.Merge.{smaller}
use Rattle.text_lines_out.specs.Runs.{row, address_from, run_rows, source_of, rows_of, Planned}
use Rattle.text_lines_out.specs.Walk.{gap_rows, own_rows, record_rows, record_done}
use Rattle.text_lines_out.specs.declared.Table.{Table}
use Rattle.text_lines_out.specs.declared.Plan.{Plan}
use Rattle.text_lines_out.proofs.LineLaws.{run_plain}
use Rattle.text_runs_out.specs.Lines.{next_start, row_line, row_lines, start_past, itself, joined, placed_rows}

module _ (ws : List ℕ) (t : Table) where
  pub lines-append : (xs ys : List Row) (start : ℕ)
      → row_lines ws t (xs ++ ys) start ≡ row_lines ws t xs start ++ row_lines ws t ys (start_past ws t xs start)
  unfolding row_lines start_past
  lines-append [] ys start = refl
  lines-append (x ∷ xs) ys start =
      ap (λ (r : List (List ℕ)). row_line ws t x.number x.address start ∷ r) (lines-append xs ys (next_start (source_of ws t) start))

  pub joined-append : (xs ys : List Row) (start : ℕ)
      → joined (row_lines ws t (xs ++ ys) start)
      ≡ joined (row_lines ws t xs start) ++ joined (row_lines ws t ys (start_past ws t xs start))
  joined-append xs ys start =
      ap joined (lines-append xs ys start) ∙ flat_map-append itself (row_lines ws t xs start) (row_lines ws t ys (start_past ws t xs start))

  pub start-append : (xs ys : List Row) (start : ℕ) → start_past ws t (xs ++ ys) start ≡ start_past ws t ys (start_past ws t xs start)
  unfolding start_past
  start-append [] ys start = refl
  start-append (x ∷ xs) ys start = start-append xs ys (next_start (source_of ws t) start)

  pub lines_none : (start : ℕ) → row_lines ws t [] start ≡ []
  unfolding row_lines
  lines_none start = refl

  pub start_none : (start : ℕ) → start_past ws t [] start ≡ start
  unfolding start_past
  start_none start = refl

-- a run of rows, row by row
module _ (ws : List ℕ) (t : Table) (first : ℕ) (f : ℕ → Option ℕ) (k count start : ℕ) where
  abbrev now : List Row
  now = run_rows first f k (count - k)

  abbrev later : List Row
  later = run_rows first f (k + 1) (count - (k + 1))

  run-next : k < count → now ≡ row (first + k) (f k) ∷ later
  unfolding run_rows
  run-next h =
      let e : count - k ≡ suc (count - (k + 1)) = omega (arith, h) in
      ap (run_rows first f k) e
      ∙ ap (λ (j : ℕ). row (first + k) (f k) ∷ run_rows first f j (count - (k + 1))) (sym (add-one k))

  run-over : count ≤ k → now ≡ []
  unfolding run_rows
  run-over h = let e : count - k ≡ 0 = omega (arith, h) in ap (run_rows first f k) e

  pub run-lines : k < count
      → row_lines ws t now start ≡ row_line ws t (first + k) (f k) start ∷ row_lines ws t later (next_start (source_of ws t) start)
  unfolding row_lines
  run-lines h = ap (λ (rs : List Row). row_lines ws t rs start) (run-next h)

  pub run-start : k < count → start_past ws t now start ≡ start_past ws t later (next_start (source_of ws t) start)
  unfolding start_past
  run-start h = ap (λ (rs : List Row). start_past ws t rs start) (run-next h)

  pub run-lines-over : count ≤ k → row_lines ws t now start ≡ []
  unfolding row_lines
  run-lines-over h = ap (λ (rs : List Row). row_lines ws t rs start) (run-over h)

  pub run-start-over : count ≤ k → start_past ws t now start ≡ start
  unfolding start_past
  run-start-over h = ap (λ (rs : List Row). start_past ws t rs start) (run-over h)

-- THE ROWS OF A RECORD, as its two runs
module _ (ws : List ℕ) (at lines wraps done : ℕ) where
  pub record_other : (kind_at ws at ≡ 3 → ⊥) → (record_rows ws at lines wraps done ≡ []) × (record_done ws at lines wraps done ≡ done)
  unfolding record_rows record_done
  record_other n = let t = ne_eqb (kind_at ws at) 3 n in (rw t, rw t)

  module _ (k : kind_at ws at ≡ 3) (r : Plan) (p : Planned ws at lines wraps done r) where
    record_parts : record_rows ws at lines wraps done ≡ gap_rows ws at lines wraps done ++ own_rows ws at lines wraps done
    unfolding record_rows
    record_parts = rw (eq-eqb (kind_at ws at) 3 k)

    pub record_runs : record_rows ws at lines wraps done ≡ run_rows done (address_from false ws 0) 0 r.gap ++ rows_of ws r.own
    record_runs =
        record_parts
        ∙ ap₂ (λ (x y : List Row). x ++ y) (sym (run_plain done ws 0 r.gap ∙ ap (plain_rows done) p.gap)) (sym p.rows)

    pub record_past : r.done ≡ record_done ws at lines wraps done
    record_past = p.past ∙ sym past
      where
        past : record_done ws at lines wraps done ≡ done + (smaller (line_end (line_block_at ws at)) lines - done)
        past = unfold record_done in rw (eq-eqb (kind_at ws at) 3 k)

-- record by record
module _ (ws : List ℕ) (t : Table) (at done start : ℕ) where
  abbrev own : List Row
  own = record_rows ws at t.lines t.wraps done

  abbrev pub placed : ℕ → List Row
  placed p = placed_rows ws t.lines t.wraps done (heads ws p)

  pub placed-lines : (n d x : ℕ) → at < length ws → n ≡ at + 1 + length (body_at ws (at + 1)) → d ≡ record_done ws at t.lines t.wraps done
      → x ≡ start_past ws t own start
      → row_lines ws t (placed at) start
      ≡ row_lines ws t own start ++ row_lines ws t (placed_rows ws t.lines t.wraps d (heads ws n)) x
  unfolding placed_rows
  placed-lines n d x h e q z =
      let rs = placed_rows ws t.lines t.wraps d (heads ws n) in
      ap (λ (ps : List ℕ). row_lines ws t (placed_rows ws t.lines t.wraps done ps) start) (heads-next ws at n h e)
      ∙ ap (λ (m : ℕ). row_lines ws t (own ++ placed_rows ws t.lines t.wraps m (heads ws n)) start) (sym q)
      ∙ lines-append ws t own rs start ∙ ap (λ (y : ℕ). row_lines ws t own start ++ row_lines ws t rs y) (sym z)

  pub placed-over : length ws ≤ at → placed at ≡ run_rows done (address_from false ws 0) 0 (t.lines - done)
  unfolding placed_rows
  placed-over h =
      ap (placed_rows ws t.lines t.wraps done) (heads-end ws at h) ∙ sym (run_plain done ws 0 (t.lines - done))
