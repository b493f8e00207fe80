-- The rows that a walk over any words passes are those of a well formed object's line table. Assumes nothing.
use mathlib.Core.Path.{◌≡◌, refl, sym, ap, ap₂, subst, ◌∙◌}
use mathlib.Core.Bool.{false}
use mathlib.Core.List.{List, [], ◌∷◌, ◌++◌, flat_map}
use mathlib.Core.Option.{Option}
use Prim.Native.Nat.{ℕ, zero, suc, ◌+◌, ◌-◌, ◌%◌, ◌^◌, ◌≤◌, ◌<◌}
use native.Mathlib.Omega.{arith}
use lib.ListN.{length, drop, get_or}
use lib.Dec.{ltb, eqb}
use borrow.Author.Tests.{ltb-true, ltb-false, eqb-true, eqb-false}
use Rattle.format.specs.ObjectFile.{LineBlock, line_end}
use Rattle.format.specs.Source.{line_count}
use Rattle.format.specs.TextWriter.{Row}
use Rattle.format.specs.Calls.{checked}
use Rattle.format.proofs.ListLaws.{by_test, flat_map-append}
use Rattle.writing.specs.Written.{Put}
use Rattle.object.specs.Bodies.{body_at}
use Rattle.object.specs.Access.{kind_at, line_block_at}
use Rattle.measuring.specs.Fitting.{fitting}
use Rattle.measuring.proofs.FittingLaws.{all-put}
use Rattle.text_parts_out.specs.Parts.{heads}
use Rattle.text_lines_out.specs.Merge.{smaller, walk_from}
use Rattle.text_lines_out.specs.Lines.{At, Next, rows_text}
use Rattle.std.specs.Prelude.{Some}
use Rattle.text_lines_out.specs.Runs.{addresses_of, address_from, run_rows, source_of, rows_of, Planned}
use Rattle.text_lines_out.specs.Walk.{Follows, record_rows, record_done, walk_rows, line_blocks_in}
use Rattle.text_lines_out.specs.declared.Table.{Table}
use Rattle.text_lines_out.specs.declared.Plan.{Plan}
use Rattle.text_lines_out.proofs.LineLaws.{Passing, pass_on, next_newline, next-end, passing_start, at_next, row_is, block_size, block_run}
use Rattle.text_lines_out.proofs.BlockLaws.{
  rows_append,
  rows_none,
  record_other,
  gap-fits,
  own_fits,
  gap_passed,
  own_passed,
  two_runs,
  Walking,
  walking_start,
  walking_low,
  walking_end,
  others,
  walking_follows,
  walking_rows,
  walking_on,
  walk_rows_lem,
}
use Rattle.text_runs_out.specs.Lines.{past_line, next_start, row_lines, start_past, itself, joined, placed_rows}
use Rattle.text_runs_out.proofs.StartLaws.{past-on, past-here, past_end}
use Rattle.text_runs_out.proofs.RunLaws.{joined-append, start-append, lines_none, start_none, record_runs, placed-lines, placed-over}
use Rattle.text_escape.specs.Escaped.{escaped_in}
use Rattle.text_escape.specs.Rows.{line_line}
use Rattle.word_chars.proofs.CharLaws.{size_is}
use Rattle.text_write.specs.Layouts.{Past}

-- WHERE THE NEXT LINE STARTS
module _ (s : List ℕ) (start : ℕ) (few : length s + 1 < 2 ^ 64) where
  abbrev cap : ℕ → ℕ
  cap x = smaller x (2 ^ 64 - 1)

  capped : (x : ℕ) → x ≤ length s + 1 → x ≡ cap x
  capped x h = omega (arith, h, few)

  next-step : (i : ℕ) → i ≤ length s → Passing s start i
      → (i < length s → Passing s start (i + 1) → Next s start (cap (past_line (i + 1) (drop (i + 1) s))))
      → Next s start (cap (past_line i (drop i s)))
  next-step i b p again =
      by_test (ltb i (length s))
      (λ t. let l = ltb-true i (length s) t in
      by_test (eqb (get_or s i 0) 10)
      (λ q. let e = eqb-true (get_or s i 0) 10 q in
      subst (Next s start) (capped (i + 1) (omega (arith, l)) ∙ ap cap (sym (past-here s i l e))) (next_newline s start i p l e))
      (λ q. let n = eqb-false (get_or s i 0) 10 q in
      subst (λ (x : ℕ). Next s start (cap x)) (sym (past-on s i l n)) (again l (pass_on s start i p l n))))
      (λ t. let l = ltb-false i (length s) t in
      let z : length s + 1 ≡ i + 1 = omega (arith, l, b) in
      subst (Next s start) (capped (length s + 1) (omega arith) ∙ ap cap (z ∙ sym (past_end s i l))) (next-end s start i p l))

  next-from : (d i : ℕ) → length s - i ≤ d → i ≤ length s → Passing s start i → Next s start (cap (past_line i (drop i s)))
  next-from zero i h b p = next-step i b p (λ l q. absurd (omega (arith, h, l)))
  next-from (suc d) i h b p = next-step i b p (λ l q. next-from d (i + 1) (omega (arith, h, l)) (omega (arith, l)) q)

  next_is : Next s start (next_start s start)
  unfolding next_start
  next_is =
      by_test (ltb start (length s))
      (λ t. let l = ltb-true start (length s) t in
      rw t (next-from (length s) start (omega arith) (omega (arith, l)) (passing_start s start)))
      (λ t. let l = ltb-false start (length s) t in
      rw t (subst (Next s start) (capped (length s + 1) (omega arith)) (next-end s start start (passing_start s start) l)))

-- ROWS WITH NUMBERS ONE AFTER THE OTHER
abbrev Numbered : ℕ → List Row → Type 0
Numbered m [] = Unit {0}
Numbered m (r ∷ rs) = (r.number ≡ m) × Numbered (m + 1) rs

run_numbered : (first : ℕ) (f : ℕ → Option ℕ) (k n m : ℕ) → m ≡ first + k → Numbered m (run_rows first f k n)
unfolding run_rows
run_numbered first f k zero m e = tt
run_numbered first f k (suc n) m e = (sym e, run_numbered first f (suc k) n (m + 1) (omega (arith, e)))

run_length : (first : ℕ) (f : ℕ → Option ℕ) (k n : ℕ) → length (run_rows first f k n) ≡ n
unfolding run_rows
run_length first f k zero = refl
run_length first f k (suc n) = ap suc (run_length first f (suc k) n)

module _ (ws : List ℕ) (t : Table) (few : t.n + 1 < 2 ^ 64) where
  abbrev s : List ℕ
  s = source_of ws t

  abbrev Reads : List Row → ℕ → ℕ → Type 0
  Reads rows m start = (joined (row_lines ws t rows start) ≡ rows_text t.width s rows) × At s m (start_past ws t rows start)

  follows : (start : ℕ) → Next s start (next_start s start)
  follows start = next_is s start (let z = size_is ws t.text t.n in omega (arith, few, z))

  rows-read : (rows : List Row) (m start : ℕ) → Numbered m rows → m + length rows ≤ 2 ^ 64 → At s m start → Reads rows (m + length rows) start
  unfolding row_lines start_past flat_map rows_text
  rows-read [] m start q h a = let e : m ≡ m + 0 = omega arith in (refl, subst (λ (k : ℕ). At s k start) e a)
  rows-read (r ∷ rs) m start q h a =
      let on : ℕ = next_start s start in
      let next = follows start in
      let b : At s r.number start = subst (λ (k : ℕ). At s k start) (sym q.0) a in
      let z : r.number % 2 ^ 64 ≡ r.number = omega (arith, q.0, h) in
      let one = row_is ws t.text t.n t.width r.number start on (smaller on t.n) r.address b next refl in
      let ih = rows-read rs (m + 1) on q.1 (omega (arith, h)) (at_next s m start on a next) in
      let e : m + 1 + length rs ≡ m + length (r ∷ rs) = omega arith in (
        ap (λ (k : ℕ). line_line t.width k r.address (escaped_in ws t.text start (smaller on t.n)) ++ joined (row_lines ws t rs on)) z
            ∙ ap₂ (λ (x y : List ℕ). x ++ y) one ih.0
            ∙ sym (rows_append t.width s (r ∷ []) rs),
        subst (λ (k : ℕ). At s k (start_past ws t rs on)) e ih.1,
      )

  pub run-read : (first : ℕ) (f : ℕ → Option ℕ) (n start : ℕ) → first + n ≤ 2 ^ 64 → At s first start
      → Reads (run_rows first f 0 n) (first + n) start
  run-read first f n start h a =
      let l = run_length first f 0 n in
      let r = rows-read (run_rows first f 0 n) first start (run_numbered first f 0 n first (omega arith)) (omega (arith, h, l)) a in
      (r.0, subst (λ (k : ℕ). At s (first + k) (start_past ws t (run_rows first f 0 n) start)) l r.1)

  none_read : (rows : List Row) (start : ℕ) → rows ≡ [] → joined (row_lines ws t rows start) ≡ rows_text t.width s rows
  unfolding flat_map
  none_read rows start e =
      ap (λ (rs : List Row). joined (row_lines ws t rs start)) e ∙ ap joined (lines_none ws t start) ∙ sym (rows_none t.width s)
      ∙ sym (ap (rows_text t.width s) e)

  -- A RECORD
  module _ (counted : t.lines ≡ line_count s) (lines : t.lines < 2 ^ 64) (wraps : t.wraps < 2 ^ 64) where
    module _ (at done : ℕ) where
      abbrev block : LineBlock
      block = line_block_at ws at

      abbrev kept : ℕ
      kept = smaller (length (body_at ws (at + 1 + 3))) (2 ^ 64 - block.first)

      abbrev skip : ℕ
      skip = smaller (t.wraps - block.first) kept

      abbrev plan : Plan
      plan = record {
        gap = smaller block.first t.lines - done;
        own = record {
          first = t.wraps + (block.first - t.wraps);
          count = kept - skip;
          place = Some (at + 1 + 3 + skip);
        };
        done = done + (smaller (line_end block) t.lines - done);
      }

      planned : Planned ws at t.lines t.wraps done plan
      planned = record {
        gap = refl;
        first = refl;
        size = block_size ws at t.wraps skip kept refl refl;
        rows = block_run ws at t.wraps skip kept refl refl (t.wraps + (block.first - t.wraps)) refl;
        past = refl;
      }

      abbrev own : List Row
      own = record_rows ws at t.lines t.wraps done

      record_read : (start : ℕ) → Follows ws at t.lines t.wraps done → At s done start
          → Reads own (record_done ws at t.lines t.wraps done) start
      record_read start fs a =
          by_test (eqb (kind_at ws at) 3)
          (λ q. let k = eqb-true (kind_at ws at) 3 q in
          let g = run_rows done (address_from false ws 0) 0 plan.gap in
          let o = rows_of ws plan.own in
          let two = record_runs ws at t.lines t.wraps done k plan planned in
          let r1 = run-read done (address_from false ws 0) plan.gap start
          (gap-fits ws at t.lines t.wraps done k fs lines wraps plan planned s counted) a in
          let x : ℕ = start_past ws t g start in
          let r2 = run-read plan.own.first (addresses_of plan.own.place ws) plan.own.count x
          (own_fits ws at t.lines t.wraps done k fs lines wraps plan planned s counted)
          (gap_passed ws at t.lines t.wraps done k fs lines wraps plan planned s counted x r1.1) in
          let y : ℕ = start_past ws t o x in
          let z : start_past ws t own start ≡ y = ap (λ (rs : List Row). start_past ws t rs start) two ∙ start-append ws t g o start in (
            ap (λ (rs : List Row). joined (row_lines ws t rs start)) two ∙ joined-append ws t g o start
                ∙ ap₂ (λ (u v : List ℕ). u ++ v) r1.0 r2.0
                ∙ sym (two_runs ws at t.lines t.wraps done k fs lines wraps plan planned s counted t.width),
            subst (At s (record_done ws at t.lines t.wraps done)) (sym z)
                (own_passed ws at t.lines t.wraps done k fs lines wraps plan planned s counted y r2.1),
          ))
          (λ q. let o = record_other ws at t.lines t.wraps done (eqb-false (kind_at ws at) 3 q) in (
            none_read own start o.0,
            subst (λ (m : ℕ). At s m (start_past ws t own start)) (sym o.1)
                (subst (At s done) (sym (ap (λ (rs : List Row). start_past ws t rs start) o.0 ∙ start_none ws t start)) a),
          ))

    -- THE WALK
    over : (at done start : ℕ) (ls : List LineBlock) → length ws ≤ at → Walking ws s t.lines t.wraps at done start ls
        → joined (row_lines ws t (placed_rows ws t.lines t.wraps done (heads ws at)) start)
        ≡ rows_text t.width s (walk_from t.lines t.wraps done ls)
    over at done start ls h g =
        let low = walking_low ws s t.lines t.wraps at done start ls g in
        ap (λ (rs : List Row). joined (row_lines ws t rs start)) (placed-over ws t at done start h)
        ∙ (run-read done (address_from false ws 0) (t.lines - done) start (omega (arith, lines, low)) g.here).0
        ∙ sym (walking_end ws s t.lines t.wraps at done start ls g t.width h)

    placed-read : (n at done start : ℕ) (ls : List LineBlock) → length ws - at ≤ n → Walking ws s t.lines t.wraps at done start ls
        → joined (row_lines ws t (placed_rows ws t.lines t.wraps done (heads ws at)) start)
        ≡ rows_text t.width s (walk_from t.lines t.wraps done ls)
    placed-read zero at done start ls h g = over at done start ls (omega (arith, h)) g
    placed-read (suc n) at done start ls h g =
        by_test (ltb at (length ws))
        (λ q. let l = ltb-true at (length ws) q in
        let d : ℕ = record_done ws at t.lines t.wraps done in
        let rows = record_rows ws at t.lines t.wraps done in
        let x : ℕ = start_past ws t rows start in
        let on : ℕ = at + 1 + length (body_at ws (at + 1)) in
        let r = record_read at done start (walking_follows ws s t.lines t.wraps at done start ls g l) g.here in
        let new = others ws s t.lines t.wraps at done start ls g l in
        let past = placed_rows ws t.lines t.wraps d (heads ws on) in
        ap joined (placed-lines ws t at done start on d x l refl refl refl)
        ∙ flat_map-append itself (row_lines ws t rows start) (row_lines ws t past x)
        ∙ ap₂ (λ (u v : List ℕ). u ++ v) r.0
        (placed-read n on d x new (omega (arith, h, l)) (walking_on ws s t.lines t.wraps at done start ls g l on d x refl refl r.1))
        ∙ sym (walking_rows ws s t.lines t.wraps at done start ls g l t.width d refl))
        (λ q. over at done start ls (ltb-false at (length ws) q) g)

    module _ (e : checked ws ≡ 0) (from start : ℕ) (p : Past ws from) (a : At s (smaller t.wraps t.lines) start) where
      abbrev done₀ : ℕ
      done₀ = smaller t.wraps t.lines

      pub records_read : joined (row_lines ws t (placed_rows ws t.lines t.wraps done₀ (heads ws from)) start)
          ≡ rows_text t.width s (walk_rows ws t.lines t.wraps)
      records_read =
          let w = walking_start ws s t.lines t.wraps done₀ start e refl a in
          placed-read (length ws) from done₀ start (line_blocks_in ws) (omega arith)
          (record { past = w.past; left = p.0; apart = w.apart; done_is = w.done_is; here = w.here })
          ∙ ap (rows_text t.width s) (walk_rows_lem ws t.lines t.wraps done₀ refl)

-- all of them written, where there is room
pub lines-put : (xs : List (List ℕ)) {whole : List ℕ} (room after : List ℕ) (r : ℕ) → joined xs ≡ whole → length whole ≤ length room
    → Put (fitting itself (length room) xs) room r after → Put whole room r after
lines-put xs room after r e h p =
    subst (λ (x : List ℕ). Put x room r after) e (all-put itself xs room after r (omega (arith, h, ap length e)) p)
