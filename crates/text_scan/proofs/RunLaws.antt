-- Kept runs, row by row: whether the run so far fell, and its last address. Assumes nothing.
use mathlib.Core.Path.{◌≡◌, refl, sym, ap, ◌∙◌}
use mathlib.Core.Bool.{Bool, true, false, ◌&&◌, ◌||◌, not}
use mathlib.Core.List.{List, [], ◌∷◌, ◌++◌, map}
use mathlib.Core.Option.{Option, none, some}
use Prim.Native.Nat.{ℕ, suc}
use native.Mathlib.Omega.{arith}
use lib.Dec.{leb, ltb}
use borrow.Author.Tests.{lt-ltb, le-ltb, leb-true, leb-false}
use Rattle.format.specs.Basics.{every, chain}
use Rattle.format.specs.ObjectFile.{LineBlock, ObjectFile, never_fall}
use Rattle.format.specs.TextReader.{runs_from}
use Rattle.text_lines.proofs.TestLaws.{by_test}
use Rattle.text_tables.specs.Debug.{line_view}
use Rattle.text_debug.specs.declared.Lines.{Lines}
use Rattle.text_debug.specs.declared.Runs.{Runs}
use Rattle.text_debug.specs.LineRuns.{address_in, run_on, run_end, runs_over, no_runs, runs_in}
use Rattle.text_debug.specs.DebugGroup.{line_blocks_in}
use Rattle.text_scan.specs.Walk.{blocks_rise, runs_rise, line_blocks_of, Lined}

-- a run's last address, 0 where it is empty
unfoldable last_of : List ℕ → ℕ
last_of [] = 0
last_of (a ∷ []) = a
last_of (a ∷ b ∷ run) = last_of (b ∷ run)

-- whether the kept runs rise, after a run that fell or not and ends in this address
unfoldable rises_from : Bool → ℕ → List (Option ℕ) → Bool
rises_from fell last [] = true
rises_from fell last (some a ∷ rows) = rises_from (fell || ltb a last) a rows
rises_from fell last (none ∷ rows) = not fell && rises_from false 0 rows

last_snoc : (run : List ℕ) (a : ℕ) → last_of (run ++ a ∷ []) ≡ a
unfolding last_of
last_snoc [] a = refl
last_snoc (x ∷ []) a = refl
last_snoc (x ∷ y ∷ run) a = last_snoc (y ∷ run) a

fall_on : (p c d l : Bool) → not d ≡ (not c || l) → not (p && d) ≡ (not (p && c) || l)
fall_on true c d l e = e
fall_on false c d l e = refl

falls_two : (x a : ℕ) → not (leb x a && true) ≡ ltb a x
falls_two x a =
    by_test (leb x a)
    (λ t. simp (t, le-ltb a x (leb-true x a t)))
    (λ t. simp (t, lt-ltb a x (leb-false x a t)))

fall_snoc : (run : List ℕ) (a : ℕ) → not (never_fall (run ++ a ∷ [])) ≡ (not (never_fall run) || ltb a (last_of run))
unfolding chain last_of
fall_snoc [] a = sym (le-ltb a 0 (omega arith))
fall_snoc (x ∷ []) a = falls_two x a
fall_snoc (x ∷ y ∷ run) a =
    fall_on (leb x y) (never_fall (y ∷ run)) (never_fall (y ∷ run ++ a ∷ [])) (ltb a (last_of (y ∷ run))) (fall_snoc (y ∷ run) a)

not-not : (b : Bool) → not (not b) ≡ b
not-not true = refl
not-not false = refl

rises : (i : ℕ) (run : List ℕ) (rows : List (Option ℕ))
    → every (λ l. never_fall l.addresses) (runs_from i run rows) ≡ rises_from (not (never_fall run)) (last_of run) rows
unfolding every runs_from rises_from last_of chain
rises i run [] = refl
rises i run (some a ∷ rows) =
    rises (suc i) (run ++ a ∷ []) rows
    ∙ ap (λ (b : Bool). rises_from b (last_of (run ++ a ∷ [])) rows) (fall_snoc run a)
    ∙ ap (λ (n : ℕ). rises_from (not (never_fall run) || ltb a (last_of run)) n rows) (last_snoc run a)
rises i [] (none ∷ rows) = rises (suc i) [] rows
rises i (a ∷ run) (none ∷ rows) =
    ap (λ (b : Bool). b && every (λ (l : LineBlock). never_fall l.addresses) (runs_from (suc i) [] rows))
    (sym (not-not (never_fall (a ∷ run))))
    ∙ ap (λ (b : Bool). not (not (never_fall (a ∷ run))) && b) (rises (suc i) [] rows)

rises_begin : (ls : List (List ℕ)) → rises_from false 0 (map address_in ls) ≡ runs_rise ls
unfolding blocks_rise line_blocks_in chain last_of
rises_begin ls = sym (rises 0 [] (map address_in ls))

and_true : (b : Bool) → b ≡ (b && true)
and_true true = refl
and_true false = refl

and_assoc : (a b c : Bool) → ((a && b) && c) ≡ (a && (b && c))
and_assoc true b c = refl
and_assoc false b c = refl

over_rise : (s : Runs) (rows : List (Option ℕ)) → (runs_over s rows).rise ≡ (s.rise && rises_from s.fell s.last rows)
unfolding runs_over run_on run_end rises_from
over_rise s [] = and_true s.rise
over_rise s (some a ∷ rows) = over_rise (run_on s a) rows
over_rise s (none ∷ rows) = over_rise (run_end s) rows ∙ and_assoc s.rise (not s.fell) (rises_from false 0 rows)

-- what a walk over the rows comes to
runs_rise_lem : (ls : List (List ℕ)) → (runs_in ls).rise ≡ runs_rise ls
runs_rise_lem ls = over_rise no_runs (map address_in ls) ∙ rises_begin ls

pub lined_rise : (t : List ℕ) (sourced : Bool) (rows : ℕ) (lines : Lines) (h : ObjectFile) → Lined t sourced rows lines h
    → (not sourced || lines.rise) ≡ blocks_rise h.line_blocks
unfolding line_blocks_of blocks_rise every
lined_rise t true rows lines h l = (l.makes refl).2 ∙ runs_rise_lem (line_view t rows).0 ∙ ap blocks_rise (sym l.blocks)
lined_rise t false rows lines h l = ap blocks_rise (sym l.blocks)
