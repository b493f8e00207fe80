-- The program's two objects are fair, and what stands of each after a list, by computation. Assumes nothing.
use mathlib.Core.Path.{◌≡◌, refl}
use mathlib.Core.Bool.{Bool, true, false}
use mathlib.Core.List.{List, [], ◌∷◌}
use Prim.Native.Nat.{ℕ}
use native.Mathlib.Omega.{arith}
use Rattle.format.specs.Basics.{Outcome, refused, given, open-Basics}
use Rattle.format.specs.Digits.{open-Digits}
use Rattle.format.specs.Tokens.{open-Tokens}
use Rattle.format.specs.Sorted.{open-Sorted}
use Rattle.format.specs.Utf8.{open-Utf8}
use Rattle.format.specs.ObjectFile.{ObjectFile, open-ObjectFile}
use Rattle.format.specs.Records.{open-Records}
use Rattle.format.specs.Words.{object_of, open-Words}
use Rattle.format.specs.Source.{open-Source}
use Rattle.format.specs.Fair.{Fair, is_fair, open-Fair}
use Rattle.format.specs.Marked.{words18}
use Rattle.format.proofs.FairLaws.{test_fair}
use Rattle.round_trips.specs.Rows.{TripRow, Ran}
use Rattle.round_trips.proofs.ListLaws.{run_demand_3}

-- fair, as a test of what words give
abbrev gives_fair : Outcome ObjectFile → Bool
gives_fair (refused n) = false
gives_fair (given h) = is_fair h

fair_of_lem : (ws : List ℕ) → gives_fair (object_of ws) ≡ true → Fair ws
fair_of_lem ws t = go (object_of ws) refl t
  where
    go : (o : Outcome ObjectFile) → object_of ws ≡ o → gives_fair o ≡ true → Fair ws
    go (refused n) e u = let z : ◌≡◌ {A = ℕ} 0 1 = cc in absurd (omega arith)
    go (given h) e u = record { object = h; well_formed = e; parts = test_fair h u }

-- what stands after any list that `run` makes of words that are seen to be fair
stands_of : (ws : List ℕ) → gives_fair (object_of ws) ≡ true → (rs : List TripRow) (last : List ℕ) → Ran rs ws last → last ≡ ws
stands_of ws t rs last r = (run_demand_3 rs ws last r (fair_of_lem ws t)).1

-- PAPER
pub paper_stands : (rs : List TripRow) (last : List ℕ) → Ran rs (words18 0xA0000130) last → last ≡ words18 0xA0000130
unfolding open-Basics open-Digits open-Tokens open-Sorted open-Utf8 open-ObjectFile open-Records open-Words open-Source open-Fair
paper_stands = stands_of (words18 0xA0000130) refl

-- RELOCATED
abbrev pub relocated : List ℕ
relocated = 0x00004000 ∷ 0x2001F025 ∷ 0x80000000 ∷ 0xE2006968 ∷ 0xA0000130 ∷ 0xE1000041 ∷ 0xA0000201 ∷ 0xE2004342 ∷ []

pub relocated_stands : (rs : List TripRow) (last : List ℕ) → Ran rs relocated last → last ≡ relocated
unfolding open-Basics open-Digits open-Tokens open-Sorted open-Utf8 open-ObjectFile open-Records open-Words open-Source open-Fair
relocated_stands = stands_of relocated refl
