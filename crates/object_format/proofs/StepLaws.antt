-- A write and a read of either form make a step. Assumes nothing.
use mathlib.Core.Path.{◌≡◌, refl, sym, subst}
use mathlib.Core.Bool.{Bool, true, false}
use mathlib.Core.List.{List, ◌++◌}
use Prim.Native.Nat.{ℕ, ◌≤◌}
use native.Mathlib.Omega.{arith}
use lib.ListN.{length, drop, length-append}
use lib.Seq.{length-take-le}
use lib.Dec.{leb}
use Rattle.std.specs.Prelude.{if◌then◌else◌}
use Rattle.format.specs.Basics.{Outcome, refused, given}
use Rattle.format.specs.Calls.{Filled, fill}
use Rattle.format.specs.Trips.{Form, binary, text, Writes, Reads, filled_part, write_refused, read-refused, completed, IsSlice}
use Rattle.std.specs.Prelude.{Ok, Err}
use Rattle.units.specs.declared.refusal.Refusal.{Refusal}
use Rattle.units.specs.Refusal.{number_of, filled_of}
use Rattle.units.proofs.RefusalLaws.{number_of-above}
use Rattle.object_format.specs.TripSteps.{Made, len_in, Step, Counted}

pub counted : (n : ℕ) (xs : List ℕ) → n ≤ length xs → Counted n xs
counted n xs h = (h, sym (length-take-le n xs h))

-- the length filled is within the buffer
abbrev Within : Filled → Type 0
Within r = r.len ≤ length r.buffer

fill-within : (o : Outcome (List ℕ)) (buffer : List ℕ) → Within (fill o buffer)
unfolding fill
fill-within (refused n) buffer = omega arith
fill-within (given out) buffer = go (leb (length out) (length buffer))
  where
    go : (b : Bool)
        → Within (if b then record { number = 0; len = length out; buffer = out ++ drop (length out) buffer }
        else record { number = 3; len = 0; buffer = buffer })
    go true = simp length-append (omega arith)
    go false = omega arith

pub write_within : (f : Form) (ws bytes : List ℕ) (w : Filled) → Writes f ws bytes w → w.len ≤ length w.buffer
write_within binary ws bytes w (ls, rs, o, e) = subst Within (sym e) (fill-within _ bytes)
write_within text ws bytes w e = subst Within (sym e) (fill-within _ bytes)

read-within : (f : Form) (bs words : List ℕ) (r : Filled) → Reads f bs words r → r.len ≤ length r.buffer
read-within binary bs words r e = subst Within (sym e) (fill-within _ words)
read-within text bs words r e = subst Within (sym e) (fill-within _ words)

-- no refusal has number 0
refused_above : (r : Refusal) → ¬ (number_of r ≡ 0)
refused_above r e = omega (arith, number_of-above r, e)

module _ (f : Form) (ws bytes words : List ℕ) (slice : IsSlice ws) where
  -- "If either refuses, its number is the trip's, and the holding stands as before": the write
  pub stopped :
      (e : Refusal) (out : List ℕ) → Writes f ws bytes (filled_of (Err e) out)
      → Step f ws bytes words (Err e) words × Counted 0 words
  stopped e out wrote = (
    record { is_slice = slice; made = write_refused (filled_of (Err e) out) wrote (refused_above e) },
    counted 0 words (omega arith),
  )

  -- the read, whatever it gives
  pub went_on :
      (n : ℕ) (out : List ℕ) → Writes f ws bytes (filled_of (Ok n) out) → (r : Made) (after : List ℕ)
      → Reads f (filled_part (filled_of (Ok n) out)) words (filled_of r after)
      → Step f ws bytes words r after × Counted (len_in r) after
  went_on n out wrote (Ok len) after read = (
    record { is_slice = slice; made = completed (filled_of (Ok n) out) (filled_of (Ok len) after) wrote refl read refl },
    counted len after (read-within f _ words (filled_of (Ok len) after) read),
  )
  went_on n out wrote (Err e) after read = (
    record { is_slice = slice; made = read-refused (filled_of (Ok n) out) (filled_of (Err e) after) wrote refl read (refused_above e) },
    counted 0 after (omega arith),
  )
