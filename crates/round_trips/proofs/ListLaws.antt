-- Every list of steps through the calls is a list of demand 3's, and falls under its theorem. Assumes nothing.
use mathlib.Core.Path.{refl}
use mathlib.Core.List.{List}
use Prim.Native.Nat.{ℕ}
use Rattle.format.specs.Fair.{Fair}
use Rattle.format.specs.Trips.{Trip, LogEntry, TripsMade, done, onward, ComesBack}
use Rattle.format.proofs.Demand3.{demand_3}
use Rattle.round_trips.specs.Steps.{StepsMade, none_left, one_more, CallsDemand3}
use Rattle.round_trips.specs.Rows.{TripRow, Ran}

pub trips-made : {ws last : List ℕ} {ts : List Trip} {es : List LogEntry} → StepsMade ws ts es last → TripsMade ws ts es last
trips-made none_left = done
trips-made (one_more s k) = onward s.made (trips-made k)

-- the first step says that the first object is a slice; the empty list needs no such fact
pub calls_demand_3 : CallsDemand3
calls_demand_3 ws f ts es last none_left = (tt, refl)
calls_demand_3 ws f ts es last (one_more s k) = demand_3 ws s.is_slice f ts es last (trips-made (one_more s k))

-- what `run` leaves of a fair object: itself
pub run_demand_3 : (rs : List TripRow) (ws last : List ℕ) (r : Ran rs ws last) → Fair ws → ComesBack ws r.log last
run_demand_3 rs ws last r f = calls_demand_3 ws f r.trips r.log last r.made
