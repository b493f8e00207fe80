-- By how the write ends: what is read is what it filled. Assumes nothing.
use Rattle.std.specs.Prelude.{Ok, Err}
use Rattle.std.proofs.Common.{rules, ◌≡◌}
use Rattle.units.specs.Refusal.{filled_of}
use Rattle.object_format.proofs.StepLaws.{counted, write_within, stopped, went_on}
use Rattle.object_format.specs.TripSteps.{Step, len_in, Counted}
use Rattle.object_format.proofs.trip_in.Given.{Over}
use Rattle.object_format.proofs.trip_in.Goals.{After-slice_known-4-1}
use Rattle.object_format.proofs.trip_in.Goals as goal

pub returns-in_err-n-clause-step : goal.returns-in_err-n-clause-step
returns-in_err-n-clause-step g c =
    let e : c.from_residual.result ≡ Err c.in_err-n.field-0.0 = search rules in
    rw e (stopped g.F.ObjectFormat.form _ _ _ c.well_formed.1.0.1 c.in_err-n.field-0.0 c.serialize.new.out c.in_err-n.ensures).0

pub slice_bounds-deserialize-end : goal.slice_bounds-deserialize-end
slice_bounds-deserialize-end g c =
    write_within g.F.ObjectFormat.form _ _ (filled_of (Ok c.in_ok-n.n) c.serialize.new.out) c.in_ok-n.ensures

pub slice_bounds-deserialize-end-2 : goal.slice_bounds-deserialize-end-2
slice_bounds-deserialize-end-2 g c = (counted _ _ (slice_bounds-deserialize-end g c)).1

went : (g : Over) (c : After-slice_known-4-1 g) → Step g.F.ObjectFormat.form c.args.object.now c.args.bytes.now c.args.words.now c.deserialize.result c.deserialize.new.out × Counted (len_in c.deserialize.result) c.deserialize.new.out
went g c = went_on g.F.ObjectFormat.form _ _ _ c.well_formed.1.0.1 c.in_ok-n.n c.serialize.new.out c.in_ok-n.ensures c.deserialize.result c.deserialize.new.out c.deserialize.ensures

pub returns-clause-step : goal.returns-clause-step
returns-clause-step g c = (went g c).0

pub returns-clause-prefix_len : goal.returns-clause-prefix_len
returns-clause-prefix_len g c = (went g c).1
