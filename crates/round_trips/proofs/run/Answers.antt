use native.Mathlib.Omega.{arith}
use mathlib.Core.Path.{refl, sym, subst}
use lib.ListN.{take}
use Rattle.round_trips.specs.Rows.{Ran}
use Rattle.round_trips.proofs.RunLaws.{ran_none, ran_append, map-more}
use Rattle.round_trips.proofs.run.Goals as goal

pub loop-trip_row-init : goal.loop-trip_row-init
loop-trip_row-init c = (refl, c.requires.prefix_len.0, ran_none (take c.args.n c.args.stands.now))

pub loop-trip_row-preserved : goal.loop-trip_row-preserved
loop-trip_row-preserved c =
    let l = c.loop-trip_row in (
      omega arith,
      c.next-m.ensures.prefix_len_2.0,
      subst (λ rs. Ran rs (take c.args.n c.args.stands.now) (take c.next-m.result c.next-m.new.stands))
          (sym (map-more c.args.list.now l.trip_row-index _ c.loop-trip_row-test.true)) (ran_append l.invariant.2 c.next-m.ensures.ran),
    )
