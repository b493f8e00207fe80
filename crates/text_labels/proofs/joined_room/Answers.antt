use mathlib.Core.Path.{refl, sym, ap, ◌∙◌}
use mathlib.Core.List.{map}
use native.Mathlib.Omega.{arith}
use lib.ListN.{length}
use Rattle.format.specs.Records.{label}
use Rattle.format.specs.Words.{record_words}
use Rattle.text_labels.specs.declared.Stream.{Stream}
use Rattle.text_labels.specs.Labels.{labels_of, left_in, stepped}
use Rattle.text_labels.proofs.JoinLaws.{own, some_left}
use Rattle.text_labels.proofs.RoomLaws.{Measuring, measuring_begin, measured, measure_end, measure_symbol, measure_start, measure_less, measure_short, measure_on}
use Rattle.text_labels.proofs.joined_room.Goals as goal
use Rattle.text_labels.proofs.joined_room.Goals.{After-refill-d}

after : (c : After-refill-d) → let a = c.args in
    Measuring a.t.now (map record_words (map label (labels_of a.t.now))) a.room c.loop-x.left a.symbols.now c.refill-s.new.win a.starts.now c.refill-d.new.win
    c.refill-s.result c.refill-d.result
after c =
    measured _ _ _ _ _ _ _ _ _ _ _ _ _ _ c.loop-x.invariant c.refill-s.ensures c.refill-d.ensures c.refill-s.auto.win c.refill-d.auto.win

pub loop-x-init : goal.loop-x-init
loop-x-init c =
    let a = c.all_rows-s.ensures in
    let b = c.all_rows-d.ensures in
    measuring_begin _ _ _ _ _ _ a.1 b.1 a.0 b.0

pub refill-s-requires : goal.refill-s-requires
refill-s-requires c =
    let l = c.loop-x in
    (omega (arith, c.requires.0, l.invariant.long_symbols), own 1 _ _ l.invariant.symbols)

pub refill-d-requires : goal.refill-d-requires
refill-d-requires c =
    let l = c.loop-x in
    (omega (arith, c.requires.1, l.invariant.long-starts), own 3 _ _ l.invariant.starts)

pub place_at-p-requires : goal.place_at-p-requires
place_at-p-requires c = (after (goal.at.place_at-p-requires c).After-refill-d).symbols.inside

pub place_at-q-requires : goal.place_at-q-requires
place_at-q-requires c = (after (goal.at.place_at-q-requires c).After-refill-d).starts.inside

pub shape_of-symbols-in_default : goal.shape_of-symbols-in_default
shape_of-symbols-in_default c = (after (goal.at.shape_of-symbols-in_default c).After-refill-d).long_symbols

pub shape_of-starts-in_default : goal.shape_of-starts-in_default
shape_of-starts-in_default c = (after (goal.at.shape_of-starts-in_default c).After-refill-d).long-starts

pub returns-in_default : goal.returns-in_default
returns-in_default c =
    measure_end _ _ _ _ _ _ _ _ _ _ _ _ _ _ c.loop-x.invariant c.refill-s.ensures c.refill-d.ensures c.refill-s.auto.win c.refill-d.auto.win
    _ _ c.place_at-p.ensures c.place_at-q.ensures _ c.in_default.ensures refl

pub returns-in_err-left : goal.returns-in_err-left
returns-in_err-left c =
    rw c.from_residual.ensures
    (measure_short _ _ _ _ _ _ _ _ _ _ _ _ _ _ c.loop-x.invariant c.refill-s.ensures c.refill-d.ensures c.refill-s.auto.win c.refill-d.auto.win
    _ _ c.place_at-p.ensures c.place_at-q.ensures _ c.in-Some.ensures (some_left c.in-Some.x) c.in_err-left.ensures)

pub step-s-requires : goal.step-s-requires
step-s-requires c = λ h.
    measure_symbol _ _ _ _ _ _ _ _ _ _ _ _ _ _ c.loop-x.invariant c.refill-s.ensures c.refill-d.ensures c.refill-s.auto.win c.refill-d.auto.win
    _ _ c.place_at-p.ensures c.place_at-q.ensures _ c.in-Some.ensures (sym c.has_symbol.ensures ∙ h)

pub step-d-requires : goal.step-d-requires
step-d-requires c = λ h.
    measure_start _ _ _ _ _ _ _ _ _ _ _ _ _ _ c.loop-x.invariant c.refill-s.ensures c.refill-d.ensures c.refill-s.auto.win c.refill-d.auto.win
    _ _ c.place_at-p.ensures c.place_at-q.ensures _ c.in-Some.ensures (sym c.has_start.ensures ∙ h)

pub loop-x-smaller : goal.loop-x-smaller
loop-x-smaller c =
    let t = c.args.t.now in
    let h = measure_less _ _ _ _ _ _ _ _ _ _ _ _ _ _ c.loop-x.invariant c.refill-s.ensures c.refill-d.ensures c.refill-s.auto.win c.refill-d.auto.win
    _ _ c.place_at-p.ensures c.place_at-q.ensures _ c.in-Some.ensures (some_left c.in-Some.x) in
    omega (arith, h, ap (λ (u : Stream). length (left_in 1 t c.refill-s.new.win u)) (c.step-s.ensures ∙ ap (stepped c.refill-s.result) c.has_symbol.ensures), ap (λ (u : Stream). length (left_in 3 t c.refill-d.new.win u)) (c.step-d.ensures ∙ ap (stepped c.refill-d.result) c.has_start.ensures))

pub loop-x-preserved : goal.loop-x-preserved
loop-x-preserved c =
    measure_on _ _ _ _ _ _ _ _ _ _ _ _ _ _ c.loop-x.invariant c.refill-s.ensures c.refill-d.ensures c.refill-s.auto.win c.refill-d.auto.win
    _ _ c.place_at-p.ensures c.place_at-q.ensures _ c.in-Some.ensures (some_left c.in-Some.x) _ _ _
    c.in_ok-left.ensures (c.step-s.ensures ∙ ap (stepped c.refill-s.result) c.has_symbol.ensures) (c.step-d.ensures ∙ ap (stepped c.refill-d.result) c.has_start.ensures)
