-- A window a turn. Assumes nothing.
use native.Mathlib.Omega.{arith}
use mathlib.Core.Path.{◌≡◌, refl, sym, ap, subst, ◌∙◌}
use mathlib.Core.List.{List}
use Prim.Native.Nat.{ℕ, ◌+◌, ◌-◌}
use lib.ListN.{length, take}
use Rattle.gather.specs.Order.{HandsOut}
use Rattle.writing.proofs.Parts.{Emits, after, emitted, small}
use Rattle.measuring.specs.Fitting.{fitting}
use Rattle.measuring.proofs.FittingLaws.{fill_begin, fill_more}
use Rattle.label_order.specs.Order.{left}
use Rattle.format.specs.Sorted.{sorted}
use Rattle.label_order.specs.Labels.{label_places, label_key}
use Rattle.label_order.specs.declared.By.{By}
use Rattle.label_tables.proofs.HandedLaws.{handed_long, handed_less}
use Rattle.label_tables.specs.Tables.{line_of}
use Rattle.label_windows.specs.Fits.{places_of}
use Rattle.label_windows.proofs.FitLaws.{handed_places, handed_over, nothing-fits}
use Rattle.label_windows.proofs.put_windows.Goals as goal
use Rattle.label_windows.proofs.put_windows.Goals.{After-put_rows-at}

abbrev ws : (w : After-put_rows-at) → List ℕ
ws w = w.args.ws.now

abbrev places : (w : After-put_rows-at) → List ℕ
places w = left (ws w) w.loop-win.labels

abbrev others : (w : After-put_rows-at) → List ℕ
others w = left (ws w) w.next_window-n.new.self

abbrev n : (w : After-put_rows-at) → ℕ
n w = w.next_window-n.result

abbrev win : (w : After-put_rows-at) → List ℕ
win w = w.next_window-n.new.win

handed : (w : After-put_rows-at) → HandsOut (places w) w.loop-win.win (win w) (n w) (others w)
handed w = w.next_window-n.ensures

long : (w : After-put_rows-at) → length (win w) ≡ length w.loop-win.win
long w = handed_long (places w) w.loop-win.win (win w) (others w) (n w) (handed w)

abbrev line : (w : After-put_rows-at) → ℕ → List ℕ
line w = line_of w.args.t (ws w)

emits : (c : After-put_rows-at) → Emits (fitting (line c) (length c.args.out.now) (places_of c.args.t (ws c))) c.args.out.now
    (fitting (line c) (length c.args.out.now - (c.loop-win.at + c.put_rows-at.result)) (others c))
    (after (record { at = c.loop-win.at; out = c.loop-win.out }) c.put_rows-at.result c.put_rows-at.new.out)
emits c =
    fill_more c.loop-win.invariant.1 (line c) (take (n c) (win c)) (others c) c.put_rows-at.new.out c.put_rows-at.result
    (ap (fitting (line c) (length c.args.out.now - c.loop-win.at))
    (handed_places (places c) c.loop-win.win (win c) (others c) (n c) (handed c)))
    c.put_rows-at.ensures

pub loop-win-init : goal.loop-win-init
loop-win-init c =
    let ws = c.args.ws.now in
    let line = line_of c.args.t ws in
    let all = places_of c.args.t ws in
    let out = c.args.out.now in
    let e : left ws c.new-labels.result ≡ all =
    c.new-labels.ensures ∙ ap (λ (b : By). sorted (label_key b ws) (label_places ws)) c.order.ensures in (
      refl,
      subst (λ l. Emits (fitting line (length out) all) out (fitting line (length out - 0) l) (record { at = 0; out = out }))
          (sym e) (fill_begin line all out),
    )

pub overflow_add-at : goal.overflow_add-at
overflow_add-at c = small (emits (goal.at.overflow_add-at c).After-put_rows-at) (omega arith)

pub returns-then-n-win : goal.returns-then-n-win
returns-then-n-win c =
    let w = (goal.at.returns-then-n-win c).After-put_rows-at in
    let room : ℕ = length c.args.out.now - (c.loop-win.at + c.put_rows-at.result) in
    emitted (emits w)
    (ap (fitting (line w) room)
    (handed_over (places w) c.loop-win.win (win w) (others w) (n w) (handed w) (omega (arith, long w, c.if-n-win.true)))
    ∙ nothing-fits (line w) room)

pub loop-win-smaller : goal.loop-win-smaller
loop-win-smaller c =
    let w = (goal.at.loop-win-smaller c).After-put_rows-at in
    handed_less (places w) c.loop-win.win (win w) (others w) (n w) (handed w)
    (omega (arith, long w, c.if-n-win.false, c.loop-win.invariant.0, c.requires))

pub loop-win-preserved : goal.loop-win-preserved
loop-win-preserved c =
    let w = (goal.at.loop-win-preserved c).After-put_rows-at in
    (long w ∙ c.loop-win.invariant.0, emits w)
