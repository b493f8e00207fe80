-- Record by record. Assumes nothing.
use native.Mathlib.Omega.{arith}
use mathlib.Core.Path.{ap}
use mathlib.Core.List.{List}
use Prim.Native.Nat.{ℕ, ◌+◌, ◌-◌, ◌^◌, ◌<◌}
use lib.ListN.{length}
use Rattle.writing.proofs.Parts.{Emits, after, emitted, small}
use Rattle.measuring.specs.Fitting.{fitting}
use Rattle.measuring.proofs.FittingLaws.{fill_begin, fill_one}
use Rattle.text_parts_out.specs.Parts.{heads, link_text}
use Rattle.text_parts_out.proofs.HeadLaws.{heads-end, heads-next}
use Rattle.text_parts_out.proofs.put_relocations.Goals as goal
use Rattle.text_parts_out.proofs.put_relocations.Goals.{After-put_relocation-n}

abbrev ws : (c : After-put_relocation-n) → List ℕ
ws c = c.args.ws.now

abbrev room : (c : After-put_relocation-n) → List ℕ
room c = c.args.out.now

abbrev at : (c : After-put_relocation-n) → ℕ
at c = c.loop-at.at

emits : (c : After-put_relocation-n) → Emits (fitting (link_text (ws c)) (length (room c)) (heads (ws c) c.args.from)) (room c)
    (fitting (link_text (ws c)) (length (room c) - (c.loop-at.n + c.put_relocation-n.result)) (heads (ws c) c.body_end-end.result))
    (after (record { at = c.loop-at.n; out = c.loop-at.out }) c.put_relocation-n.result c.put_relocation-n.new.out)
emits c =
    fill_one c.loop-at.invariant (link_text (ws c)) (at c) (heads (ws c) c.body_end-end.result) c.put_relocation-n.new.out
    c.put_relocation-n.result
    (ap (fitting (link_text (ws c)) (length (room c) - c.loop-at.n))
    (heads-next (ws c) (at c) c.body_end-end.result c.loop-at-test.true c.body_end-end.ensures))
    c.put_relocation-n.ensures

tight : (c : After-put_relocation-n) → length (room c) < 2 ^ 64
tight c = omega arith

pub loop-at-init : goal.loop-at-init
loop-at-init c =
    let a = c.args in fill_begin (link_text a.ws.now) (heads a.ws.now a.from) a.out.now

pub returns : goal.returns
unfolding fitting
returns c =
    let o = c.loop-at in
    let a = c.args in
    emitted o.invariant
    (ap (fitting (link_text a.ws.now) (length a.out.now - o.n)) (heads-end a.ws.now o.at c.loop-at-test.false))

pub overflow_add-n : goal.overflow_add-n
overflow_add-n c = small (emits (goal.at.overflow_add-n c).After-put_relocation-n) (tight (goal.at.overflow_add-n c).After-put_relocation-n)

pub loop-at-preserved : goal.loop-at-preserved
loop-at-preserved c = emits (goal.at.loop-at-preserved c).After-put_relocation-n
