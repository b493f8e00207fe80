-- A copy: what is left of the bytes is what is left to emit. Assumes nothing.
use mathlib.Core.Path.{◌≡◌, sym, ap, ◌∙◌}
use mathlib.Core.List.{◌∷◌}
use Prim.Native.Nat.{ℕ, ◌+◌}
use native.Mathlib.Omega.{arith}
use Rattle.writing.proofs.Parts.{begin, emit_one, room-one, emitted}
use Rattle.object.specs.Texts.{span_bytes}
use Rattle.object.proofs.ByteLaws.{bytes-here, bytes-end}
use Rattle.object.proofs.SpanLaws.{span-length}
use Rattle.object.proofs.put_each.Goals as goal
use Rattle.object.proofs.put_each.Goals.{After-text_byte}

abbrev i : (c : After-text_byte) → ℕ
i c = c.loop-i.i

next : (c : After-text_byte) →
    span_bytes c.args.ws.now c.args.at (i c) c.args.end
    ≡ c.text_byte.result ∷ span_bytes c.args.ws.now c.args.at ((i c) + 1) c.args.end
next c =
    let rest = span_bytes c.args.ws.now c.args.at ((i c) + 1) c.args.end in
    bytes-here c.args.ws.now c.args.at (i c) c.args.end c.loop-i-test.true
    ∙ ap (λ b. b ∷ rest) (sym c.text_byte.ensures)

pub loop-i-init : goal.loop-i-init
loop-i-init c =
    let c = c in
    let bs = span_bytes c.args.ws.now c.args.at c.args.start c.args.end in
    begin bs c.args.out.now
    (omega (arith, c.requires, span-length c.args.ws.now c.args.at c.args.start c.args.end))

pub bounds-out-n : goal.bounds-out-n
bounds-out-n c = room-one c.loop-i.invariant _ _ (next c)

pub loop-i-preserved : goal.loop-i-preserved
loop-i-preserved c = emit_one c.loop-i.invariant _ _ (next c)

pub returns : goal.returns
returns c = emitted c.loop-i.invariant (bytes-end _ _ _ _ c.loop-i-test.false)
