-- The line is blank from the place on. Assumes nothing.
use native.Mathlib.Omega.{arith}
use mathlib.Core.Path.{◌≡◌, sym, ap, ◌∙◌}
use mathlib.Core.Bool.{true}
use mathlib.Core.List.{List}
use Prim.Native.Nat.{ℕ, ◌-◌, ◌≤◌, ◌<◌}
use lib.ListN.{length, drop, length-drop}
use Rattle.trim.proofs.TrimLaws.{blank_at, blank_end, back_stop, back_on}
use Rattle.object.specs.Texts.{text_bytes}
use Rattle.word_chars.proofs.CharLaws.{size_is}
use Rattle.line_spans.proofs.white_end.Lts as lts
use Rattle.line_spans.proofs.white_end.Reads as reads
use Rattle.line_spans.proofs.white_end.Tie as tie
use Rattle.line_spans.proofs.white_end.Goals as goal

abbrev Else1 : Type 0
Else1 = lts.Else1 tie.the-claims reads.Pre reads.Post goal.the-invariant-loop-at goal.the-decreases-loop-at

abbrev Start : Type 0
Start = lts.Start tie.the-claims reads.Pre reads.Post goal.the-invariant-loop-at goal.the-decreases-loop-at

abbrev line : (s : Start) → List ℕ
line s = drop s.args.start (text_bytes s.args.ws.now s.args.at s.args.end)

size : (s : Start) → length (line s) ≡ s.args.end - s.args.start
size s =
    length-drop s.args.start (text_bytes s.args.ws.now s.args.at s.args.end)
    ∙ ap (λ n. n - s.args.start) (size_is s.args.ws.now s.args.at s.args.end)

abbrev p : (c : Else1) → ℕ
p c = c.loop-at.p

abbrev n : (c : Else1) → ℕ
n c = c.white_before-n.result

some : (c : Else1) → 0 < (n c)
some c = omega (arith, c.if-n-eq0.false)

back : (c : Else1) → ((n c) ≤ (p c) - c.args.start) × (blank_at (line c.before.before.before.before) ((p c) - c.args.start - (n c)) ≡ true)
back c =
    let i : (p c) - c.args.start ≤ length (line c.before.before.before.before) = omega (arith, size c.before.before.before.before, c.loop-at.invariant.1) in
    back_on (line c.before.before.before.before) ((p c) - c.args.start) i c.loop-at.invariant.2 (n c) c.white_before-n.ensures (some c)

pub loop-at-init : goal.loop-at-init
loop-at-init c =
    (c.requires.0, omega arith, ap (blank_at (line c.before.before)) (sym (size c.before.before)) ∙ blank_end (line c.before.before))

pub returns-then-n-eq0 : goal.returns-then-n-eq0
returns-then-n-eq0 c =
    let loop = c.loop-at in
    let i : loop.p - c.args.start ≤ length (line c.before.before.before.before.before) = omega (arith, size c.before.before.before.before.before, loop.invariant.1) in
    record {
      low = loop.invariant.0;
      high = loop.invariant.1;
      rest = back_stop (line c.before.before.before.before.before) (loop.p - c.args.start) i loop.invariant.2 (sym c.if-n-eq0.true ∙ c.white_before-n.ensures);
    }

pub loop-at-preserved : goal.loop-at-preserved
loop-at-preserved c =
    let inv = c.loop-at.invariant in
    let e : p c.before - n c.before - c.args.start ≡ p c.before - c.args.start - n c.before = omega arith in
    (omega (arith, (back c.before).0, inv.0), omega (arith, inv.1), ap (blank_at (line c.before.before.before.before.before)) e ∙ (back c.before).1)

pub overflow_sub-p : goal.overflow_sub-p
overflow_sub-p c = omega (arith, (back c.before).0)

pub loop-at-smaller : goal.loop-at-smaller
loop-at-smaller c = omega (arith, (back c.before).0, some c.before)
