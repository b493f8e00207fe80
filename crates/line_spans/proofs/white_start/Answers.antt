-- The rest from the place on has the same trimming as the whole line. Assumes nothing.
use native.Mathlib.Omega.{arith}
use mathlib.Core.Path.{sym, ◌∙◌}
use mathlib.Core.List.{List}
use Prim.Native.Nat.{ℕ, ◌-◌, ◌≤◌}
use Rattle.format.specs.Utf8.{trim_start}
use Rattle.trim.proofs.TrimLaws.{trim_stop, trim-on, white_left}
use Rattle.object.specs.Texts.{text_bytes}
use Rattle.word_chars.proofs.CharLaws.{size_is}
use Rattle.line_spans.proofs.white_start.Goals as goal
use Rattle.line_spans.proofs.white_start.Goals.{Else-n-eq0}

abbrev text : (c : Else-n-eq0) → List ℕ
text c = text_bytes c.args.ws.now c.args.at c.args.end

abbrev p : (c : Else-n-eq0) → ℕ
p c = c.loop-at.p

fits : (c : Else-n-eq0) → c.white_at-n.result ≤ c.args.end - (p c)
fits c = omega (arith, c.white_at-n.ensures, white_left (text c) (p c), size_is c.args.ws.now c.args.at c.args.end)

pub returns-then-n-eq0 : goal.returns-then-n-eq0
unfolding trim_start
returns-then-n-eq0 c =
    let inv = c.loop-at.invariant in
    record { low = inv.0; high = inv.1; rest = sym (trim_stop _ (sym c.white_at-n.ensures ∙ c.if-n-eq0.true)) ∙ inv.2 }

pub loop-at-preserved : goal.loop-at-preserved
loop-at-preserved c =
    let inv = c.loop-at.invariant in
    (omega (arith, inv.0), omega (arith, fits c, inv.1), trim-on (text c) (p c) _ c.white_at-n.ensures ∙ inv.2)

pub overflow_add-p : goal.overflow_add-p
overflow_add-p c = omega (arith, fits c, c.loop-at.invariant.1)

pub loop-at-smaller : goal.loop-at-smaller
loop-at-smaller c = omega (arith, fits c, c.loop-at.invariant.1)
