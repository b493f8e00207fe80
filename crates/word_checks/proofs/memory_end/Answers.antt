use Rattle.std.proofs.Common.{◌≡◌, ℕ, ◌+◌, ◌&&◌, List, ◌∷◌, length, get_or, sym, ap, ◌∙◌, arith}
use Rattle.format.specs.Words.{memories_of}
use Rattle.object.specs.Bodies.{body_at, good_memory}
use Rattle.object.proofs.BodyLaws.{goes, stops, body_out, ends_within}
use Rattle.object.proofs.WordLaws.{memory_cons}
use Rattle.word_checks.proofs.memory_end.Goals as goal

pub returns-then-not-goes_on : goal.returns-then-not-goes_on
unfolding good_memory memories_of
returns-then-not-goes_on c =
    let inv = c.loop-i.invariant in
    let e = stops _ _ (sym c.goes_on.ensures ∙ c.if-not-goes_on.true) in
    (sym inv.1 ∙ ap good_memory e, omega (arith, ap length e, inv.0))

-- what the words from here on come to
from-here : (ws : List ℕ) (at i : ℕ) → body_at ws i ≡ get_or ws i 0 ∷ body_at ws (i + 1) → good_memory (body_at ws i) ≡ good_memory (body_at ws at)
    → good_memory (get_or ws i 0 ∷ body_at ws (i + 1)) ≡ good_memory (body_at ws at)
from-here ws at i e inv = ap good_memory (sym e) ∙ inv

pub returns-then-not-is_memory : goal.returns-then-not-is_memory
returns-then-not-is_memory c =
    let ws = c.args.ws.now in
    let i = c.loop-i.i in
    let g = goes ws i (sym c.goes_on.ensures ∙ c.if-not-goes_on.false) in
    sym (from-here ws c.args.at i g.1 c.loop-i.invariant.1) ∙ memory_cons _ _
    ∙ ap (λ b. b && good_memory (body_at ws (i + 1))) (sym c.is_memory.ensures ∙ c.if-not-is_memory.true)

pub loop-i-preserved : goal.loop-i-preserved
loop-i-preserved c =
    let ws = c.args.ws.now in
    let i = c.loop-i.i in
    let g = goes ws i (sym c.goes_on.ensures ∙ c.if-not-goes_on.false) in (
      omega (arith, ap length g.1, c.loop-i.invariant.0),
      sym (memory_cons _ _ ∙ ap (λ b. b && good_memory (body_at ws (i + 1))) (sym c.is_memory.ensures ∙ c.if-not-is_memory.false))
          ∙ from-here ws c.args.at i g.1 c.loop-i.invariant.1,
    )

pub returns : goal.returns
unfolding good_memory memories_of
returns c =
    let ws = c.args.ws.now in
    let i = c.loop-i.i in
    let inv = c.loop-i.invariant in (
      sym inv.1 ∙ ap good_memory (body_out ws i c.loop-i-test.false),
      c.max.ensures ∙ ends_within ws c.args.at i c.loop-i-test.false c.loop-i.auto.i-end inv.0,
    )
