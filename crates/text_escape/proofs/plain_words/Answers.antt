-- A word more each turn. Assumes nothing.
use native.Mathlib.Omega.{arith}
use mathlib.Core.Path.{sym, subst}
use mathlib.Core.Logic.{inr}
use Prim.Native.Nat.{ℕ, ◌+◌, ◌*◌, ◌≤◌, ◌<◌}
use lib.ListN.{length}
use Rattle.object.proofs.SpanLaws.{each_word, whole-within, whole-there}
use Rattle.text_escape.specs.Escaped.{Itself}
use Rattle.text_escape.proofs.plain_words.Goals as goal
use Rattle.text_escape.proofs.plain_words.Goals.{In-loop-k}

abbrev words : (c : In-loop-k) → ℕ
words c = c.whole_words-words.result

below : (c : In-loop-k) → 3 * (words c) ≤ c.args.end
below c = omega (arith, whole-within c.args.ws.now c.args.at c.args.end, c.whole_words-words.ensures)

there : (c : In-loop-k) → c.args.at + (words c) ≤ length c.args.ws.now
there c =
    let e = c.whole_words-words.ensures in
    subst (λ m. c.args.at + m ≤ length c.args.ws.now) (sym e)
    (whole-there c.args.ws.now c.args.at c.args.end c.loop-k.k (subst (λ m. c.loop-k.k < m) e c.loop-k-test.true))

pub loop-k-preserved : goal.loop-k-preserved
loop-k-preserved c =
    let o = c.loop-k in
    let g = c.is_plain_word.ensures c.if-not-is_plain_word.false in (
      omega (arith, o.invariant.0),
      inr (omega (arith, below (goal.at.loop-k-preserved c).In-loop-k, c.loop-k-test.true)),
      each_word Itself c.args.ws.now c.args.at c.args.i o.k o.invariant.2 g,
    )

pub overflow_add-at : goal.overflow_add-at
overflow_add-at c = omega (arith, there c, c.loop-k-test.true)

pub offset_bounds-ws-at : goal.offset_bounds-ws-at
offset_bounds-ws-at c = omega (arith, there c, c.loop-k-test.true)

pub bounds-ws-at : goal.bounds-ws-at
bounds-ws-at c = omega (arith, there (goal.at.bounds-ws-at c).In-loop-k, c.loop-k-test.true)
