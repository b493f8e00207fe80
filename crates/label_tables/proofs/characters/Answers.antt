-- Those counted, and those in the rest, are all. Assumes nothing.
use borrow.Author.Rules.{rules}
use native.Mathlib.Omega.{arith}
use mathlib.Core.Path.{◌≡◌, ap, ◌∙◌}
use Prim.Native.Nat.{◌+◌, ◌/◌, ◌≤◌, ◌<◌}
use lib.ListN.{length}
use Rattle.utf8.specs.Chars.{begins}
use Rattle.object.proofs.SpanLaws.{whole-within, whole-there}
use Rattle.label_tables.proofs.CharacterLaws.{count-here, count_word, count_none}
use Rattle.label_tables.proofs.characters.Goals as goal
use Rattle.label_tables.proofs.characters.Goals.{Then-i-whole}

in_text : (t : Then-i-whole) → t.loop-i.i + 3 ≤ t.args.n
in_text t =
    omega (
      arith,
      t.if-i-whole.true,
      t.loop-i.invariant.3 t.if-i-whole.true,
      t.whole_words-whole.ensures,
      whole-within t.args.ws.now t.args.at t.args.n,
    )

in_words : (t : Then-i-whole) → t.args.at + t.loop-i.i / 3 < length t.args.ws.now
in_words t =
    let i = t.loop-i.i in
    let ws = t.args.ws.now in
    let l : i / 3 < t.whole_words-whole.result = t.if-i-whole.true in
    omega (arith, l, t.whole_words-whole.ensures, whole-there ws t.args.at t.args.n (i / 3) (omega (arith, l, t.whole_words-whole.ensures)))

pub loop-i-preserved-then-i-whole : goal.loop-i-preserved-then-i-whole
loop-i-preserved-then-i-whole c =
    let a = c.args in
    let l = c.loop-i in
    let z = l.invariant.3 c.if-i-whole.true in
    let q = c.word_begins-count.ensures in
    let h = count_word a.ws.now a.at l.i a.n c.word_begins-count.result (in_text (goal.at.loop-i-preserved-then-i-whole c).Then-i-whole) z q.0 in
    (in_text (goal.at.loop-i-preserved-then-i-whole c).Then-i-whole, omega (arith, q.1), omega (arith, h, l.invariant.2), λ k. omega (arith, z))

pub loop-i-preserved : goal.loop-i-preserved
loop-i-preserved c =
    let loop = c.loop-i in
    let a = c.args in
    let b = c.begins-count.ensures in
    let h = count-here a.ws.now a.at loop.i a.n c.loop-i-test.true in
    let e : c.begins-count.result ≡ begins c.text_byte.result = b.0 in
    let f = e ∙ ap begins c.text_byte.ensures in
    let g = c.if-i-whole.false in
    (omega arith, omega (arith, b.1), omega (arith, f, h, loop.invariant.2), λ k. omega (arith, g, k))

pub returns : goal.returns
returns c =
    let a = c.args in
    omega (arith, c.loop-i.invariant.2, count_none a.ws.now a.at c.loop-i.i a.n (omega arith))

pub overflow_add-at : goal.overflow_add-at
overflow_add-at c = let h = in_words c in search rules

pub offset_bounds-ws-at : goal.offset_bounds-ws-at
offset_bounds-ws-at c = let h = in_words c in search rules

pub bounds-ws-at : goal.bounds-ws-at
bounds-ws-at c = in_words (goal.at.bounds-ws-at c).Then-i-whole
