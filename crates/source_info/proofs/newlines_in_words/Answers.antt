-- A word more each turn. Assumes nothing.
use native.Mathlib.Omega.{arith}
use mathlib.Core.Path.{◌≡◌, sym, subst}
use mathlib.Core.List.{List, [], ◌∷◌}
use Prim.Native.Nat.{ℕ, ◌+◌, ◌*◌, ◌≤◌, ◌<◌}
use lib.ListN.{length}
use Rattle.format.specs.Source.{newlines}
use Rattle.object.specs.Texts.{whole_words}
use Rattle.object.proofs.SpanLaws.{whole-within, whole-there}
use Rattle.source_info.proofs.CountLaws.{one_small, word-newlines}
use Rattle.source_info.proofs.newlines_in_words.Goals as goal

-- the words that are counted lie in the object
there : (ws : List ℕ) (at n words k : ℕ) → words ≡ whole_words ws at n → k < words → at + words ≤ length ws
there ws at n words k e h = subst (λ m. at + m ≤ length ws) (sym e) (whole-there ws at n k (subst (λ m. k < m) e h))

-- the newlines of one byte
one : (x b : ℕ) → x ≡ newlines (b ∷ []) → x ≤ 1
one x b e = omega (arith, e, one_small b)

pub overflow_add-w : goal.overflow_add-w
overflow_add-w c = let a = c.args in omega (arith, there a.ws.now a.at a.n a.words c.loop-k.k c.requires c.loop-k-test.true, c.loop-k-test.true)

pub offset_bounds-ws-at : goal.offset_bounds-ws-at
offset_bounds-ws-at c =
    let a = c.args in omega (arith, there a.ws.now a.at a.n a.words c.loop-k.k c.requires c.loop-k-test.true, c.loop-k-test.true)

pub bounds-ws-at : goal.bounds-ws-at
bounds-ws-at c = let a = c.args in omega (arith, there a.ws.now a.at a.n a.words c.loop-k.k c.requires c.loop-k-test.true, c.loop-k-test.true)

pub overflow_add-here : goal.overflow_add-here
overflow_add-here c = omega (arith, one _ _ c.one_newline.ensures, one _ _ c.one_newline-in-loop-k.ensures)

pub overflow_add-here-in-loop-k : goal.overflow_add-here-in-loop-k
overflow_add-here-in-loop-k c =
    omega (arith, one _ _ c.one_newline.ensures, one _ _ c.one_newline-in-loop-k.ensures, one _ _ c.one_newline-in-loop-k-2.ensures)

pub overflow_add-count : goal.overflow_add-count
overflow_add-count c =
    omega (
      arith,
      one _ _ c.one_newline.ensures,
      one _ _ c.one_newline-in-loop-k.ensures,
      one _ _ c.one_newline-in-loop-k-2.ensures,
      c.from-count.ensures,
      c.loop-k.invariant.0,
      whole-within c.args.ws.now c.args.at c.args.n,
      c.requires,
      c.loop-k-test.true,
    )

pub loop-k-preserved : goal.loop-k-preserved
loop-k-preserved c =
    let o = c.loop-k in
    let a = c.args in
    let below : 3 * o.k + 2 < a.n = omega (arith, whole-within a.ws.now a.at a.n, c.requires, c.loop-k-test.true) in (
      omega (
        arith,
        o.invariant.0,
        c.from-count.ensures,
        one _ _ c.one_newline.ensures,
        one _ _ c.one_newline-in-loop-k.ensures,
        one _ _ c.one_newline-in-loop-k-2.ensures,
      ),
      omega (
        arith,
        o.invariant.1,
        word-newlines a.ws.now a.at a.n o.k below,
        c.from-count.ensures,
        c.one_newline.ensures,
        c.one_newline-in-loop-k.ensures,
        c.one_newline-in-loop-k-2.ensures,
      ),
    )
