use borrow.Author.Rules.{rules}
use native.Mathlib.Omega.{arith}
use mathlib.Core.Path.{◌≡◌, sym, ap, subst, ◌∙◌}
use mathlib.Core.List.{List, [], ◌∷◌}
use Prim.Native.Nat.{ℕ, ◌+◌, ◌<◌}
use lib.ListN.{length, get_or}
use Rattle.format.specs.Sorted.{order, is_less}
use Rattle.object.specs.Bodies.{body_at, text_at, Text}
use Rattle.object.proofs.BodyLaws.{goes, stops}
use Rattle.object.proofs.OrderLaws.{bytes_in, texts_differ, texts-same, text-rest, texts-first, texts-end}
use Rattle.well_formed.proofs.text_below.Lts as lts
use Rattle.well_formed.proofs.text_below.Reads as reads
use Rattle.well_formed.proofs.text_below.Tie as tie
use Rattle.well_formed.proofs.text_below.Goals as goal

abbrev Else2 : Type 0
Else2 = lts.Else2 tie.the-claims reads.Pre reads.Post goal.the-invariant-loop-a goal.the-decreases-loop-a

abbrev Then1 : Type 0
Then1 = lts.Then1 tie.the-claims reads.Pre reads.Post goal.the-invariant-loop-a goal.the-decreases-loop-a

abbrev ws : (c : Then1) → List ℕ
ws c = c.args.ws.now

abbrev i : (c : Then1) → ℕ
i c = c.loop-a.i

abbrev j : (c : Then1) → ℕ
j c = c.loop-a.j

second : (c : Then1) → ((j c) < length (ws c)) × (body_at (ws c) (j c) ≡ get_or (ws c) (j c) 0 ∷ body_at (ws c) ((j c) + 1))
second c = goes (ws c) (j c) (sym c.goes_on.ensures ∙ c.loop-a-test.true)

second-text : (c : Then1) → Text (get_or (ws c) (j c) 0 ∷ body_at (ws c) ((j c) + 1))
second-text c = subst Text (second c).1 c.loop-a.invariant.1

first : (c : Else2) → (i c.before.before < length (ws c.before.before)) × (body_at (ws c.before.before) (i c.before.before) ≡ get_or (ws c.before.before) (i c.before.before) 0 ∷ body_at (ws c.before.before) (i c.before.before + 1))
first c = goes (ws c.before.before) (i c.before.before) (sym c.goes_on-in-loop-a.ensures ∙ c.if-not-goes_on.false)

first-text : (c : Else2) → Text (get_or (ws c.before.before) (i c.before.before) 0 ∷ body_at (ws c.before.before) (i c.before.before + 1))
first-text c = subst Text (first c).1 c.loop-a.invariant.0

from-here : (c : Else2) →
    order (bytes_in (get_or (ws c.before.before) (i c.before.before) 0 ∷ body_at (ws c.before.before) (i c.before.before + 1))) (bytes_in (get_or (ws c.before.before) (j c.before.before) 0 ∷ body_at (ws c.before.before) (j c.before.before + 1)))
    ≡ order (text_at (ws c.before.before) c.args.a) (text_at (ws c.before.before) c.args.b)
from-here c =
    ap (λ xs. order (bytes_in xs) (bytes_in (get_or (ws c.before.before) (j c.before.before) 0 ∷ body_at (ws c.before.before) (j c.before.before + 1)))) (sym (first c).1)
    ∙ ap (λ ys. order (text_at (ws c.before.before) (i c.before.before)) (bytes_in ys)) (sym (second c.before.before).1) ∙ c.loop-a.invariant.2

pub returns-then-not-goes_on : goal.returns-then-not-goes_on
returns-then-not-goes_on c =
    let c = c in
    let e = stops (ws c.before.before.before) (i c.before.before.before) (sym c.goes_on-in-loop-a.ensures ∙ c.if-not-goes_on.true) in
    sym (texts-first _ _ (second-text c.before.before.before))
    ∙ ap (λ ys. is_less (order (bytes_in []) (bytes_in ys))) (sym (second c.before.before.before).1)
    ∙ ap (λ xs. is_less (order (bytes_in xs) (text_at (ws c.before.before.before) (j c.before.before.before)))) (sym e) ∙ ap is_less c.loop-a.invariant.2

pub offset_bounds-ws-i : goal.offset_bounds-ws-i
offset_bounds-ws-i c = let h = (first c.before).0 in search rules

pub bounds-ws-i : goal.bounds-ws-i
bounds-ws-i c = omega (arith, (first c.before.before).0)

pub offset_bounds-ws-j : goal.offset_bounds-ws-j
offset_bounds-ws-j c = let h = (second c.before.before.before.before).0 in search rules

pub bounds-ws-j : goal.bounds-ws-j
bounds-ws-j c = omega (arith, (second c.before.before.before.before.before).0)

pub returns-then-v-w : goal.returns-then-v-w
returns-then-v-w c =
    rw (c.rank.ensures, c.rank-then-v-w.ensures)
    (sym (texts_differ _ _ _ _ (first-text c.before.before.before.before.before.before) (second-text c.before.before.before.before.before.before.before.before) c.if-v-w.true) ∙ ap is_less (from-here c.before.before.before.before.before.before))

pub overflow_add-i : goal.overflow_add-i
overflow_add-i c = omega (arith, (first c.before.before.before.before).0)

pub overflow_add-j : goal.overflow_add-j
overflow_add-j c = omega (arith, (second c.before.before.before.before.before.before).0)

pub loop-a-smaller : goal.loop-a-smaller
loop-a-smaller c = omega (arith, (second c.before.before.before.before.before.before).0)

pub loop-a-preserved : goal.loop-a-preserved
loop-a-preserved c = (
  text-rest _ _ (first-text c.before.before.before.before),
  text-rest _ _ (second-text c.before.before.before.before.before.before),
  sym (texts-same _ _ _ _ (first-text c.before.before.before.before) (second-text c.before.before.before.before.before.before) c.if-v-w.false) ∙ from-here c.before.before.before.before,
)

pub returns : goal.returns
returns c =
    let ws = c.args.ws.now in
    let loop = c.loop-a in
    let e = stops ws loop.j (sym c.goes_on.ensures ∙ c.loop-a-test.false) in
    sym (texts-end (text_at ws loop.i)) ∙ ap (λ ys. is_less (order (text_at ws loop.i) (bytes_in ys))) (sym e) ∙ ap is_less loop.invariant.2
