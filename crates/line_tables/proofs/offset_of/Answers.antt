use native.Mathlib.Omega.{arith}
use mathlib.Core.Path.{◌≡◌, sym, ap, ◌∙◌}
use mathlib.Core.List.{List, [], ◌∷◌, map}
use mathlib.Core.Option.{none}
use Prim.Native.Nat.{ℕ, ◌+◌, ◌-◌}
use lib.ListN.{length, get_or}
use Rattle.format.specs.Source.{offset_of}
use Rattle.object.specs.Bodies.{body_at}
use Rattle.object.specs.Access.{address_in}
use Rattle.object.proofs.BodyLaws.{goes, stops, body_out}
use Rattle.line_tables.proofs.TableLaws.{offset_from, offset_here, offset_next, offset_end}
use Rattle.line_tables.proofs.offset_of.Goals as goal

module _ (ws : List ℕ) (at i k a : ℕ) (inv : offset_from k a (map address_in (body_at ws i)) ≡ offset_of a (map address_in (body_at ws at))) where
  -- what the words from here on come to
  from-here : body_at ws i ≡ get_or ws i 0 ∷ body_at ws (i + 1)
      → offset_from k a (address_in (get_or ws i 0) ∷ map address_in (body_at ws (i + 1))) ≡ offset_of a (map address_in (body_at ws at))
  from-here e = ap (λ xs. offset_from k a (map address_in xs)) (sym e) ∙ inv

  -- what they come to where none is left
  at-end : body_at ws i ≡ [] → none ≡ offset_of a (map address_in (body_at ws at))
  at-end e = sym (offset_end k a) ∙ ap (λ xs. offset_from k a (map address_in xs)) (sym e) ∙ inv

pub returns-then-not-goes_on : goal.returns-then-not-goes_on
returns-then-not-goes_on c =
    let l = c.loop-i in
    let a = c.args in
    at-end _ a.at l.i (l.i - a.at) a.a l.invariant.1 (stops _ _ (sym c.goes_on.ensures ∙ c.if-not-goes_on.true))

pub returns-then-ws-i : goal.returns-then-ws-i
returns-then-ws-i c =
    let l = c.loop-i in
    let a = c.args in
    let ws = a.ws.now in
    let g = goes ws l.i (sym c.goes_on.ensures ∙ c.if-not-goes_on.false) in
    sym (offset_here (l.i - a.at) a.a (address_in (get_or ws l.i 0)) (map address_in (body_at ws (l.i + 1))) c.if-ws-i.true)
    ∙ from-here ws a.at l.i (l.i - a.at) a.a l.invariant.1 g.1

pub loop-i-preserved : goal.loop-i-preserved
loop-i-preserved c =
    let l = c.loop-i in
    let a = c.args in
    let ws = a.ws.now in
    let rest = map address_in (body_at ws (l.i + 1)) in
    let g = goes ws l.i (sym c.goes_on.ensures ∙ c.if-not-goes_on.false) in
    let e : l.i + 1 - a.at ≡ l.i - a.at + 1 = omega (arith, l.auto.i) in (
      omega (arith, ap length g.1, l.invariant.0),
      ap (λ k. offset_from k a.a rest) e ∙ sym (offset_next (l.i - a.at) a.a (address_in (get_or ws l.i 0)) rest c.if-ws-i.false)
          ∙ from-here ws a.at l.i (l.i - a.at) a.a l.invariant.1 g.1,
    )

pub returns : goal.returns
returns c =
    let l = c.loop-i in
    let a = c.args in
    at-end a.ws.now a.at l.i (l.i - a.at) a.a l.invariant.1 (body_out _ l.i c.loop-i-test.false)
