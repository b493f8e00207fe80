use borrow.Author.Rules.{rules}
use native.Mathlib.Omega.{arith}
use mathlib.Core.Path.{◌≡◌, refl, sym, ap, ◌∙◌}
use mathlib.Core.Bool.{true}
use mathlib.Core.List.{List, [], ◌∷◌, map}
use Prim.Native.Nat.{ℕ, ◌+◌}
use lib.ListN.{length, get_or}
use Rattle.format.specs.ObjectFile.{strictly_rise}
use Rattle.object.specs.Bodies.{body_at}
use Rattle.object.specs.Access.{address_in}
use Rattle.object.proofs.BodyLaws.{goes, stops, body_out}
use Rattle.fair.proofs.FairLaws.{rise_from, rise_start, rise_end, rise_next, rise_falls}
use Rattle.fair.proofs.rises.Goals as goal

module _ (ws : List ℕ) (at i least : ℕ) (inv : rise_from least (map address_in (body_at ws i)) ≡ strictly_rise (map address_in (body_at ws at))) where
  -- what the words from here on come to
  from-here : body_at ws i ≡ get_or ws i 0 ∷ body_at ws (i + 1)
      → rise_from least (address_in (get_or ws i 0) ∷ map address_in (body_at ws (i + 1))) ≡ strictly_rise (map address_in (body_at ws at))
  from-here e = ap (λ xs. rise_from least (map address_in xs)) (sym e) ∙ inv

  -- what they come to where none is left
  at-end : body_at ws i ≡ [] → true ≡ strictly_rise (map address_in (body_at ws at))
  at-end e = sym (rise_end _) ∙ ap (λ xs. rise_from least (map address_in xs)) (sym e) ∙ inv

pub loop-i-init : goal.loop-i-init
loop-i-init c = (refl, rise_start _, omega arith)

pub returns-then-not-goes_on : goal.returns-then-not-goes_on
returns-then-not-goes_on c =
    let l = c.loop-i in
    at-end _ c.args.at l.i l.least l.invariant.1 (stops _ _ (sym c.goes_on.ensures ∙ c.if-not-goes_on.true))

pub returns-then-a-least : goal.returns-then-a-least
returns-then-a-least c =
    let l = c.loop-i in
    let g = goes _ _ (sym c.goes_on.ensures ∙ c.if-not-goes_on.false) in
    sym (sym (from-here _ c.args.at l.i l.least l.invariant.1 g.1) ∙ rise_falls _ _ _ c.if-a-least.true)

pub overflow_add-least : goal.overflow_add-least
overflow_add-least c = search rules

pub loop-i-preserved : goal.loop-i-preserved
loop-i-preserved c =
    let l = c.loop-i in
    let g = goes _ _ (sym c.goes_on.ensures ∙ c.if-not-goes_on.false) in (
      omega (arith, ap length g.1, l.invariant.0),
      sym (rise_next _ _ _ c.if-a-least.false) ∙ from-here _ c.args.at l.i l.least l.invariant.1 g.1,
      omega arith,
    )

pub returns : goal.returns
returns c =
    let l = c.loop-i in
    at-end _ c.args.at l.i l.least l.invariant.1 (body_out _ l.i c.loop-i-test.false)
