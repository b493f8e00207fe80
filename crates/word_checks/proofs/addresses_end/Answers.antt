use Rattle.std.proofs.Common.{◌≡◌, ℕ, ◌+◌, List, ◌∷◌, length, get_or, sym, refl, ap, ◌∙◌, arith}
use Rattle.object.specs.Bodies.{body_at, good_addresses}
use Rattle.object.proofs.BodyLaws.{goes, stops, body_out, ends_within}
use Rattle.object.proofs.WordLaws.{addresses_on, addresses-start, addresses-end, address-kind, address_falls, address-next}
use Rattle.word_checks.proofs.addresses_end.Goals as goal

-- what the words from here on come to
from-here : (ws : List ℕ) (at i last : ℕ) → body_at ws i ≡ get_or ws i 0 ∷ body_at ws (i + 1)
    → addresses_on last (body_at ws i) ≡ good_addresses (body_at ws at)
    → addresses_on last (get_or ws i 0 ∷ body_at ws (i + 1)) ≡ good_addresses (body_at ws at)
from-here ws at i last e inv = ap (addresses_on last) (sym e) ∙ inv

pub loop-i-init : goal.loop-i-init
loop-i-init c = (refl, addresses-start _, omega arith)

pub returns-then-not-goes_on : goal.returns-then-not-goes_on
returns-then-not-goes_on c =
    let inv = c.loop-i.invariant in
    let e = stops _ _ (sym c.goes_on.ensures ∙ c.if-not-goes_on.true) in
    (sym inv.1 ∙ ap (addresses_on c.loop-i.last) e ∙ addresses-end _, omega (arith, ap length e, inv.0))

pub returns-then-w-ne8193 : goal.returns-then-w-ne8193
returns-then-w-ne8193 c =
    let l = c.loop-i in
    let g = goes _ _ (sym c.goes_on.ensures ∙ c.if-not-goes_on.false) in
    sym (from-here _ c.args.at l.i l.last g.1 l.invariant.1) ∙ address-kind _ _ _ c.if-w-ne8193.true

pub returns-then-a-last : goal.returns-then-a-last
returns-then-a-last c =
    let l = c.loop-i in
    let g = goes _ _ (sym c.goes_on.ensures ∙ c.if-not-goes_on.false) in
    sym (from-here _ c.args.at l.i l.last g.1 l.invariant.1) ∙ address_falls _ _ _ c.if-w-ne8193.false c.if-a-last.true

pub loop-i-preserved : goal.loop-i-preserved
loop-i-preserved c =
    let l = c.loop-i in
    let g = goes _ _ (sym c.goes_on.ensures ∙ c.if-not-goes_on.false) in (
      omega (arith, ap length g.1, l.invariant.0),
      sym (address-next _ _ _ c.if-w-ne8193.false c.if-a-last.false) ∙ from-here _ c.args.at l.i l.last g.1 l.invariant.1,
      omega arith,
    )

pub returns : goal.returns
returns c =
    let ws = c.args.ws.now in
    let l = c.loop-i in
    let inv = l.invariant in (
      sym inv.1 ∙ ap (addresses_on l.last) (body_out ws l.i c.loop-i-test.false) ∙ addresses-end _,
      c.max.ensures ∙ ends_within ws c.args.at l.i c.loop-i-test.false l.auto.i-end inv.0,
    )
