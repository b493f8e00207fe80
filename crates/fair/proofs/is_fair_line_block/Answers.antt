use native.Mathlib.Omega.{arith}
use mathlib.Core.Path.{◌≡◌, sym, ap, ◌∙◌}
use mathlib.Core.Bool.{true}
use mathlib.Core.List.{List}
use Prim.Native.Nat.{ℕ, ◌+◌, ◌-◌, ◌≤◌}
use lib.ListN.{length, length-map}
use lib.Dec.{leb}
use borrow.Author.Tests.{not-true, not-false}
use Rattle.format.specs.ObjectFile.{LineBlock, strictly_rise}
use Rattle.object.specs.Bodies.{body_at}
use Rattle.object.specs.Access.{address_in, line_block_at}
use Rattle.fair.proofs.FairLaws.{lines_early, lines-few, lines_many, lines_fall, lines_late, lines_fit}
use mathlib.Core.Bool.{not}
use Rattle.fair.proofs.is_fair_line_block.Lts as lts
use Rattle.fair.proofs.is_fair_line_block.Reads as reads
use Rattle.fair.proofs.is_fair_line_block.Tie as tie
use Rattle.fair.proofs.is_fair_line_block.Goals as goal

abbrev Else4 : Type 0
Else4 = lts.Else4 tie.the-claims reads.Pre reads.Post

abbrev Else3 : Type 0
Else3 = lts.Else3 tie.the-claims reads.Pre reads.Post

abbrev After-body_len : Type 0
After-body_len = lts.After-body_len tie.the-claims reads.Pre reads.Post

abbrev ws : (c : After-body_len) → List ℕ
ws c = c.args.ws.now

abbrev at : (c : After-body_len) → ℕ
at c = c.args.at

abbrev l : (c : After-body_len) → LineBlock
l c = line_block_at (ws c) (at c)

abbrev last : (c : After-body_len) → ℕ
last c = c.args.last

abbrev least : (c : After-body_len) → ℕ
least c = c.args.least

first_is : (c : After-body_len) → c.number_at-first.result ≡ (l c).first
first_is c = c.number_at-first.ensures

count_is : (c : After-body_len) → c.body_len-n.result ≡ length (l c).addresses
count_is c = c.body_len-n.ensures ∙ sym (length-map (body_at (ws c) ((at c) + 1 + 3)) address_in)

in_time : (c : Else3) → least c.before.before.before ≤ (l c.before.before.before).first
in_time c = omega (arith, first_is c.before.before.before, c.if-first-least.false)

some : (c : Else3) → 1 ≤ length (l c.before.before.before).addresses
some c = omega (arith, count_is c.before.before.before, c.if-n-lt1.false)

few : (c : Else3) → length (l c.before.before.before).addresses ≤ 65535
few c = omega (arith, count_is c.before.before.before, c.if-n-gt-MOST_ADDRESSES.false)

-- the addresses rise
rising : (c : Else4) → strictly_rise (l c.before.before.before.before.before).addresses ≡ true
rising c = sym c.rises.ensures ∙ not-false c.rises.result (ap not c.if-not-rises.false)

pub returns-then-first-least : goal.returns-then-first-least
returns-then-first-least c = lines_early (last c.before.before) (least c.before.before) (l c.before.before) (omega (arith, first_is c.before.before, c.if-first-least.true))

pub returns-then-n-lt1 : goal.returns-then-n-lt1
returns-then-n-lt1 c =
    lines-few (last c.before.before.before) (least c.before.before.before) (l c.before.before.before) (omega (arith, first_is c.before.before.before, c.if-first-least.false)) (omega (arith, count_is c.before.before.before, c.if-n-lt1.true))

pub returns-then-n-gt-MOST_ADDRESSES : goal.returns-then-n-gt-MOST_ADDRESSES
returns-then-n-gt-MOST_ADDRESSES c =
    lines_many (last c.before.before.before.before) (least c.before.before.before.before) (l c.before.before.before.before) (omega (arith, first_is c.before.before.before.before, c.if-first-least.false))
    (omega (arith, count_is c.before.before.before.before, c.if-n-lt1.false)) (omega (arith, count_is c.before.before.before.before, c.if-n-gt-MOST_ADDRESSES.true))

pub returns-then-not-rises : goal.returns-then-not-rises
returns-then-not-rises c =
    lines_fall (last c.before.before.before.before.before.before) (least c.before.before.before.before.before.before) (l c.before.before.before.before.before.before) (in_time c.before.before.before) (some c.before.before.before) (few c.before.before.before)
    (sym c.rises.ensures ∙ not-true c.rises.result (ap not c.if-not-rises.true))

pub returns-then-last-first : goal.returns-then-last-first
returns-then-last-first c =
    lines_late (last c.before.before.before.before.before.before.before) (least c.before.before.before.before.before.before.before) (l c.before.before.before.before.before.before.before) (in_time c.before.before.before.before) (some c.before.before.before.before) (few c.before.before.before.before) (rising c.before.before) (omega (arith, first_is c.before.before.before.before.before.before.before, c.if-last-first.true))

pub returns : goal.returns
returns c =
    let f = lines_fit (last c.before.before.before.before.before.before.before) (least c.before.before.before.before.before.before.before) (l c.before.before.before.before.before.before.before) (in_time c.before.before.before.before) (some c.before.before.before.before) (few c.before.before.before.before) (rising c.before.before) (omega (arith, first_is c.before.before.before.before.before.before.before, c.if-last-first.false)) in
    ap (λ n. leb n (last c.before.before.before.before.before.before.before - c.number_at-first.result)) (count_is c.before.before.before.before.before.before.before) ∙ ap (λ n. leb (length (l c.before.before.before.before.before.before.before).addresses) (last c.before.before.before.before.before.before.before - n)) (first_is c.before.before.before.before.before.before.before) ∙ f
