use native.Mathlib.Omega.{arith}
use native.Mathlib.Nat.{le_refl}
use mathlib.Core.Path.{◌≡◌, ◌∙◌}
use mathlib.Core.Logic.{⊎_elim}
use mathlib.Core.List.{List}
use Prim.Native.Nat.{ℕ, ◌≤◌, ◌<◌}
use lib.ListN.{drop}
use Rattle.format.specs.Source.{get_pos_pair}
use Rattle.object.specs.Texts.{text_bytes}
use Rattle.source_info.specs.Passing.{pos_from}
use Rattle.positions.specs.declared.Passed.{Passed}
use Rattle.source_info.proofs.LineLaws.{pos_start, pos_stop, pos_past}
use Rattle.word_chars.proofs.CharLaws.{size_is}
use Rattle.positions.proofs.pair_at.Goals as goal
use Rattle.positions.proofs.pair_at.Goals.{After-advance-p}

abbrev text : (c : After-advance-p) → List ℕ
text c = text_bytes c.args.ws.now c.args.at c.args.n

abbrev p : (c : After-advance-p) → Passed
p c = c.advance-p.result

same : (c : After-advance-p) → pos_from c.args.index (p c).line (p c).start (p c).i (drop (p c).i (text c)) ≡ get_pos_pair (text c) c.args.index
same c = c.advance-p.ensures.same c.args.index (le_refl _) ∙ pos_start c.args.index (text c)

ended : (c : After-advance-p) → c.args.n < c.args.index → c.args.n ≤ (p c).i
ended c h = ⊎_elim (λ l. l) (λ l. absurd (omega (arith, h, l, c.advance-p.ensures.within))) c.advance-p.ensures.reached

met : (c : After-advance-p) → c.args.index ≤ c.args.n → c.args.index ≤ (p c).i
met c h = ⊎_elim (λ l. omega (arith, h, l)) (λ l. l) c.advance-p.ensures.reached

pub returns-then-n-index : goal.returns-then-n-index
returns-then-n-index c =
    let h = c.if-n-index.true in
    pos_past c.args.index (p (goal.at.returns-then-n-index c).After-advance-p).line (p (goal.at.returns-then-n-index c).After-advance-p).start (p (goal.at.returns-then-n-index c).After-advance-p).i (text (goal.at.returns-then-n-index c).After-advance-p)
    (omega (arith, size_is c.args.ws.now c.args.at c.args.n, ended (goal.at.returns-then-n-index c).After-advance-p h))
    (omega (arith, h, c.advance-p.ensures.within)) ∙ same (goal.at.returns-then-n-index c).After-advance-p

pub overflow_sub-result : goal.overflow_sub-result
overflow_sub-result c = omega (arith, c.advance-p.ensures.starts, c.advance-p.ensures.back (omega arith))

pub returns : goal.returns
returns c =
    pos_stop c.args.index (p (goal.at.returns c).After-advance-p).line (p (goal.at.returns c).After-advance-p).start (p (goal.at.returns c).After-advance-p).i (drop (p (goal.at.returns c).After-advance-p).i (text (goal.at.returns c).After-advance-p)) (met (goal.at.returns c).After-advance-p (omega (arith, c.if-n-index.false)))
    ∙ same (goal.at.returns c).After-advance-p
