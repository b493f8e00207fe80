-- Each number by its equation. Assumes nothing.
use borrow.Author.Rules.{rules}
use mathlib.Core.Path.{◌≡◌, sym, ap, ◌∙◌}
use mathlib.Core.List.{List}
use Prim.Native.Nat.{ℕ, ◌+◌, ◌-◌, ◌^◌}
use lib.ListN.{length, length-map}
use Rattle.format.specs.ObjectFile.{LineBlock}
use Rattle.object.specs.Bodies.{body_at}
use Rattle.object.specs.Access.{address_in, line_block_at}
use Rattle.text_lines_out.specs.Merge.{smaller}
use Rattle.text_lines_out.proofs.LineLaws.{min-is, max-is, block_size, block_run, place-fits}
use Rattle.text_runs_out.proofs.plan_block.Goals as goal
use Rattle.text_runs_out.proofs.plan_block.Goals.{After-min-skip}

abbrev ws : (c : After-min-skip) → List ℕ
ws c = c.args.ws.now

abbrev l : (c : After-min-skip) → LineBlock
l c = line_block_at (ws c) c.args.at

first_is : (c : After-min-skip) → c.number_at-first.result ≡ (l c).first
first_is c = c.number_at-first.ensures

abbrev k : (c : After-min-skip) → ℕ
k c = c.straight_count-kept.result

kept : (c : After-min-skip) → (k c) ≡ smaller (length (body_at (ws c) (c.args.at + 1 + 3))) (2 ^ 64 - (l c).first)
kept c =
    c.straight_count-kept.ensures
    ∙ ap (λ (x : ℕ). smaller x (2 ^ 64 - c.number_at-first.result))
    c.body_len-count.ensures
    ∙ ap (λ (x : ℕ). smaller (length (body_at (ws c) (c.args.at + 1 + 3))) (2 ^ 64 - x)) (first_is c)

skips : (c : After-min-skip) → c.min-skip.result ≡ smaller (c.args.wraps - (l c).first) (k c)
skips c = c.min-skip.ensures ∙ min-is _ _ ∙ ap (λ (x : ℕ). smaller x (k c)) (c.saturating_sub.ensures ∙ ap (λ (x : ℕ). c.args.wraps - x) (first_is c))

pub overflow_add-own : goal.overflow_add-own
overflow_add-own c =
    let h = place-fits (ws (goal.at.overflow_add-own c).After-min-skip) c.args.at c.args.wraps (c.args.wraps - (l (goal.at.overflow_add-own c).After-min-skip).first) (k (goal.at.overflow_add-own c).After-min-skip) c.min-skip.result (kept (goal.at.overflow_add-own c).After-min-skip)
    (skips (goal.at.overflow_add-own c).After-min-skip) c.requires in
    search rules

pub returns : goal.returns
returns c = let f = first_is (goal.at.returns c).After-min-skip in
    let at = c.args.at in
    record {
      gap = c.saturating_sub-gap.ensures
          ∙ ap (λ (x : ℕ). x - c.args.done)
          (c.min.ensures ∙ min-is _ _ ∙ ap (λ (x : ℕ). smaller x c.args.lines) f);
      first = c.max.ensures ∙ max-is _ _ ∙ ap (λ (x : ℕ). c.args.wraps + (x - c.args.wraps)) f;
      size = block_size (ws (goal.at.returns c).After-min-skip) at c.args.wraps c.min-skip.result (k (goal.at.returns c).After-min-skip) (kept (goal.at.returns c).After-min-skip) (skips (goal.at.returns c).After-min-skip);
      rows = block_run (ws (goal.at.returns c).After-min-skip) at c.args.wraps c.min-skip.result (k (goal.at.returns c).After-min-skip) (kept (goal.at.returns c).After-min-skip) (skips (goal.at.returns c).After-min-skip) c.max.result
          (c.max.ensures ∙ max-is _ _ ∙ ap (λ (x : ℕ). c.args.wraps + (x - c.args.wraps)) f);
      past = c.max-2.ensures ∙ max-is _ _
          ∙ ap (λ (x : ℕ). c.args.done + (x - c.args.done))
          (c.lines_done.ensures
          ∙ ap (λ (x : ℕ). smaller (x + c.body_len-count.result) c.args.lines) f
          ∙ ap (λ (x : ℕ). smaller ((l (goal.at.returns c).After-min-skip).first + x) c.args.lines)
          (c.body_len-count.ensures ∙ sym (length-map (body_at (ws (goal.at.returns c).After-min-skip) (at + 1 + 3)) address_in)));
    }
