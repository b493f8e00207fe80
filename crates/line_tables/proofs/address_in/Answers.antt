use borrow.Author.Rules.{rules}
use native.Mathlib.Omega.{arith}
use mathlib.Core.Path.{sym, ap, ◌∙◌}
use mathlib.Core.List.{List, map}
use mathlib.Core.Option.{some}
use Prim.Native.Nat.{ℕ, ◌+◌, ◌-◌, ◌≤◌, ◌<◌}
use lib.ListN.{length, get_elem?}
use Rattle.object.specs.Bodies.{body_at}
use Rattle.object.specs.Access.{address_in}
use Rattle.object.proofs.ByteLaws.{body_word, body_within}
use Rattle.line_tables.proofs.TableLaws.{elem_none, elem_some}
use Rattle.line_tables.proofs.address_in.Goals as goal
use Rattle.line_tables.proofs.address_in.Goals.{Else-body_len-offset}

abbrev ws : (c : Else-body_len-offset) → List ℕ
ws c = c.args.ws.now

abbrev body : (c : Else-body_len-offset) → List ℕ
body c = body_at (ws c) (c.args.at + 1 + 3)

abbrev offset : (c : Else-body_len-offset) → ℕ
offset c = c.args.line - c.number_at.result

there : (c : Else-body_len-offset) → offset c < length (body c)
there c = omega (arith, c.if-body_len-offset.false, c.body_len.ensures)

within : (c : Else-body_len-offset) → c.args.at + 1 + 3 + offset c < length (ws c)
within c = body_within (ws c) (c.args.at + 1 + 3) (offset c) (there c)

pub overflow_sub-offset : goal.overflow_sub-offset
overflow_sub-offset c = omega (arith, c.number_at.ensures, c.requires.1)

pub returns-then-body_len-offset : goal.returns-then-body_len-offset
returns-then-body_len-offset c =
    let xs = body_at c.args.ws.now (c.args.at + 1 + 3) in
    let h : length xs ≤ c.args.line - c.number_at.result = omega (arith, c.if-body_len-offset.true, c.body_len.ensures) in
    sym (elem_none xs (c.args.line - c.number_at.result) h) ∙ ap (λ k. get_elem? (map address_in xs) (c.args.line - k)) c.number_at.ensures

pub overflow_add-result : goal.overflow_add-result
overflow_add-result c = omega (arith, within (goal.at.overflow_add-result c).Else-body_len-offset)

pub offset_bounds-ws-words : goal.offset_bounds-ws-words
offset_bounds-ws-words c = let h = within (goal.at.offset_bounds-ws-words c).Else-body_len-offset in search rules

pub bounds-ws-words : goal.bounds-ws-words
bounds-ws-words c = omega (arith, within (goal.at.bounds-ws-words c).Else-body_len-offset)

pub returns : goal.returns
returns c =
    let d = (goal.at.returns c).Else-body_len-offset in
    ap (λ w. some (address_in w)) (sym (body_word (ws d) (c.args.at + 1 + 3) (offset d) (there d)))
    ∙ sym (elem_some (body d) (offset d) (there d)) ∙ ap (λ k. get_elem? (map address_in (body d)) (c.args.line - k)) c.number_at.ensures
