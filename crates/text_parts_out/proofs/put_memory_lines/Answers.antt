-- A word a turn. Assumes nothing.
use borrow.Author.Rules.{rules}
use native.Mathlib.Omega.{arith}
use mathlib.Core.Path.{◌≡◌, sym, ap, ◌∙◌}
use mathlib.Core.Bool.{true, not}
use Rattle.format.specs.Basics.{is_empty}
use mathlib.Core.List.{List, ◌∷◌, ◌++◌}
use Prim.Native.Nat.{ℕ, ◌+◌, ◌<◌}
use lib.ListN.{length, get_or}
use Rattle.object.specs.Bodies.{body_at}
use Rattle.writing.proofs.Parts.{emit, emitted, small}
use Rattle.format.specs.TextWriter.{memory_text, text_line}
use Rattle.object.specs.Access.{memory_in}
use Rattle.object.proofs.BodyLaws.{goes, stops}
use Rattle.text_parts_out.specs.Parts.{memory_lines}
use Rattle.text_parts_out.proofs.PartLaws.{memory_next, memory_none}
use Rattle.text_parts_out.proofs.put_memory_lines.Goals as goal
use Rattle.text_parts_out.proofs.put_memory_lines.Goals.{In-loop-out}

abbrev ws : (c : In-loop-out) → List ℕ
ws c = c.args.ws.now

abbrev i : (c : In-loop-out) → ℕ
i c = c.loop-out.i

going : (c : In-loop-out) → ((i c) < length (ws c)) × (body_at (ws c) (i c) ≡ get_or (ws c) (i c) 0 ∷ body_at (ws c) ((i c) + 1))
going c = goes (ws c) (i c) (sym c.goes_on.ensures ∙ c.loop-out-test.true)

next : (ws : List ℕ) (i : ℕ) → not (is_empty (body_at ws i)) ≡ true
    → memory_lines (body_at ws i) ≡ text_line (memory_text (memory_in (get_or ws i 0))) ++ memory_lines (body_at ws (i + 1))
next ws i e = ap memory_lines (goes ws i e).1 ∙ memory_next (get_or ws i 0) (body_at ws (i + 1))

pub offset_bounds-ws-i : goal.offset_bounds-ws-i
offset_bounds-ws-i c = let h = (going (goal.at.offset_bounds-ws-i c).In-loop-out).0 in search rules

pub bounds-ws-i : goal.bounds-ws-i
bounds-ws-i c = omega (arith, (going (goal.at.bounds-ws-i c).In-loop-out).0)

pub overflow_add-n : goal.overflow_add-n
overflow_add-n c = small (emit c.loop-out.invariant _ _ (next c.args.ws.now c.loop-out.i (sym c.goes_on.ensures ∙ c.loop-out-test.true)) c.put_memory_line-n.ensures) (omega arith)

pub overflow_add-i : goal.overflow_add-i
overflow_add-i c = omega (arith, (going (goal.at.overflow_add-i c).In-loop-out).0)

pub loop-out-smaller : goal.loop-out-smaller
loop-out-smaller c = omega (arith, (going (goal.at.loop-out-smaller c).In-loop-out).0)

pub loop-out-preserved : goal.loop-out-preserved
loop-out-preserved c =
    emit c.loop-out.invariant _ _ (next c.args.ws.now c.loop-out.i (sym c.goes_on.ensures ∙ c.loop-out-test.true)) c.put_memory_line-n.ensures

pub returns : goal.returns
returns c =
    let g = stops _ _ (sym c.goes_on.ensures ∙ c.loop-out-test.false) in
    emitted c.loop-out.invariant (ap memory_lines g ∙ memory_none)
