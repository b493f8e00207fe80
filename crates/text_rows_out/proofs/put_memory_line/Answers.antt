-- The word, then the newline. Assumes nothing.
use native.Mathlib.Omega.{arith}
use mathlib.Core.Path.{refl, sym, ap, subst}
use mathlib.Core.List.{List, [], ◌∷◌, append-nil}
use Prim.Native.Nat.{ℕ}
use Rattle.writing.specs.Written.{Put}
use Rattle.writing.proofs.WriteLaws.{too_short}
use Rattle.writing.proofs.Parts.{Emits, emit, emitted, within, small}
use Rattle.measuring.proofs.FittingLaws.{first-put}
use Rattle.format.specs.TextWriter.{memory_text, text_line}
use Rattle.object.specs.Access.{memory_in}
use Rattle.text_rows_out.proofs.RowLaws.{memory_length}
use Rattle.text_rows_out.proofs.put_memory_line.Goals as goal
use Rattle.text_rows_out.proofs.put_memory_line.Goals.{After-put_memory-k}

emits1 : (c : After-put_memory-k)
    → Emits (text_line (memory_text (memory_in c.args.w))) c.args.out.now (0x0A ∷ [])
    (record { at = c.put_memory-k.result; out = c.put_memory-k.new.out })
emits1 c =
    first-put (memory_text (memory_in c.args.w)) (0x0A ∷ []) c.args.out.now refl (omega (arith, memory_length c.args.w, c.if-out-lt5.false))
    (subst (λ (p : List ℕ). Put p c.args.out.now c.put_memory-k.result c.put_memory-k.new.out) (ap memory_text c.memory_in.ensures)
    c.put_memory-k.ensures)

pub returns-then-out-lt5 : goal.returns-then-out-lt5
returns-then-out-lt5 c = too_short _ _ _ (memory_length c.args.w) c.if-out-lt5.true

pub slice_bounds-put_u8-count : goal.slice_bounds-put_u8-count
slice_bounds-put_u8-count c = within (emits1 (goal.at.slice_bounds-put_u8-count c).After-put_memory-k)

pub slice_bounds-put_u8-start : goal.slice_bounds-put_u8-start
slice_bounds-put_u8-start c = within (emits1 (goal.at.slice_bounds-put_u8-start c).After-put_memory-k)

pub overflow_add-result : goal.overflow_add-result
overflow_add-result c =
    small (emit (emits1 (goal.at.overflow_add-result c).After-put_memory-k) _ [] (sym (append-nil _)) c.put_u8.ensures) (omega arith)

pub returns : goal.returns
returns c = emitted (emit (emits1 (goal.at.returns c).After-put_memory-k) _ [] (sym (append-nil _)) c.put_u8.ensures) refl
