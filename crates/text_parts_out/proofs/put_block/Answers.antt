-- The first two lines, then the memory words. Assumes nothing.
use native.Mathlib.Omega.{arith}
use mathlib.Core.Path.{◌≡◌, refl, sym, ap, ◌∙◌}
use mathlib.Core.List.{List, [], ◌++◌, append-nil}
use Prim.Native.Nat.{ℕ, ◌+◌, ◌*◌, ◌≤◌}
use lib.ListN.{length, get_or, length-append}
use Rattle.format.specs.TextWriter.{hex4, decimal, text_line}
use Rattle.writing.proofs.WriteLaws.{too_short}
use Rattle.writing.proofs.Parts.{Emits, after, emit, emitted, within, small}
use Rattle.object.specs.Bodies.{body_at}
use Rattle.object.specs.Access.{address_in}
use Rattle.measuring.proofs.RoomLaws.{roomy, roomless}
use Rattle.measuring.proofs.FittingLaws.{first-put, lent_room}
use Rattle.text_parts_out.specs.Parts.{memory_lines, block_text}
use Rattle.text_parts_out.proofs.PartLaws.{block-parts, block_size}
use Rattle.text_parts_out.proofs.put_block.Goals as goal
use Rattle.text_parts_out.proofs.put_block.Goals.{Else-is_none, After-put_block_head-n, After-put_memory_lines}

module _ (ws : List ℕ) (at count : ℕ) where
  abbrev head : List ℕ
  head = text_line (hex4 (address_in (get_or ws at 0))) ++ text_line (decimal count)

  abbrev words : List ℕ
  words = memory_lines (body_at ws (at + 1))

  parts : count ≡ length (body_at ws (at + 1)) → block_text ws at ≡ head ++ words
  parts q =
      block-parts ws at
      ∙ ap (λ (k : ℕ). text_line (hex4 (address_in (get_or ws at 0))) ++ text_line (decimal k) ++ words) (sym q)

  size : count ≡ length (body_at ws (at + 1)) → length (block_text ws at) ≡ length (decimal count) + 6 + 5 * count
  size q = block_size ws at ∙ ap (λ (k : ℕ). length (decimal k) + 6 + 5 * k) (sym q)

-- it fits
enough : (c : Else-is_none) → length (block_text c.args.ws.now c.args.at) ≤ length c.args.out.now
enough c =
    omega (
      arith,
      size c.args.ws.now c.args.at c.args.count c.requires.1,
      roomy (length c.args.out.now) _ _ c.block_room.ensures c.if-is_none.ensures,
    )

emits1 : (c : After-put_block_head-n) → length (block_text c.args.ws.now c.args.at) ≤ length c.args.out.now
    → Emits (block_text c.args.ws.now c.args.at) c.args.out.now (words c.args.ws.now c.args.at c.args.count)
    (record { at = c.put_block_head-n.result; out = c.put_block_head-n.new.out })
emits1 c e =
    let a = c.args in
    first-put (head a.ws.now a.at a.count) (words a.ws.now a.at a.count) a.out.now (parts a.ws.now a.at a.count c.requires.1) e
    c.put_block_head-n.ensures

emits2 : (c : After-put_memory_lines)
    → Emits (block_text c.args.ws.now c.args.at) c.args.out.now (words c.args.ws.now c.args.at c.args.count)
    (record { at = c.put_block_head-n.result; out = c.put_block_head-n.new.out })
    → Emits (block_text c.args.ws.now c.args.at) c.args.out.now []
    (after (record { at = c.put_block_head-n.result; out = c.put_block_head-n.new.out }) c.put_memory_lines.result c.put_memory_lines.new.out)
emits2 c f = emit f (words c.args.ws.now c.args.at c.args.count) [] (sym (append-nil _)) c.put_memory_lines.ensures

pub returns-then-is_none : goal.returns-then-is_none
returns-then-is_none c =
    let l = roomless (length c.args.out.now) _ _ c.block_room.ensures c.if-is_none.ensures in
    too_short (block_text c.args.ws.now c.args.at) c.args.out.now _ (size c.args.ws.now c.args.at c.args.count c.requires.1) l

pub put_block_head-n-requires : goal.put_block_head-n-requires
put_block_head-n-requires c =
    let a = c.args in
    omega (
      arith,
      enough (goal.at.put_block_head-n-requires c).Else-is_none,
      ap length (parts a.ws.now a.at a.count c.requires.1),
      length-append (head a.ws.now a.at a.count) (words a.ws.now a.at a.count),
    )

pub slice_bounds-put_memory_lines-count : goal.slice_bounds-put_memory_lines-count
slice_bounds-put_memory_lines-count c =
    let g = goal.at.slice_bounds-put_memory_lines-count c in within (emits1 g.After-put_block_head-n (enough g.Else-is_none))

pub slice_bounds-put_memory_lines-start : goal.slice_bounds-put_memory_lines-start
slice_bounds-put_memory_lines-start c =
    let g = goal.at.slice_bounds-put_memory_lines-start c in within (emits1 g.After-put_block_head-n (enough g.Else-is_none))

pub put_memory_lines-requires : goal.put_memory_lines-requires
put_memory_lines-requires c =
    let g = goal.at.put_memory_lines-requires c in
    lent_room (emits1 g.After-put_block_head-n (enough g.Else-is_none)) (words c.args.ws.now c.args.at c.args.count) [] (sym (append-nil _))

pub overflow_add-result : goal.overflow_add-result
overflow_add-result c =
    let g = goal.at.overflow_add-result c in
    small (emits2 g.After-put_memory_lines (emits1 g.After-put_block_head-n (enough g.Else-is_none))) (omega arith)

pub returns : goal.returns
returns c =
    let g = goal.at.returns c in
    emitted (emits2 g.After-put_memory_lines (emits1 g.After-put_block_head-n (enough g.Else-is_none))) refl
