-- Up to the last cell, then that. Assumes nothing.
use native.Mathlib.Omega.{arith}
use mathlib.Core.Path.{◌≡◌, refl, sym, ap, ◌∙◌}
use mathlib.Core.List.{List, [], ◌∷◌, ◌++◌, append-nil}
use Prim.Native.Nat.{ℕ, ◌+◌, ◌-◌, ◌≤◌}
use lib.ListN.{length, length-append}
use Rattle.writing.proofs.Parts.{State, Emits, rest, after, emit, emitted, within, small}
use Rattle.measuring.proofs.FittingLaws.{first-put, lent_room}
use Rattle.format.specs.TextWriter.{decimal, to_right}
use Rattle.text_numerals.specs.Memory.{word_of}
use Rattle.object.specs.Texts.{span_bytes}
use Rattle.text_escape.specs.Rows.{line_line, row_head, newline_bytes, plain_cell}
use Rattle.object.proofs.SpanLaws.{span-length}
use Rattle.writing.proofs.WriteLaws.{too_short}
use Rattle.writing.specs.Written.{Put}
use mathlib.Core.Option.{Option}
use borrow.Author.Rules.{rules}
use Rattle.measuring.proofs.RoomLaws.{roomy, roomless}
use Rattle.text_escape.proofs.EscapeLaws.{line-length, row-parts, plain_parts}
use Rattle.text_escape.proofs.put_plain_row.Goals as goal
use Rattle.text_escape.proofs.put_plain_row.Goals.{After-put_row_head-k}

module _ (ws : List ℕ) (width number : ℕ) (address : Option ℕ) (at start end : ℕ) where
  abbrev one : List ℕ
  one = row_head width number address

  abbrev two : List ℕ
  two = span_bytes ws at start end ++ newline_bytes

  abbrev whole : List ℕ
  whole = line_line width number address (plain_cell ws at start end)

  parts : whole ≡ one ++ two
  parts = row-parts width number address (plain_cell ws at start end) ∙ ap (λ (x : List ℕ). one ++ x) (plain_parts (span_bytes ws at start end))

  size : (len : ℕ) → len ≡ end - start → length whole ≡ 13 + length (to_right width (decimal number)) + len
  size len e =
      let span = span_bytes ws at start end in
      omega (
        arith,
        e,
        line-length width number address (plain_cell ws at start end),
        length-append span (0x5C ∷ 0x6E ∷ []),
        span-length ws at start end,
      )

  -- it fits
  module _ (room len : ℕ) (e : len ≡ end - start) (m : 13 + length (to_right width (decimal number)) + len ≤ room) where
    enough : length whole ≤ room
    enough = omega (arith, m, size len e)

    head-fits : length one ≤ room
    head-fits = omega (arith, enough, ap length parts, length-append one two)

emits1 : (c : After-put_row_head-k)
    → Emits (whole c.args.ws.now c.args.width c.args.row.number (word_of c.args.row.address) c.args.at c.args.start c.args.end)
    c.args.out.now (two c.args.ws.now c.args.width c.args.row.number (word_of c.args.row.address) c.args.at c.args.start c.args.end)
    (record { at = c.put_row_head-k.result; out = c.put_row_head-k.new.out })
emits1 c =
    let o = word_of c.args.row.address in
    first-put (one c.args.ws.now c.args.width c.args.row.number o c.args.at c.args.start c.args.end)
    (two c.args.ws.now c.args.width c.args.row.number o c.args.at c.args.start c.args.end) c.args.out.now
    (parts c.args.ws.now c.args.width c.args.row.number o c.args.at c.args.start c.args.end)
    (enough c.args.ws.now c.args.width c.args.row.number o c.args.at c.args.start c.args.end (length c.args.out.now) c.span_len.result
    c.span_len.ensures (roomy _ _ _ c.measure_plain_row.ensures c.if-is_none.ensures))
    c.put_row_head-k.ensures

-- the rest
last : {whole room two ys : List ℕ} {s : State ℕ} {r : ℕ} → Emits whole room two s → Put two (rest s) r ys → Emits whole room [] (after s r ys)
last {two = two} f p = emit f two [] (sym (append-nil two)) p

pub returns-then-is_none : goal.returns-then-is_none
returns-then-is_none c =
    let w = whole c.args.ws.now c.args.width c.args.row.number (word_of c.args.row.address) c.args.at c.args.start c.args.end in
    let l = roomless (length c.args.out.now) (13 + length (to_right c.args.width (decimal c.args.row.number)) + c.span_len.result) _
    c.measure_plain_row.ensures c.if-is_none.ensures in
    too_short w c.args.out.now (length w) refl
    (omega (
      arith,
      l,
      size c.args.ws.now c.args.width c.args.row.number (word_of c.args.row.address) c.args.at c.args.start c.args.end c.span_len.result c.span_len.ensures,
    ))

pub put_row_head-k-requires : goal.put_row_head-k-requires
put_row_head-k-requires c =
    head-fits c.args.ws.now c.args.width c.args.row.number (word_of c.args.row.address) c.args.at c.args.start c.args.end
    (length c.args.out.now) c.span_len.result c.span_len.ensures (roomy _ _ _ c.measure_plain_row.ensures c.if-is_none.ensures)

pub slice_bounds-put_plain_cell-count : goal.slice_bounds-put_plain_cell-count
slice_bounds-put_plain_cell-count c = within (emits1 (goal.at.slice_bounds-put_plain_cell-count c).After-put_row_head-k)

pub slice_bounds-put_plain_cell-start : goal.slice_bounds-put_plain_cell-start
slice_bounds-put_plain_cell-start c = within (emits1 (goal.at.slice_bounds-put_plain_cell-start c).After-put_row_head-k)

pub put_plain_cell-requires : goal.put_plain_cell-requires
put_plain_cell-requires c = lent_room (emits1 (goal.at.put_plain_cell-requires c).After-put_row_head-k) _ [] (sym (append-nil _))

pub overflow_add-result : goal.overflow_add-result
overflow_add-result c = small (last (emits1 (goal.at.overflow_add-result c).After-put_row_head-k) c.put_plain_cell.ensures) (search rules)

pub returns : goal.returns
returns c = emitted (last (emits1 (goal.at.returns c).After-put_row_head-k) c.put_plain_cell.ensures) refl
