-- The address, then the name. Assumes nothing.
use native.Mathlib.Omega.{arith}
use mathlib.Core.Path.{◌≡◌, refl, sym, ap, ◌∙◌}
use mathlib.Core.List.{List, [], ◌++◌, append-nil, append_assoc}
use Prim.Native.Nat.{ℕ}
use lib.ListN.{length, length-append}
use Rattle.writing.proofs.Parts.{State, Emits, after, emit, emitted, within, small}
use Rattle.measuring.proofs.FittingLaws.{first-put, lent_room}
use Rattle.format.specs.TextWriter.{hex4, text_line, table_div}
use Rattle.object.specs.Texts.{text_bytes}
use Rattle.writing.proofs.WriteLaws.{too_short}
use Rattle.measuring.proofs.RoomLaws.{roomy, roomless}
use Rattle.text_rows_out.specs.Rows.{linker_line}
use Rattle.text_rows_out.proofs.RowLaws.{row-parts}
use Rattle.text_rows_out.proofs.put_linker_row.Goals as goal
use Rattle.text_rows_out.proofs.put_linker_row.Goals.{After-put_link_address-k, After-put_name_line}

module _ (address : ℕ) (name : List ℕ) where
  abbrev one : List ℕ
  one = hex4 address ++ table_div

  abbrev two : List ℕ
  two = text_line name

  parts : linker_line address name ≡ one ++ two
  parts = row-parts (hex4 address) table_div name ∙ sym (append_assoc (hex4 address) table_div two)

pub returns-then-is_none : goal.returns-then-is_none
returns-then-is_none c =
    too_short (linker_line c.args.address (text_bytes c.args.ws.now c.args.at c.args.n)) _ _ refl
    (roomless _ _ _ c.measure_linker_row.ensures c.if-is_none.ensures)

pub put_link_address-k-requires : goal.put_link_address-k-requires
put_link_address-k-requires c =
    let t = text_bytes c.args.ws.now c.args.at c.args.n in
    omega (
      arith,
      roomy _ _ _ c.measure_linker_row.ensures c.if-is_none.ensures,
      ap length (parts c.args.address t),
      length-append (one c.args.address t) (two c.args.address t),
    )

emits1 : (c : After-put_link_address-k) →
    let t = text_bytes c.args.ws.now c.args.at c.args.n in
    Emits (linker_line c.args.address t) c.args.out.now (text_line t) (record { at = c.put_link_address-k.result; out = c.put_link_address-k.new.out })
emits1 c =
    let t = text_bytes c.args.ws.now c.args.at c.args.n in
    first-put (one c.args.address t) (two c.args.address t) c.args.out.now (parts c.args.address t)
    (roomy _ _ _ c.measure_linker_row.ensures c.if-is_none.ensures) c.put_link_address-k.ensures

pub slice_bounds-put_name_line-count : goal.slice_bounds-put_name_line-count
slice_bounds-put_name_line-count c = within (emits1 (goal.at.slice_bounds-put_name_line-count c).After-put_link_address-k)

pub slice_bounds-put_name_line-start : goal.slice_bounds-put_name_line-start
slice_bounds-put_name_line-start c = within (emits1 (goal.at.slice_bounds-put_name_line-start c).After-put_link_address-k)

pub put_name_line-requires : goal.put_name_line-requires
put_name_line-requires c = lent_room (emits1 (goal.at.put_name_line-requires c).After-put_link_address-k) _ [] (sym (append-nil _))

emits2 : (c : After-put_name_line) →
    let s : State ℕ = record { at = c.put_link_address-k.result; out = c.put_link_address-k.new.out } in
    let whole = linker_line c.args.address (text_bytes c.args.ws.now c.args.at c.args.n) in
    Emits whole c.args.out.now (text_line (text_bytes c.args.ws.now c.args.at c.args.n)) s
    → Emits whole c.args.out.now [] (after s c.put_name_line.result c.put_name_line.new.out)
emits2 c f = emit f _ [] (sym (append-nil _)) c.put_name_line.ensures

pub overflow_add-result : goal.overflow_add-result
overflow_add-result c =
    let g = goal.at.overflow_add-result c in
    small (emits2 g.After-put_name_line (emits1 g.After-put_link_address-k)) (omega arith)

pub returns : goal.returns
returns c =
    let g = goal.at.returns c in
    emitted (emits2 g.After-put_name_line (emits1 g.After-put_link_address-k)) refl
