-- Up to the last cell, then that. Assumes nothing.
use borrow.Author.Rules.{rules}
use native.Mathlib.Omega.{arith}
use mathlib.Core.Path.{◌≡◌, refl, sym, ap, ◌∙◌}
use mathlib.Core.List.{List, [], ◌++◌, append-nil}
use Prim.Native.Nat.{ℕ, ◌+◌, ◌^◌, ◌≤◌, ◌<◌}
use lib.ListN.{length, length-append}
use Rattle.writing.proofs.Parts.{State, Emits, after, emit, emitted, within, small}
use Rattle.measuring.proofs.FittingLaws.{first-put, lent_room}
use Rattle.format.specs.TextWriter.{decimal, to_right, text_line}
use Rattle.text_numerals.specs.Memory.{word_of}
use Rattle.text_escape.specs.Escaped.{escaped_in}
use Rattle.text_escape.specs.Rows.{line_line, row_head}
use Rattle.writing.proofs.WriteLaws.{too_short}
use Rattle.text_escape.proofs.EscapeLaws.{line-length, row-parts}
use borrow.Author.Tests.{leb-true, leb-false}
use Rattle.text_escape.proofs.put_line_row.Lts as lts
use Rattle.text_escape.proofs.put_line_row.Reads as reads
use Rattle.text_escape.proofs.put_line_row.Tie as tie
use Rattle.text_escape.proofs.put_line_row.Goals as goal

abbrev After-put_source_cell : Type 0
After-put_source_cell = lts.After-put_source_cell tie.the-claims reads.Pre reads.Post

abbrev After-put_row_head : Type 0
After-put_row_head = lts.After-put_row_head tie.the-claims reads.Pre reads.Post

abbrev Else1 : Type 0
Else1 = lts.Else1 tie.the-claims reads.Pre reads.Post

abbrev Start : Type 0
Start = lts.Start tie.the-claims reads.Pre reads.Post

abbrev room : (s : Start) → List ℕ
room s = s.args.out.now

abbrev one : (s : Start) → List ℕ
one s = row_head s.args.width s.args.row.number (word_of s.args.row.address)

abbrev two : (s : Start) → List ℕ
two s = text_line (escaped_in s.args.ws.now s.args.at s.args.start s.args.end)

abbrev whole : (s : Start) → List ℕ
whole s = line_line s.args.width s.args.row.number (word_of s.args.row.address)
    (escaped_in s.args.ws.now s.args.at s.args.start s.args.end)

parts : (s : Start) → (whole s) ≡ (one s) ++ (two s)
parts s = row-parts s.args.width s.args.row.number (word_of s.args.row.address)
    (escaped_in s.args.ws.now s.args.at s.args.start s.args.end)

abbrev bytes : (s : Start) → ℕ
bytes s =
    11 + length (to_right s.args.width (decimal s.args.row.number))
    + length (escaped_in s.args.ws.now s.args.at s.args.start s.args.end)

size : (s : Start) → length (whole s) ≡ (bytes s)
size s =
    line-length s.args.width s.args.row.number (word_of s.args.row.address)
    (escaped_in s.args.ws.now s.args.at s.args.start s.args.end)

enough : (e : Else1) → length (whole e.before.before.before.before) ≤ length (room e.before.before.before.before)
enough e =
    omega (
      arith,
      size e.before.before.before.before,
      leb-true (bytes e.before.before.before.before) (length (room e.before.before.before.before)) (sym e.row_fits.ensures ∙ e.if-not-row_fits.false),
    )

head-fits : (e : Else1) → length (one e.before.before.before.before) ≤ length (room e.before.before.before.before)
head-fits e = omega (arith, (enough e), ap length (parts e.before.before.before.before), length-append (one e.before.before.before.before) (two e.before.before.before.before))

abbrev state1 : (c : After-put_row_head) → State ℕ
state1 c = record { at = c.put_row_head-k.result; out = c.put_row_head-k.new.out }

emits1 : (c : After-put_row_head) → Emits (whole c.before.before.before.before.before.before) (room c.before.before.before.before.before.before) (two c.before.before.before.before.before.before) (state1 c)
emits1 c = first-put (one c.before.before.before.before.before.before) (two c.before.before.before.before.before.before) (room c.before.before.before.before.before.before) (parts c.before.before.before.before.before.before) (enough c.before.before) c.put_row_head-k.ensures

emits2 : (c : After-put_source_cell) → Emits (whole c.before.before.before.before.before.before.before.before.before.before) (room c.before.before.before.before.before.before.before.before.before.before) [] (after (state1 c.before.before.before.before) c.put_source_cell.result c.put_source_cell.new.out)
emits2 c = emit (emits1 c.before.before.before.before) (two c.before.before.before.before.before.before.before.before.before.before) [] (sym (append-nil (two c.before.before.before.before.before.before.before.before.before.before))) c.put_source_cell.ensures

tight : (c : After-put_source_cell) → length (room c.before.before.before.before.before.before.before.before.before.before) < 2 ^ 64
tight c = search rules

pub returns-then-not-row_fits : goal.returns-then-not-row_fits
returns-then-not-row_fits c =
    too_short (whole c.before.before.before.before.before) (room c.before.before.before.before.before) (length (whole c.before.before.before.before.before)) refl
    (omega (arith, size c.before.before.before.before.before, leb-false (bytes c.before.before.before.before.before) (length (room c.before.before.before.before.before)) (sym c.row_fits.ensures ∙ c.if-not-row_fits.true)))

pub put_row_head-k-requires : goal.put_row_head-k-requires
put_row_head-k-requires c = head-fits c.before.before

pub slice_bounds-put_source_cell-count : goal.slice_bounds-put_source_cell-count
slice_bounds-put_source_cell-count c = within (emits1 c.before.before.before)

pub slice_bounds-put_source_cell-start : goal.slice_bounds-put_source_cell-start
slice_bounds-put_source_cell-start c = within (emits1 c.before.before.before)

pub put_source_cell-requires : goal.put_source_cell-requires
put_source_cell-requires c = lent_room (emits1 c.before.before.before.before) (two c.before.before.before.before.before.before.before.before.before.before) [] (sym (append-nil (two c.before.before.before.before.before.before.before.before.before.before)))

pub overflow_add-result : goal.overflow_add-result
overflow_add-result c = small (emits2 c.before.before.before) (tight c.before.before.before)

pub returns : goal.returns
returns c = emitted (emits2 c.before.before.before) refl
