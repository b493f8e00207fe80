-- By its four bytes, or as any line. Assumes nothing.
use Rattle.std.proofs.Common.{arith}
use Rattle.text_cells.specs.Cells.{number_read}
use Rattle.text_blocks.specs.Blocks.{EntryAt}
use Rattle.text_blocks.proofs.EntryLaws.{short-entry_at}
use Rattle.text_blocks.proofs.BlockLaws.{words-none, words-bad}
use Rattle.text_blocks.proofs.pass_entry.Goals as goal
use Rattle.text_blocks.proofs.pass_entry.Goals.{Then-short_entry-ne0}

entry : (c : Then-short_entry-ne0) → EntryAt c.args.t.now c.args.at c.short_entry.result
entry c =
    short-entry_at _ _ _ _ (λ k. (c.shared_slice_known-1.given k).fits) c.short_entry.ensures c.requires c.if-short_entry-ne0.true

pub returns-then-short_entry-ne0 : goal.returns-then-short_entry-ne0
returns-then-short_entry-ne0 c =
    let e = entry (goal.at.returns-then-short_entry-ne0 c).Then-short_entry-ne0 in record { start = _; end = _; row = e.row; entry = e.entry; read = e.read }

pub returns-in_err-line : goal.returns-in_err-line
returns-in_err-line c = rw c.from_residual.ensures (λ n h. words-none c.args.t.now c.args.at n h c.in_err-line.ensures)

pub returns-in_err-maybe_hex2u16 : goal.returns-in_err-maybe_hex2u16
returns-in_err-maybe_hex2u16 c =
    rw c.from_residual-in_err-maybe_hex2u16.ensures
    (λ n h. words-bad c.args.t.now c.args.at _ _ _ c.in_ok-line.ensures n h c.in_err-maybe_hex2u16.ensures)

pub returns : goal.returns
returns c =
    record { start = _; end = _; row = c.in_ok-line.ensures; entry = number_read c.in_ok-maybe_hex2u16.field-0; read = c.in_ok-maybe_hex2u16.ensures }

pub overflow_add-result : goal.overflow_add-result
overflow_add-result c = omega (arith, (entry (goal.at.overflow_add-result c).Then-short_entry-ne0).row.next)

pub overflow_add-result-then-short_entry-ne0 : goal.overflow_add-result-then-short_entry-ne0
overflow_add-result-then-short_entry-ne0 c = omega (arith, (entry (goal.at.overflow_add-result-then-short_entry-ne0 c).Then-short_entry-ne0).row.next)
