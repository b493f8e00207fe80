use mathlib.Core.Path.{◌≡◌, ap, ◌∙◌}
use mathlib.Core.List.{List}
use Prim.Native.Nat.{ℕ, ◌+◌}
use lib.ListN.{length}
use Rattle.object.specs.Texts.{text_bytes}
use Rattle.object.proofs.ByteLaws.{bytes-length}
use Rattle.measuring.proofs.RoomLaws.{fits-then, short-then}
use Rattle.text_rows_out.specs.Rows.{linker_line}
use Rattle.text_rows_out.proofs.RowLaws.{linker-length}
use Rattle.text_rows_out.proofs.measure_linker_row.Goals as goal

size : (address : ℕ) (ws : List ℕ) (at n : ℕ) → length (linker_line address (text_bytes ws at n)) ≡ 8 + n
size address ws at n = linker-length address (text_bytes ws at n) ∙ ap (λ (k : ℕ). 8 + k) (bytes-length ws at 0 n)

pub returns-in_err-left : goal.returns-in_err-left
returns-in_err-left c =
    let a = c.args in rw c.from_residual.ensures (short-then a.room 8 a.n (size a.address a.ws.now a.at a.n) c.in_err-left.ensures)

pub returns : goal.returns
returns c =
    let a = c.args in fits-then a.room 8 a.n (size a.address a.ws.now a.at a.n) c.in_ok-left.ensures c.take-2.ensures
