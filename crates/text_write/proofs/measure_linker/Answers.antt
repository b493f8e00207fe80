-- The rows, then the header if there are any. Assumes nothing.
use mathlib.Core.Path.{◌≡◌, ap, ◌∙◌}
use mathlib.Core.List.{List}
use mathlib.Core.Option.{some}
use Prim.Native.Nat.{ℕ}
use Rattle.format.specs.ObjectFile.{Relocation}
use Rattle.measuring.specs.Room.{less_part}
use Rattle.text_write.specs.Tables.{object_in, relocation_rows, relocations_text}
use Rattle.text_write.proofs.GroupLaws.{linker-nothing, linker-left, linker-short}
use Rattle.text_write.proofs.WalkedLaws.{links_are}
use Rattle.text_write.proofs.measure_linker.Goals as goal
use Rattle.text_write.proofs.measure_linker.Goals.{In_ok-left}

abbrev left : (c : In_ok-left) → ℕ
left c = c.in_ok-left.left

abbrev relocations : (c : In_ok-left) → List Relocation
relocations c = (object_in c.args.ws.now).relocations

fits : (c : In_ok-left) → some (left c) ≡ less_part c.args.room (relocations_text c.args.ws.now)
fits c = c.in_ok-left.ensures
    ∙ ap (less_part c.args.room) (links_are c.args.ws.now c.args.from c.requires)

pub returns-in_err-left : goal.returns-in_err-left
unfolding relocation_rows
returns-in_err-left c =
    rw c.from_residual.ensures
    (linker-short (object_in c.args.ws.now).relocations c.args.room
    (c.in_err-left.ensures ∙ ap (less_part c.args.room) (links_are c.args.ws.now c.args.from c.requires)))

pub returns-then-left-room : goal.returns-then-left-room
unfolding relocation_rows
returns-then-left-room c = linker-nothing (relocations (goal.at.returns-then-left-room c).In_ok-left) c.args.room (left (goal.at.returns-then-left-room c).In_ok-left) (fits (goal.at.returns-then-left-room c).In_ok-left) c.if-left-room.true

pub returns : goal.returns
unfolding relocation_rows
returns c =
    c.take.ensures ∙ linker-left (relocations (goal.at.returns c).In_ok-left) c.args.room (left (goal.at.returns c).In_ok-left) (fits (goal.at.returns c).In_ok-left) c.if-left-room.false
