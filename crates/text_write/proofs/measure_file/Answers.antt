-- The fixed lines, the blocks, and the groups. Assumes nothing.
use mathlib.Core.Path.{◌≡◌, refl, ap, ◌∙◌}
use mathlib.Core.List.{List, [], ◌++◌}
use Prim.Native.Nat.{ℕ}
use mathlib.Core.Option.{Option}
use Rattle.format.specs.Basics.{ascii}
use Rattle.format.specs.TextWriter.{text_line}
use Rattle.measuring.specs.Room.{less, less_part}
use Rattle.measuring.proofs.RoomLaws.{part-fits, part-short}
use Rattle.text_write.specs.Tables.{object_in, blocks_text}
use Rattle.text_write.specs.Groups.{head_lines, groups_text, file_text}
use Rattle.text_write.proofs.GroupLaws.{file_measured}
use Rattle.text_write.proofs.WalkedLaws.{blocks_are}
use Rattle.text_write.proofs.measure_file.Goals as goal
use Rattle.text_write.proofs.measure_file.Goals.{In_ok-a}

abbrev lines : List ℕ
lines = head_lines ++ text_line []

taken : {o : Option ℕ} (room : ℕ) → o ≡ less room 22 → o ≡ less_part room lines
unfolding ascii
taken room e = e

fits1 : (c : In_ok-a)
    → less_part c.in_ok-a.a (blocks_text c.args.ws.now ++ groups_text c.args.ws.now) ≡ less_part c.args.room (file_text c.args.ws.now)
fits1 c =
    let ws = c.args.ws.now in
    part-fits c.args.room lines (blocks_text ws ++ groups_text ws) refl (taken c.args.room c.in_ok-a.ensures)
    ∙ file_measured (object_in ws) c.args.room

pub returns-in_err-a : goal.returns-in_err-a
returns-in_err-a c =
    let ws = c.args.ws.now in
    rw c.from_residual.ensures
    (part-short c.args.room lines (blocks_text ws ++ groups_text ws) refl (taken c.args.room c.in_err-a.ensures)
    ∙ file_measured (object_in ws) c.args.room)

pub returns-in_err-b : goal.returns-in_err-b
returns-in_err-b c =
    let ws = c.args.ws.now in
    let left = c.in_ok-a.a in
    rw c.from_residual-in_err-b.ensures
    (part-short left (blocks_text ws) (groups_text ws) refl (c.in_err-b.ensures ∙ ap (less_part left) (blocks_are ws c.requires.0))
    ∙ fits1 (goal.at.returns-in_err-b c).In_ok-a)

pub measure_groups-requires : goal.measure_groups-requires
measure_groups-requires c = c.requires

pub returns : goal.returns
returns c =
    let ws = c.args.ws.now in
    let left = c.in_ok-a.a in
    c.measure_groups.ensures
    ∙ part-fits left (blocks_text ws) (groups_text ws) refl (c.in_ok-b.ensures ∙ ap (less_part left) (blocks_are ws c.requires.0))
    ∙ fits1 (goal.at.returns c).In_ok-a
