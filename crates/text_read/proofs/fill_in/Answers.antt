-- The room, and the words. Assumes nothing.
use mathlib.Core.Path.{◌≡◌, ap, ◌∙◌}
use mathlib.Core.Bool.{Bool, ◌||◌, not}
use lib.Dec.{eqb}
use Prim.Native.Nat.{◌-◌, ◌≤◌}
use lib.ListN.{length}
use Rattle.std.specs.Prelude.{is_some}
use Rattle.text_scan.specs.Walk.{rows_in}
use Rattle.writing.proofs.WriteLaws.{put_fills}
use Rattle.text_read.specs.Parts.{joined, object_parts}
use Rattle.text_read.proofs.PartLaws.{labels_lack, labels_below, kept_is, all_lack, all_left}
use Rattle.text_read.proofs.FileLaws.{fill_lacks, fill-fits}
use Rattle.text_read.proofs.fill_in.Goals as goal
use Rattle.text_read.proofs.fill_in.Goals.{In-Some-others_room}

kept : (c : In-Some-others_room) → c.keeps_relocations-kept.result ≡ (is_some c.args.source || not (eqb (length c.args.out.now - c.in-Some.left) 0))
kept c =
    c.keeps_relocations-kept.ensures ∙ ap (λ (b : Bool). b || not (eqb (length c.args.out.now - c.in-Some.left) 0)) c.is_some.ensures

fits : (c : In-Some-others_room) →
    let a = c.args in
    length (joined (object_parts a.u.now a.t.now (is_some a.source) (rows_in a.source))) ≤ length a.out.now
fits c =
    let a = c.args in
    fill-fits _ _ (is_some a.source) (rows_in a.source) a.fixed c.requires.1 a.out.now _
    (all_left _ _ _ c.in-Some.ensures (is_some a.source) _ (kept c) a.fixed _ c.in-Some-others_room.ensures)

pub known_room-requires : goal.known_room-requires
known_room-requires c = c.requires.2

pub returns-in_default : goal.returns-in_default
returns-in_default c =
    let a = c.args in
    fill_lacks _ _ (is_some a.source) (rows_in a.source) a.fixed c.requires.1 a.out.now
    (labels_lack a.u.now (is_some a.source) a.fixed (length a.out.now) c.in_default.ensures)

pub overflow_sub-room : goal.overflow_sub-room
overflow_sub-room c = labels_below _ _ _ c.in-Some.ensures

pub returns-in_default-others_room : goal.returns-in_default-others_room
returns-in_default-others_room c =
    let a = c.args in
    fill_lacks _ _ (is_some a.source) (rows_in a.source) a.fixed c.requires.1 a.out.now
    (all_lack _ _ _ c.in-Some.ensures (is_some a.source) _ (c.keeps_relocations-kept.ensures ∙ ap (λ (b : Bool). b || not (eqb (length a.out.now - c.in-Some.left) 0)) c.is_some.ensures) a.fixed c.in_default-others_room.ensures)

pub put_object-requires : goal.put_object-requires
put_object-requires c =
    let d = (goal.at.put_object-requires c).In-Some-others_room in
    (c.requires.0, fits d, kept_is _ _ _ c.in-Some.ensures (is_some c.args.source) _ (kept d), c.requires.2)

pub returns : goal.returns
returns c = put_fills _ _ (fits (goal.at.returns c).In-Some-others_room) c.put_object.ensures
