-- What the words leave of the largest room. Assumes nothing.
use native.Mathlib.Omega.{arith}
use mathlib.Core.Path.{◌≡◌}
use mathlib.Core.Option.{some}
use Prim.Native.Nat.{ℕ, ◌+◌}
use Rattle.text_words.specs.Room.{room_after}
use Rattle.known_labels.specs.Known.{label_parts}
use Rattle.text_read.specs.Parts.{rest_words}
use Rattle.text_read.proofs.PartLaws.{labels_lack, labels_below, all_lack, all_left}
use Rattle.text_read.proofs.object_length.Goals as goal
use Rattle.text_read.proofs.object_length.Goals.{In-Some, In-Some-others_room}

abbrev most : ℕ  -- the largest room
most = 0xFFFF_FFFF_FFFF_FFFF

labels : (c : In-Some) → some c.in-Some.left ≡ room_after (label_parts c.args.u.now) most
labels c = c.in-Some.ensures

all : (c : In-Some-others_room) → some c.in-Some.left ≡ room_after (label_parts c.args.u.now) most
    → c.args.fixed + rest_words c.args.u.now c.args.sourced + c.in-Some-others_room.last ≡ most
all c l =
    all_left _ most _ l c.args.sourced _ c.keeps_relocations-kept.ensures c.args.fixed _
    c.in-Some-others_room.ensures

pub returns-in_default : goal.returns-in_default
returns-in_default c =
    absurd
    (let h = labels_lack c.args.u.now c.args.sourced c.args.fixed most c.in_default.ensures in
    omega (arith, h, c.requires))

pub overflow_sub-most : goal.overflow_sub-most
overflow_sub-most c = labels_below _ _ _ (labels (goal.at.overflow_sub-most c).In-Some)

pub returns-in_default-others_room : goal.returns-in_default-others_room
returns-in_default-others_room c =
    let l = labels (goal.at.returns-in_default-others_room c).In-Some in
    absurd
    (let h = all_lack _ most _ l c.args.sourced _ c.keeps_relocations-kept.ensures c.args.fixed c.in_default-others_room.ensures in
    omega (arith, h, c.requires))

pub overflow_sub-result : goal.overflow_sub-result
overflow_sub-result c =
    let g = goal.at.overflow_sub-result c in omega (arith, all g.In-Some-others_room (labels g.In-Some))

pub returns : goal.returns
returns c = let g = goal.at.returns c in omega (arith, all g.In-Some-others_room (labels g.In-Some))
