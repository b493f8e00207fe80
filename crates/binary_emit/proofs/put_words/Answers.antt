-- The words, where there is room. Assumes nothing.
use borrow.Author.Tests.{leb-true, leb-false}
use mathlib.Core.Path.{sym, ◌∙◌}
use Prim.Native.Nat.{◌≤◌}
use lib.ListN.{length}
use Rattle.units.proofs.RefusalLaws.{err-short}
use Rattle.writing.proofs.WriteLaws.{put_fills}
use Rattle.binary_sizes.specs.ObjectWords.{object_words}
use Rattle.binary_emit.proofs.put_words.Goals as goal
use Rattle.binary_emit.proofs.put_words.Goals.{Else-not-has_room}

-- there is room
fits : (c : Else-not-has_room) → length (object_words c.args.s.now) ≤ length c.args.out.now
fits c = leb-true _ _ (sym c.has_room.ensures ∙ c.if-not-has_room.false)

pub returns-then-not-has_room : goal.returns-then-not-has_room
returns-then-not-has_room c = err-short _ _ (leb-false _ _ (sym c.has_room.ensures ∙ c.if-not-has_room.true))

pub put_object-requires : goal.put_object-requires
put_object-requires c = fits (goal.at.put_object-requires c).Else-not-has_room

pub returns : goal.returns
returns c = put_fills _ _ (fits (goal.at.returns c).Else-not-has_room) c.put_object.ensures
