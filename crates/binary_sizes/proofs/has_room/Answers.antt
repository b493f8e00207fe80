-- All records fit, or the words do as counted. Assumes nothing.
use borrow.Author.Tests.{le-leb}
use mathlib.Core.Path.{sym, ◌∙◌}
use native.Mathlib.Omega.{arith}
use lib.ListN.{length}
use Rattle.binary_sizes.specs.ObjectWords.{object_words}
use Rattle.binary_sizes.proofs.has_room.Goals as goal

pub returns-then-most_words-room : goal.returns-then-most_words-room
returns-then-most_words-room c =
    let a = c.args in
    le-leb _ _ c.if-most_words-room.true
    ∙ sym (le-leb (length (object_words a.s.now)) a.room (omega (arith, c.most_words.ensures, c.if-most_words-room.true)))

pub returns-else-most_words-room : goal.returns-else-most_words-room
returns-else-most_words-room c = rw c.words_length.ensures
