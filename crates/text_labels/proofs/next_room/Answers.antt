use mathlib.Core.Path.{◌≡◌, sym, ap, ◌∙◌}
use Prim.Native.Nat.{ℕ}
use lib.ListN.{length}
use Rattle.text_words.specs.Room.{room_for}
use Rattle.text_words.proofs.RoomLaws.{room_taken}
use Rattle.label_items.specs.Joins.{tables_of}
use Rattle.text_labels.specs.Labels.{next_words}
use Rattle.text_labels.proofs.RoomLaws.{next-symbol-length, next-start-length}
use Rattle.text_labels.proofs.next_room.Goals as goal
use Rattle.text_labels.proofs.next_room.Goals.{then-has_symbol, else-has_symbol}

pub returns : goal.returns
returns c =
    let a = c.args in
    let e : c.if-has_symbol.words ≡ length (next_words (tables_of a.x) a.t.now a.p a.q) =
    elim c.if-has_symbol.branch [ then-has_symbol w ↦ w.words-is ∙ w.row_words-words.ensures ∙ next-symbol-length a.t.now (tables_of a.x) a.p a.q (sym c.has_symbol.ensures ∙ w.if-has_symbol.true) | else-has_symbol w ↦ w.words-is ∙ w.row_words-words-else-has_symbol.ensures ∙ next-start-length a.t.now (tables_of a.x) a.p a.q (sym c.has_symbol.ensures ∙ w.if-has_symbol.false) ] in
    room_taken _ _ _ c.checked_sub.ensures ∙ ap (λ (k : ℕ). room_for k a.room) e
