use mathlib.Core.Path.{◌≡◌, sym, ap, ◌∙◌}
use Prim.Native.Nat.{ℕ, ◌+◌, ◌/◌}
use lib.ListN.{length}
use Rattle.text_words.specs.Room.{room_for}
use Rattle.text_words.proofs.RoomLaws.{room_taken}
use Rattle.text_words.proofs.WordLaws.{thirds}
use Rattle.label_items.proofs.ItemLaws.{item_length}
use Rattle.label_items.proofs.item_room.Goals as goal

pub returns : goal.returns
returns c =
    let a = c.args in
    let n = length c.name_of.result.now in
    let e : 4 + c.div_ceil.result ≡ 4 + (n + 2) / 3 = ap (λ (k : ℕ). 4 + k) (c.div_ceil.ensures ∙ thirds n) in
    room_taken _ _ _ c.checked_sub.ensures ∙ ap (λ (k : ℕ). room_for k a.room) (e ∙ sym (item_length a.t.now a.x n (ap length c.name_of.ensures)))
