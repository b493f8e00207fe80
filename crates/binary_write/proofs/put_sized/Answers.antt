-- The length, and the bytes. Assumes nothing.
use mathlib.Core.Path.{◌≡◌, refl, sym, ap, ◌∙◌}
use mathlib.Core.List.{List, [], ◌++◌, append-nil}
use Prim.Native.Nat.{ℕ}
use lib.ListN.{length}
use Rattle.format.specs.Digits.{digits_of}
use Rattle.writing.proofs.Parts.{State, Emits, after, begin, emit, emitted, within, small, same}
use Rattle.object.specs.Texts.{text_len}
use Rattle.binary_measure.specs.Measured.{text_of}
use Rattle.binary_write.specs.Files.{sized}
use Rattle.binary_measure.proofs.TextLaws.{text-length}
use Rattle.binary_write.proofs.RoomLaws.{lent_part}
use Rattle.binary_write.proofs.put_sized.Lts as lts
use Rattle.binary_write.proofs.put_sized.Reads as reads
use Rattle.binary_write.proofs.put_sized.Tie as tie
use Rattle.binary_write.proofs.put_sized.Goals as goal

abbrev After-put_text : Type 0
After-put_text = lts.After-put_text tie.the-claims reads.Pre reads.Post

abbrev After-put_u64_le : Type 0
After-put_u64_le = lts.After-put_u64_le tie.the-claims reads.Pre reads.Post

abbrev Start : Type 0
Start = lts.Start tie.the-claims reads.Pre reads.Post

abbrev words : (s : Start) → List ℕ
words s = s.args.words.now

abbrev text : (s : Start) → List ℕ
text s = text_of (words s)

abbrev room : (s : Start) → List ℕ
room s = s.args.out.now

abbrev whole : (s : Start) → List ℕ
whole s = sized (text s)

abbrev left2 : (s : Start) → List ℕ
left2 s = []

abbrev left1 : (s : Start) → List ℕ
left1 s = (text s)

size-first : (s : Start) → (n : ℕ) → n ≡ text_len (words s) 0 (length (words s)) → digits_of 8 8 (length (text s)) ++ (text s) ≡ digits_of 8 8 n ++ (text s)
size-first s n e = ap (λ k. digits_of 8 8 k ++ (text s)) (sym (e ∙ text-length (words s) s.requires.0))

abbrev state1 : After-put_u64_le → State ℕ
state1 c = after (record { at = 0; out = room c.before.before.before.before.before }) c.put_u64_le-o.result c.put_u64_le-o.new.out

emits1 : (c : After-put_u64_le) → Emits (whole c.before.before.before.before.before) (room c.before.before.before.before.before) (left1 c.before.before.before.before.before) (state1 c)
unfolding sized
emits1 c = emit (begin _ _ c.requires.1) _ _ (size-first c.before.before.before.before.before _ c.text_len-n.ensures) c.put_u64_le-o.ensures

abbrev state2 : After-put_text → State ℕ
state2 c = after (state1 c.before.before.before.before) c.put_text-o.result c.put_text-o.new.out

emits2 : (c : After-put_text) → Emits (whole c.before.before.before.before.before.before.before.before.before) (room c.before.before.before.before.before.before.before.before.before) (left2 c.before.before.before.before.before.before.before.before.before) (state2 c)
emits2 c = emit (emits1 c.before.before.before.before) _ _ (sym (append-nil _)) c.put_text-o.ensures

pub put_text-o-requires : goal.put_text-o-requires
put_text-o-requires c =
    (c.requires.0, lent_part (emits1 c.before.before.before.before) (text c.before.before.before.before.before.before.before.before.before) [] (sym (append-nil (text c.before.before.before.before.before.before.before.before.before))))

pub returns : goal.returns
returns c = emitted (emits2 c.before.before.before) refl

pub overflow_add-o : goal.overflow_add-o
overflow_add-o c = small (emits1 c.before.before.before) c.well_formed.0.0

pub slice_bounds-put_text-count : goal.slice_bounds-put_text-count
slice_bounds-put_text-count c = within (emits1 c.before.before.before)

pub slice_bounds-put_text-start : goal.slice_bounds-put_text-start
slice_bounds-put_text-start c = within (emits1 c.before.before.before)

pub overflow_add-o-2 : goal.overflow_add-o-2
overflow_add-o-2 c = small (emits2 c.before.before.before) c.well_formed.0.0

pub shape_of-out : goal.shape_of-out
shape_of-out c = same (emits2 c.before.before.before)
