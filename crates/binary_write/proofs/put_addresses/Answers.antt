-- What is left of the words is what is left to emit, two bytes a word. Assumes nothing.
use mathlib.Core.Path.{◌≡◌, refl}
use mathlib.Core.List.{List, ◌∷◌}
use Prim.Native.Nat.{ℕ, ◌+◌, ◌/◌, ◌%◌}
use lib.ListN.{drop, get_or, set}
use Rattle.writing.proofs.Parts.{Emits, begin, emit_one, room-one, emitted, same, small}
use Rattle.binary_write.specs.Files.{address_part}
use Rattle.binary_write.proofs.PartLaws.{addresses-here, addresses-end}
use Rattle.binary_write.proofs.put_addresses.Goals as goal
use Rattle.binary_write.proofs.put_addresses.Goals.{In-loop-w}

abbrev words : (c : In-loop-w) → List ℕ
words c = c.args.words.now

abbrev room : (c : In-loop-w) → List ℕ
room c = c.args.out.now

abbrev w : (c : In-loop-w) → ℕ
w c = get_or (words c) c.loop-w.w-index 0

abbrev left : (c : In-loop-w) → List ℕ
left c = address_part (drop (c.loop-w.w-index + 1) (words c))

here : (c : In-loop-w) → address_part (drop c.loop-w.w-index (words c)) ≡ (w c) % 256 ∷ (w c) / 256 % 256 ∷ (left c)
here c = addresses-here (words c) c.loop-w.w-index c.loop-w-test.true

abbrev out1 : (c : In-loop-w) → List ℕ
out1 c = set c.loop-w.out c.loop-w.at ((w c) % 256)

emits1 : (c : In-loop-w) → Emits (address_part (words c)) (room c) ((w c) / 256 % 256 ∷ (left c)) (record { at = c.loop-w.at + 1; out = (out1 c) })
emits1 c = emit_one c.loop-w.invariant _ _ (here c)

emits2 : (c : In-loop-w) → Emits (address_part (words c)) (room c) (left c)
    (record { at = c.loop-w.at + 1 + 1; out = set (out1 c) (c.loop-w.at + 1) ((w c) / 256 % 256) })
emits2 c = emit_one (emits1 c) _ _ refl

pub loop-w-init : goal.loop-w-init
loop-w-init c = begin _ _ c.requires

pub bounds-out-at : goal.bounds-out-at
bounds-out-at c = room-one c.loop-w.invariant _ _ (here (goal.at.bounds-out-at c).In-loop-w)

pub overflow_add-at : goal.overflow_add-at
overflow_add-at c = small (emits1 (goal.at.overflow_add-at c).In-loop-w) c.well_formed.0.0

pub bounds-out-at-in-loop-w : goal.bounds-out-at-in-loop-w
bounds-out-at-in-loop-w c = room-one (emits1 (goal.at.bounds-out-at-in-loop-w c).In-loop-w) _ _ refl

pub overflow_add-at-in-loop-w : goal.overflow_add-at-in-loop-w
overflow_add-at-in-loop-w c = small (emits2 (goal.at.overflow_add-at-in-loop-w c).In-loop-w) c.well_formed.0.0

pub loop-w-preserved : goal.loop-w-preserved
loop-w-preserved c = emits2 (goal.at.loop-w-preserved c).In-loop-w

pub shape_of-out : goal.shape_of-out
shape_of-out c = same c.loop-w.invariant

pub returns : goal.returns
returns c = emitted c.loop-w.invariant (addresses-end _ _ c.loop-w-test.false)
