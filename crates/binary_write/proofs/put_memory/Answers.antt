-- What is left of the words is what is left to emit, three bytes a word. Assumes nothing.
use mathlib.Core.Path.{◌≡◌, refl, ap, sym, ◌∙◌}
use mathlib.Core.List.{List, ◌∷◌}
use Prim.Native.Nat.{ℕ, ◌+◌, ◌/◌, ◌%◌}
use lib.ListN.{drop, get_or, set}
use Rattle.writing.proofs.Parts.{Emits, begin, emit_one, room-one, emitted, same, small}
use Rattle.binary_write.specs.Files.{memory_part}
use Rattle.binary_write.proofs.PartLaws.{memory_here, memory_end}
use Rattle.binary_write.proofs.put_memory.Goals as goal
use Rattle.binary_write.proofs.put_memory.Goals.{After-flag}

abbrev words : (c : After-flag) → List ℕ
words c = c.args.words.now

abbrev room : (c : After-flag) → List ℕ
room c = c.args.out.now

abbrev w : (c : After-flag) → ℕ
w c = get_or (words c) c.loop-w.w-index 0

abbrev left : (c : After-flag) → List ℕ
left c = memory_part (drop (c.loop-w.w-index + 1) (words c))

here : (c : After-flag) → memory_part (drop c.loop-w.w-index (words c)) ≡ c.flag.result ∷ (w c) % 256 ∷ (w c) / 256 % 256 ∷ (left c)
here c =
    memory_here (words c) c.loop-w.w-index c.loop-w-test.true
    ∙ ap (λ b. b ∷ (w c) % 256 ∷ (w c) / 256 % 256 ∷ (left c)) (sym c.flag.ensures)

abbrev out1 : (c : After-flag) → List ℕ
out1 c = set c.loop-w.out c.loop-w.at c.flag.result

emits1 : (c : After-flag) → Emits (memory_part (words c)) (room c) ((w c) % 256 ∷ (w c) / 256 % 256 ∷ (left c)) (record { at = c.loop-w.at + 1; out = (out1 c) })
emits1 c = emit_one c.loop-w.invariant _ _ (here c)

abbrev out2 : (c : After-flag) → List ℕ
out2 c = set (out1 c) (c.loop-w.at + 1) ((w c) % 256)

emits2 : (c : After-flag) → Emits (memory_part (words c)) (room c) ((w c) / 256 % 256 ∷ (left c)) (record { at = c.loop-w.at + 1 + 1; out = (out2 c) })
emits2 c = emit_one (emits1 c) _ _ refl

emits3 : (c : After-flag) → Emits (memory_part (words c)) (room c) (left c)
    (record { at = c.loop-w.at + 1 + 1 + 1; out = set (out2 c) (c.loop-w.at + 1 + 1) ((w c) / 256 % 256) })
emits3 c = emit_one (emits2 c) _ _ refl

pub loop-w-init : goal.loop-w-init
loop-w-init c = begin _ _ c.requires

pub bounds-out-at : goal.bounds-out-at
bounds-out-at c = room-one c.loop-w.invariant _ _ (here (goal.at.bounds-out-at c).After-flag)

pub overflow_add-at : goal.overflow_add-at
overflow_add-at c = small (emits1 (goal.at.overflow_add-at c).After-flag) c.well_formed.0.0

pub bounds-out-at-in-loop-w : goal.bounds-out-at-in-loop-w
bounds-out-at-in-loop-w c = room-one (emits1 (goal.at.bounds-out-at-in-loop-w c).After-flag) _ _ refl

pub overflow_add-at-in-loop-w : goal.overflow_add-at-in-loop-w
overflow_add-at-in-loop-w c = small (emits2 (goal.at.overflow_add-at-in-loop-w c).After-flag) c.well_formed.0.0

pub bounds-out-at-in-loop-w-2 : goal.bounds-out-at-in-loop-w-2
bounds-out-at-in-loop-w-2 c = room-one (emits2 (goal.at.bounds-out-at-in-loop-w-2 c).After-flag) _ _ refl

pub overflow_add-at-in-loop-w-2 : goal.overflow_add-at-in-loop-w-2
overflow_add-at-in-loop-w-2 c = small (emits3 (goal.at.overflow_add-at-in-loop-w-2 c).After-flag) c.well_formed.0.0

pub loop-w-preserved : goal.loop-w-preserved
loop-w-preserved c = emits3 (goal.at.loop-w-preserved c).After-flag

pub shape_of-out : goal.shape_of-out
shape_of-out c = same c.loop-w.invariant

pub returns : goal.returns
returns c = emitted c.loop-w.invariant (memory_end _ _ c.loop-w-test.false)
