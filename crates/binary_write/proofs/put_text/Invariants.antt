use Prim.Native.Nat.{◌+◌, ◌≤◌}
use lib.ListN.{length, drop}
use Rattle.object.specs.Bodies.{Text}
use Rattle.writing.proofs.Parts.{Emits}
use Rattle.binary_measure.specs.Measured.{text_of}
use Rattle.binary_write.proofs.put_text.Given as goal

abbrev pub invariant-loop-i : goal.invariant-loop-i
invariant-loop-i l = (l.i + 1 ≤ length l.words) × Text (drop l.i l.words) × Emits (text_of l.words) l.initial.out (text_of (drop l.i l.words)) (record { at = l.at; out = l.out })
