use Prim.Native.Nat.{◌+◌, ◌≤◌, ◌-◌}
use lib.ListN.{length, drop}
use Rattle.format.specs.Words.{text_words}
use Rattle.writing.proofs.Parts.{Emits}
use Rattle.writing.proofs.put_text_words.Given as goal

abbrev pub invariant-loop-i : goal.invariant-loop-i
invariant-loop-i l = (l.i ≤ length l.s + 2) × Emits (text_words l.s) l.initial.out (text_words (drop l.i l.s)) (record { at = l.at; out = l.out })

abbrev pub decreases-loop-i : goal.decreases-loop-i
decreases-loop-i l = length l.s - l.i
