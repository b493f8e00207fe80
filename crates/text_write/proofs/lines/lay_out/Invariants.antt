use mathlib.Core.Path.{◌≡◌}
use mathlib.Core.List.{List}
use Prim.Native.Nat.{ℕ, ◌-◌}
use lib.ListN.{length}
use Rattle.format.specs.ObjectFile.{LineBlock}
use Rattle.source_info.proofs.RecordLaws.{Left}
use Rattle.text_lines_out.specs.Walk.{line_blocks_in, blocks_top}
use Rattle.text_lines_out.proofs.MergeLaws.{Apart}
use Rattle.text_lines_out.proofs.BlockLaws.{line_blocks_of}
use Rattle.text_write.proofs.LayoutLaws.{Finds}
use Rattle.text_write.proofs.lines.lay_out.Given as goal

abbrev pub invariant-loop-at : goal.invariant-loop-at
invariant-loop-at l = (e : ℕ) × (ls : List LineBlock) × Left l.ws l.at line_blocks_of ls × Apart e ls
    × (blocks_top l.top ls ≡ blocks_top (l.lines - 1) (line_blocks_in l.ws)) × Finds l.ws ls l.wrapped

abbrev pub decreases-loop-at : goal.decreases-loop-at
decreases-loop-at l = length l.ws - l.at
