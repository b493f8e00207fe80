use Rattle.part_counts.proofs.PartLaws.{Counted}
use Rattle.part_counts.proofs.count_parts.Given as goal

abbrev pub invariant-loop-w : goal.invariant-loop-w
invariant-loop-w l = Counted l.object l.w-index 0 l.blocks × Counted l.object l.w-index 2 l.labels × Counted l.object l.w-index 3 l.line_blocks × Counted l.object l.w-index 4 l.sources
    × Counted l.object l.w-index 5 l.relocations
