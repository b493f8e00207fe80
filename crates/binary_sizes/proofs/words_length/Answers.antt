-- The sum of the parts, which is below the length of the file. Assumes nothing.
use mathlib.Core.Path.{sym, ◌∙◌}
use native.Mathlib.Omega.{arith}
use Rattle.binary_sizes.proofs.BoundLaws.{parts-few, length-kept, length_dropped}
use Rattle.binary_sizes.proofs.words_length.Goals as goal

pub overflow_add-n : goal.overflow_add-n
overflow_add-n c = omega (arith, rw c.byte.ensures at c.part_length.ensures, rw c.byte-2.ensures at c.part_length-2.ensures, parts-few c.args.s.now)

pub overflow_add-n-2 : goal.overflow_add-n-2
overflow_add-n-2 c =
    omega (
      arith,
      rw c.byte.ensures at c.part_length.ensures,
      rw c.byte-2.ensures at c.part_length-2.ensures,
      rw c.byte-3.ensures at c.part_length-3.ensures,
      parts-few c.args.s.now,
    )

pub overflow_add-n-3 : goal.overflow_add-n-3
overflow_add-n-3 c =
    omega (
      arith,
      rw c.byte.ensures at c.part_length.ensures,
      rw c.byte-2.ensures at c.part_length-2.ensures,
      rw c.byte-3.ensures at c.part_length-3.ensures,
      c.source_length.ensures,
      parts-few c.args.s.now,
    )

pub overflow_add-result : goal.overflow_add-result
overflow_add-result c =
    let s = c.args.s.now in
    omega (
      arith,
      rw c.byte.ensures at c.part_length.ensures,
      rw c.byte-2.ensures at c.part_length-2.ensures,
      rw c.byte-3.ensures at c.part_length-3.ensures,
      c.source_length.ensures,
      rw c.byte-then-keeps_relocations.ensures at c.part_length-then-keeps_relocations.ensures,
      parts-few s,
    )

pub returns-then-keeps_relocations : goal.returns-then-keeps_relocations
returns-then-keeps_relocations c =
    let s = c.args.s.now in
    let k = sym c.keeps_relocations.ensures ∙ c.if-keeps_relocations.true in
    omega (
      arith,
      rw c.byte.ensures at c.part_length.ensures,
      rw c.byte-2.ensures at c.part_length-2.ensures,
      rw c.byte-3.ensures at c.part_length-3.ensures,
      c.source_length.ensures,
      rw c.byte-then-keeps_relocations.ensures at c.part_length-then-keeps_relocations.ensures,
      length-kept s k,
    )

pub returns : goal.returns
returns c =
    let s = c.args.s.now in
    let k = sym c.keeps_relocations.ensures ∙ c.if-keeps_relocations.false in
    omega (
      arith,
      rw c.byte.ensures at c.part_length.ensures,
      rw c.byte-2.ensures at c.part_length-2.ensures,
      rw c.byte-3.ensures at c.part_length-3.ensures,
      c.source_length.ensures,
      length_dropped s k,
    )
