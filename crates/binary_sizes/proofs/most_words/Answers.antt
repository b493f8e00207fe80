-- Later records replace earlier ones, and none adds words. Assumes nothing.
use native.Mathlib.Omega.{arith}
use Rattle.binary_sizes.proofs.BoundLaws.{most_few, object-within}
use Rattle.binary_sizes.proofs.most_words.Goals as goal

pub overflow_add-result : goal.overflow_add-result
overflow_add-result c = omega (arith, c.all_length.ensures, c.all_length-2.ensures, most_few c.args.s.now)

pub overflow_add-result-2 : goal.overflow_add-result-2
overflow_add-result-2 c =
    omega (arith, c.all_length.ensures, c.all_length-2.ensures, c.all_length-3.ensures, most_few c.args.s.now)

pub overflow_add-result-3 : goal.overflow_add-result-3
overflow_add-result-3 c =
    omega (
      arith,
      c.all_length.ensures,
      c.all_length-2.ensures,
      c.all_length-3.ensures,
      c.all_length-4.ensures,
      most_few c.args.s.now,
    )

pub overflow_add-result-4 : goal.overflow_add-result-4
overflow_add-result-4 c =
    omega (
      arith,
      c.all_length.ensures,
      c.all_length-2.ensures,
      c.all_length-3.ensures,
      c.all_length-4.ensures,
      c.source_length.ensures,
      most_few c.args.s.now,
    )

pub returns : goal.returns
returns c =
    omega (
      arith,
      c.all_length.ensures,
      c.all_length-2.ensures,
      c.all_length-3.ensures,
      c.all_length-4.ensures,
      c.source_length.ensures,
      object-within c.args.s.now,
    )
