use mathlib.Core.Path.{sym, ◌∙◌}
use native.Mathlib.Omega.{arith}
use Rattle.binary_words.proofs.SourceLaws.{source-long, source-none}
use Rattle.binary_words.proofs.source_length.Goals as goal

pub returns-then-has_source : goal.returns-then-has_source
returns-then-has_source c =
    let s = c.args.s.now in
    omega (arith, source-long s (sym c.has_source.ensures ∙ c.if-has_source.true), c.chunks_length-n.ensures.0)

pub returns : goal.returns
returns c = sym (source-none c.args.s.now (sym c.has_source.ensures ∙ c.if-has_source.false))
