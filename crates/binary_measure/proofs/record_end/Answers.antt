use Rattle.object.specs.declared.Kind.TheVariants as kind
use Rattle.object.proofs.KindLaws.{number_is}
use Rattle.object.proofs.AccessLaws.{source_is}
use Rattle.binary_measure.proofs.record_end.Goals as goal

-- a source is a text
pub returns-then-eq : goal.returns-then-eq
returns-then-eq c = λ b.
    c.text_end.ensures (source_is _ _ _ b.1 (number_is c.of.result kind.Source _ c.of.ensures c.if-eq.ensures)).1
