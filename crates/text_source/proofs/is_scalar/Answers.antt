use Rattle.std.proofs.Common.{sym}
use Rattle.text_source.proofs.UnescapeLaws.{scalar-low, scalar-not, scalar-high}
use Rattle.text_source.proofs.is_scalar.Goals as goal

pub returns-then-v-lt55296 : goal.returns-then-v-lt55296
returns-then-v-lt55296 c = sym (scalar-low _ c.if-v-lt55296.true)

pub returns-then-v-lt-SURROGATES_END : goal.returns-then-v-lt-SURROGATES_END
returns-then-v-lt-SURROGATES_END c = sym (scalar-not _ c.if-v-lt55296.false c.if-v-lt-SURROGATES_END.true)

pub returns : goal.returns
returns c = scalar-high _ c.if-v-lt-SURROGATES_END.false
