use Rattle.text_source.proofs.UnescapeLaws.{length-one, length_two, length_three, length-four}
use Rattle.text_source.proofs.scalar_length.Goals as goal

pub returns-then-v-lt128 : goal.returns-then-v-lt128
returns-then-v-lt128 c = length-one _ c.if-v-lt128.true

pub returns-then-v-lt2048 : goal.returns-then-v-lt2048
returns-then-v-lt2048 c = length_two _ c.if-v-lt128.false c.if-v-lt2048.true

pub returns-then-v-lt65536 : goal.returns-then-v-lt65536
returns-then-v-lt65536 c = length_three _ c.if-v-lt2048.false c.if-v-lt65536.true

pub returns : goal.returns
returns c = length-four _ c.if-v-lt65536.false
