-- The form by the tests that led there. Assumes nothing.
use Rattle.encode.proofs.ScalarLaws.{is_one, is_two, is_three-low, put_same}
use Rattle.encode.proofs.put_low.Goals as goal

pub returns-then-c-lt128 : goal.returns-then-c-lt128
returns-then-c-lt128 c = put_same _ _ _ _ _ (is_one _ c.if-c-lt128.true) c.put_one.ensures

pub returns-then-c-lt2048 : goal.returns-then-c-lt2048
returns-then-c-lt2048 c = put_same _ _ _ _ _ (is_two _ c.if-c-lt128.false
    c.if-c-lt2048.true) c.put_two.ensures

pub returns : goal.returns
returns c =
    put_same _ _ _ _ _ (is_three-low _ c.if-c-lt2048.false c.requires) c.put_three.ensures
