-- The form by the tests that led there. Assumes nothing.
use Rattle.encode.proofs.ScalarLaws.{is_three-high, is_four, is_surrogate, is_beyond, put-none, put_same}
use Rattle.encode.proofs.encode_scalar.Goals as goal

pub returns-then-c-lt-SURROGATES_END : goal.returns-then-c-lt-SURROGATES_END
returns-then-c-lt-SURROGATES_END c = put-none _ _ (is_surrogate _ c.if-c-lt55296.false c.if-c-lt-SURROGATES_END.true)

pub returns-then-c-lt65536 : goal.returns-then-c-lt65536
returns-then-c-lt65536 c = put_same _ _ _ _ _ (is_three-high _ c.if-c-lt-SURROGATES_END.false
    c.if-c-lt65536.true) c.put_three.ensures

pub returns-then-c-lt1114112 : goal.returns-then-c-lt1114112
returns-then-c-lt1114112 c = put_same _ _ _ _ _ (is_four _ c.if-c-lt65536.false
    c.if-c-lt1114112.true) c.put_four.ensures

pub returns : goal.returns
returns c = put-none _ _ (is_beyond _ c.if-c-lt1114112.false)
