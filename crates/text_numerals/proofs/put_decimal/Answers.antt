-- The digits that stand, copied. Assumes nothing.
use Rattle.text_numerals.proofs.DigitLaws.{as_decimal}
use Rattle.text_numerals.proofs.put_decimal.Goals as goal

pub returns : goal.returns
returns c =
    let d = c.digits_of-m in
    as_decimal _ d.result.start d.result.bytes _ _ _ d.ensures.1 d.ensures.2 c.put_bytes.ensures
