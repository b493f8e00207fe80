use Rattle.std.proofs.Common.{sym, ap, arith}
use Rattle.text_source.specs.Unescape.{escape_byte}
use Rattle.text_source.proofs.UnescapeLaws.{no_letter}
use Rattle.text_source.proofs.escaped_byte.Goals as goal

pub returns-in-116 : goal.returns-in-116
unfolding escape_byte
returns-in-116 c = (sym (ap escape_byte c.in-116.is), λ z. omega arith)

pub returns-in-114 : goal.returns-in-114
unfolding escape_byte
returns-in-114 c = (sym (ap escape_byte c.in-114.is), λ z. omega arith)

pub returns-in-110 : goal.returns-in-110
unfolding escape_byte
returns-in-110 c = (sym (ap escape_byte c.in-110.is), λ z. omega arith)

pub returns-in-39 : goal.returns-in-39
unfolding escape_byte
returns-in-39 c = (sym (ap escape_byte c.in-39.is), λ z. omega arith)

pub returns-in-34 : goal.returns-in-34
unfolding escape_byte
returns-in-34 c = (sym (ap escape_byte c.in-34.is), λ z. omega arith)

pub returns-in-92 : goal.returns-in-92
unfolding escape_byte
returns-in-92 c = (sym (ap escape_byte c.in-92.is), λ z. omega arith)

pub returns-in_default : goal.returns-in_default
returns-in_default c =
    no_letter c.args.e (λ q. omega arith) (λ q. omega arith) (λ q. omega arith) (λ q. omega arith) (λ q. omega arith) (λ q. omega arith)
