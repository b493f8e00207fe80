-- By its letter, or its number. Assumes nothing.
use native.Mathlib.Omega.{arith}
use mathlib.Core.Path.{sym, ap}
use mathlib.Core.Logic.{inl, inr}
use lib.ListN.{length}
use Rattle.text_escape.specs.Escaped.{letter_of}
use Rattle.text_escape.proofs.EscapeLaws.{has_letter, lacks_letter, by_letter, plain, by_code, code-length, hex_short}
use Rattle.text_escape.proofs.escaped_len.Goals as goal

pub returns-then-is_some : goal.returns-then-is_some
returns-then-is_some c =
    sym (ap length (by_letter c.args.c (has_letter (letter_of c.args.c) c.letter.result c.letter.ensures (sym c.if-is_some.ensures))))

pub overflow_add-result : goal.overflow_add-result
overflow_add-result c = record { fits = omega (arith, c.count_hex.ensures, hex_short c.args.c) }

pub returns-then-c-lt32 : goal.returns-then-c-lt32
returns-then-c-lt32 c =
    let a = c.args.c in
    let e = by_code a (lacks_letter (letter_of a) c.letter.result c.letter.ensures (sym c.if-is_some.ensures))
    c.requires (inl c.if-c-lt32.true) in
    omega (arith, c.count_hex.ensures, code-length a, ap length e)

pub overflow_add-result-then-c-gt126 : goal.overflow_add-result-then-c-gt126
overflow_add-result-then-c-gt126 c = record { fits = omega (arith, c.count_hex-then-c-gt126.ensures, hex_short c.args.c) }

pub returns-then-c-gt126 : goal.returns-then-c-gt126
returns-then-c-gt126 c =
    let a = c.args.c in
    let e = by_code a (lacks_letter (letter_of a) c.letter.result c.letter.ensures (sym c.if-is_some.ensures))
    c.requires (inr c.if-c-gt126.true) in
    omega (arith, c.count_hex-then-c-gt126.ensures, code-length a, ap length e)

pub returns : goal.returns
returns c =
    let a = c.args.c in
    sym (ap length (plain a (lacks_letter (letter_of a) c.letter.result c.letter.ensures (sym c.if-is_some.ensures)) c.if-c-lt32.false
    c.if-c-gt126.false))
