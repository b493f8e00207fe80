-- The rest from the place on is UTF-8 where the whole text is. Assumes nothing.
use native.Mathlib.Omega.{arith}
use mathlib.Core.Path.{sym, ap, ◌∙◌}
use Prim.Native.Nat.{◌+◌, ◌<◌}
use lib.ListN.{length}
use Rattle.utf8.specs.Chars.{char_of}
use Rattle.utf8.proofs.CharLaws.{char_inside}
use Rattle.utf8.proofs.PlaceLaws.{ascii_join, ascii-one, utf8_end, utf8_bad, utf8_on, utf8_ascii}
use Rattle.utf8.proofs.is_utf8.Goals as goal
use Rattle.utf8.proofs.is_utf8.Goals.{In-Some}

-- the character lies in the text
char_lies : (c : In-Some) → c.loop-i.i +
    c.in-Some.c.more < length c.args.s.now
char_lies c =
    char_inside c.args.s.now
    c.loop-i.i c.in-Some.c.value c.in-Some.c.more
    (sym c.char_at.ensures ∙ ap char_of c.in-Some.is)

pub loop-i-preserved-then-s-i-lt128 : goal.loop-i-preserved-then-s-i-lt128
loop-i-preserved-then-s-i-lt128 c =
    let s = c.args.s.now in
    let loop = c.loop-i in
    let end = c.ascii_end-i.result in
    let all = ascii_join s loop.i (loop.i + 1) end (ascii-one s loop.i c.if-s-i-lt128.true) c.ascii_end-i.ensures.2 in (
      c.ascii_end-i.ensures.1,
      utf8_ascii s loop.i end (omega (arith, c.ascii_end-i.ensures.0)) c.ascii_end-i.ensures.1 all ∙
          loop.invariant.1,
    )

pub returns-in_default : goal.returns-in_default
returns-in_default c =
    utf8_bad _ _ c.loop-i-test.true
    (sym (ap char_of c.in_default.is) ∙ c.char_at.ensures)
    ∙ c.loop-i.invariant.1

pub loop-i-preserved : goal.loop-i-preserved
loop-i-preserved c =
    let loop = c.loop-i in (
      omega (arith, char_lies (goal.at.loop-i-preserved c).In-Some),
      utf8_on _ _ c.loop-i-test.true c.in-Some.c.value
          c.in-Some.c.more (sym (ap char_of c.in-Some.is) ∙ c.char_at.ensures)
          ∙ loop.invariant.1,
    )

pub overflow_add-i-in-loop-i : goal.overflow_add-i-in-loop-i
overflow_add-i-in-loop-i c = omega (arith, char_lies (goal.at.overflow_add-i-in-loop-i c).In-Some)

pub overflow_add-i-in-loop-i-2 : goal.overflow_add-i-in-loop-i-2
overflow_add-i-in-loop-i-2 c = omega (arith, char_lies (goal.at.overflow_add-i-in-loop-i-2 c).In-Some)

pub returns : goal.returns
returns c = utf8_end _ _ c.loop-i-test.false ∙ c.loop-i.invariant.1
