-- By the test that says yes, that for ASCII, or the last. Assumes nothing.
use mathlib.Core.Path.{sym, ap, ◌∙◌}
use mathlib.Core.Bool.{true≢false}
use Rattle.format.specs.Utf8.{is_between, is_white_space}
use Rattle.format.proofs.WhiteSpaceLaws.{white_last}
use Rattle.trim.proofs.WhiteLaws.{white_control, white_low, white_wide, white_lines}
use Rattle.trim.proofs.is_white_space.Goals as goal

pub returns-then-is_between : goal.returns-then-is_between
returns-then-is_between c = white_control _ (sym c.is_between.ensures ∙ c.if-is_between.true)

pub returns-then-c-lt133 : goal.returns-then-c-lt133
returns-then-c-lt133 c =
    white_low _ (sym c.is_between.ensures ∙ c.if-is_between.false) c.if-c-eq32.false c.if-c-lt133.true

pub returns-then-is_between-2 : goal.returns-then-is_between-2
returns-then-is_between-2 c = white_wide _ (sym c.is_between-2.ensures ∙ c.if-is_between-2.true)

pub returns-then-is_between-3 : goal.returns-then-is_between-3
returns-then-is_between-3 c = white_lines _ (sym c.is_between-3.ensures ∙ c.if-is_between-3.true)

pub returns : goal.returns
returns c =
    let lines = sym c.is_between-3.ensures ∙ c.if-is_between-3.false in
    white_last _ (sym c.is_between.ensures ∙ c.if-is_between.false) c.if-c-eq32.false
    c.if-c-eq-NEXT_LINE.false c.if-c-eq160.false c.if-c-eq5760.false
    (sym c.is_between-2.ensures ∙ c.if-is_between-2.false)
    (λ e. true≢false (sym (ap (is_between 0x2028 0x2029) e) ∙ lines)) (λ e. true≢false (sym (ap (is_between 0x2028 0x2029) e) ∙ lines))
    c.if-c-eq8239.false c.if-c-eq8287.false

pub returns-then-c-eq32 : goal.returns-then-c-eq32
unfolding is_white_space
returns-then-c-eq32 c = sym (ap is_white_space c.if-c-eq32.true)

pub returns-then-c-eq-NEXT_LINE : goal.returns-then-c-eq-NEXT_LINE
unfolding is_white_space
returns-then-c-eq-NEXT_LINE c = sym (ap is_white_space c.if-c-eq-NEXT_LINE.true)

pub returns-then-c-eq160 : goal.returns-then-c-eq160
unfolding is_white_space
returns-then-c-eq160 c = sym (ap is_white_space c.if-c-eq160.true)

pub returns-then-c-eq5760 : goal.returns-then-c-eq5760
unfolding is_white_space
returns-then-c-eq5760 c = sym (ap is_white_space c.if-c-eq5760.true)

pub returns-then-c-eq8239 : goal.returns-then-c-eq8239
unfolding is_white_space
returns-then-c-eq8239 c = sym (ap is_white_space c.if-c-eq8239.true)

pub returns-then-c-eq8287 : goal.returns-then-c-eq8287
unfolding is_white_space
returns-then-c-eq8287 c = sym (ap is_white_space c.if-c-eq8287.true)
