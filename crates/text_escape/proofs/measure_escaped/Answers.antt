-- What is left to measure in the room that is left. Assumes nothing.
use native.Mathlib.Omega.{arith}
use mathlib.Core.Path.{◌≡◌, sym, ap, ◌∙◌}
use mathlib.Core.List.{List, ◌++◌}
use mathlib.Core.Option.{none, some}
use Prim.Native.Nat.{ℕ, ◌+◌, ◌-◌, ◌<◌}
use lib.ListN.{drop}
use Rattle.format.specs.Utf8.{char_at}
use Rattle.format.specs.TextWriter.{escape_char}
use Rattle.utf8.specs.Chars.{char_of}
use Rattle.utf8.proofs.CharLaws.{char_inside}
use Rattle.object.specs.Texts.{text_bytes, span_bytes}
use Rattle.object.proofs.SpanLaws.{span-length}
use Rattle.word_chars.specs.Stretches.{Stretch}
use Rattle.word_chars.proofs.CharLaws.{size_is}
use Rattle.text_escape.specs.Escaped.{Itself, escaped_in}
use Rattle.text_escape.proofs.EscapeLaws.{escaped_end, escaped_some, escaped_nothing, escaped_stretch, some_bound}
use Rattle.measuring.specs.Room.{less, less_part}
use Rattle.measuring.proofs.RoomLaws.{less-nothing, part-fits, part-short}
use Rattle.text_escape.proofs.measure_escaped.Goals as goal
use Rattle.text_escape.proofs.measure_escaped.Goals.{In-Some}

-- past the bytes that stand for themselves
module _ (ws : List ℕ) (at end i j room : ℕ) (on : i < end) (s : Stretch Itself ws at end i j) where
  no_room : none ≡ less room (j - i) → none ≡ less_part room (escaped_in ws at i end)
  no_room h =
      part-short room (span_bytes ws at i j) (escaped_in ws at j end) (escaped_stretch ws at end i j on s)
      (h ∙ ap (less room) (sym (span-length ws at i j)))

  past : {rest : ℕ} → some rest ≡ less room (j - i) → less_part rest (escaped_in ws at j end) ≡ less_part room (escaped_in ws at i end)
  past h =
      part-fits room (span_bytes ws at i j) (escaped_in ws at j end) (escaped_stretch ws at end i j on s)
      (h ∙ ap (less room) (sym (span-length ws at i j)))

-- a character
abbrev rest : In-Some → ℕ
rest c = c.in_ok-rest.rest

abbrev after : In-Some → List ℕ
after c = escaped_in c.args.ws.now c.args.at (c.plain_end-j.result + (c.in-Some.field-0.more + 1)) c.args.end

char : (c : In-Some) → some (c.in-Some.field-0.value, c.in-Some.field-0.more) ≡ char_at (drop c.plain_end-j.result (text_bytes c.args.ws.now c.args.at c.args.end))
char c = sym (ap char_of c.in-Some.is) ∙ c.char_in.ensures

next : (c : In-Some) → escaped_in c.args.ws.now c.args.at c.plain_end-j.result c.args.end ≡ escape_char c.in-Some.field-0.value ++ after c
next c = escaped_some (text_bytes c.args.ws.now c.args.at c.args.end) c.plain_end-j.result c.in-Some.field-0.value c.in-Some.field-0.more (char c)

lies : (c : In-Some) → c.plain_end-j.result + c.in-Some.field-0.more < c.args.end
lies c =
    omega (
      arith,
      char_inside (text_bytes c.args.ws.now c.args.at c.args.end) c.plain_end-j.result c.in-Some.field-0.value c.in-Some.field-0.more (sym (char c)),
      size_is c.args.ws.now c.args.at c.args.end,
    )

before : (c : In-Some) → less_part (rest c) (escaped_in c.args.ws.now c.args.at c.plain_end-j.result c.args.end)
    ≡ less_part c.args.room (escaped_in c.args.ws.now c.args.at c.args.start c.args.end)
before c =
    past c.args.ws.now c.args.at c.args.end c.loop-i.i c.plain_end-j.result c.loop-i.left c.loop-i-test.true c.plain_end-j.ensures
    c.in_ok-rest.ensures ∙ c.loop-i.invariant

pub returns-in_err-rest : goal.returns-in_err-rest
returns-in_err-rest c =
    rw c.from_residual.ensures
    (no_room c.args.ws.now c.args.at c.args.end c.loop-i.i c.plain_end-j.result c.loop-i.left c.loop-i-test.true c.plain_end-j.ensures
    c.in_err-rest.ensures ∙ c.loop-i.invariant)

pub returns-in_default : goal.returns-in_default
returns-in_default c =
    let t = text_bytes c.args.ws.now c.args.at c.args.end in
    let none_left = escaped_nothing t c.plain_end-j.result (sym (ap char_of c.in_default.is) ∙ c.char_in.ensures) in
    let room : ℕ = c.in_ok-rest.rest in
    less-nothing room ∙ ap (less_part room) (sym none_left)
    ∙ past c.args.ws.now c.args.at c.args.end c.loop-i.i c.plain_end-j.result c.loop-i.left c.loop-i-test.true c.plain_end-j.ensures
    c.in_ok-rest.ensures ∙ c.loop-i.invariant

pub escaped_len-requires : goal.escaped_len-requires
escaped_len-requires c =
    some_bound (text_bytes c.args.ws.now c.args.at c.args.end) c.plain_end-j.result c.in-Some.field-0.value c.in-Some.field-0.more
    (char (goal.at.escaped_len-requires c).In-Some)

pub returns-in_err-left : goal.returns-in_err-left
returns-in_err-left c =
    let k = (goal.at.returns-in_err-left c).In-Some in
    rw c.from_residual-in_err-left.ensures
    (part-short (rest k) (escape_char c.in-Some.field-0.value) (after k) (next k)
    (c.in_err-left.ensures ∙ ap (less (rest k)) c.escaped_len.ensures) ∙ before k)

pub overflow_add-i : goal.overflow_add-i
overflow_add-i c = omega (arith, lies (goal.at.overflow_add-i c).In-Some)

pub overflow_add-i-in-loop-i : goal.overflow_add-i-in-loop-i
overflow_add-i-in-loop-i c = omega (arith, lies (goal.at.overflow_add-i-in-loop-i c).In-Some)

pub loop-i-smaller : goal.loop-i-smaller
loop-i-smaller c = omega (arith, lies (goal.at.loop-i-smaller c).In-Some, c.plain_end-j.ensures.0)

pub loop-i-preserved : goal.loop-i-preserved
loop-i-preserved c =
    let k = (goal.at.loop-i-preserved c).In-Some in
    part-fits (rest k) (escape_char c.in-Some.field-0.value) (after k) (next k)
    (c.in_ok-left.ensures ∙ ap (less (rest k)) c.escaped_len.ensures) ∙ before k

pub returns : goal.returns
returns c =
    less-nothing c.loop-i.left
    ∙ ap (less_part c.loop-i.left)
    (sym (escaped_end (text_bytes c.args.ws.now c.args.at c.args.end) c.loop-i.i
    (omega (arith, size_is c.args.ws.now c.args.at c.args.end, c.loop-i-test.false))))
    ∙ c.loop-i.invariant
