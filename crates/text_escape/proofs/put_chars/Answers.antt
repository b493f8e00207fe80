-- What is left of the bytes is what is left to emit. Assumes nothing.
use native.Mathlib.Omega.{arith}
use mathlib.Core.Path.{◌≡◌, sym, ap, ◌∙◌}
use mathlib.Core.List.{◌++◌}
use mathlib.Core.Option.{some}
use Prim.Native.Nat.{◌+◌, ◌<◌}
use lib.ListN.{drop}
use Rattle.format.specs.Utf8.{char_at}
use Rattle.format.specs.TextWriter.{escape_char}
use Rattle.utf8.specs.Chars.{char_of}
use Rattle.utf8.proofs.CharLaws.{char_inside}
use Rattle.object.specs.Texts.{text_bytes, span_bytes}
use Rattle.word_chars.proofs.CharLaws.{size_is}
use Rattle.text_escape.specs.Escaped.{escaped_in}
use Rattle.text_escape.proofs.EscapeLaws.{escaped_end, escaped_some, escaped_nothing, escaped_stretch, some_bound}
use Rattle.writing.proofs.Parts.{Emits, after, emit, emitted, within, small}
use Rattle.text_escape.proofs.put_chars.Goals as goal
use Rattle.text_escape.proofs.put_chars.Goals.{After-put_span-n, In-Some, After-put_escaped_char-n}

-- bytes that stand for themselves are written
emits1 : (c : After-put_span-n)
    → Emits (escaped_in c.args.ws.now c.args.at c.args.start c.args.end) c.args.out.now
    (escaped_in c.args.ws.now c.args.at c.plain_end-j.result c.args.end)
    (after (record { at = c.loop-i.n; out = c.loop-i.out }) c.put_span-n.result c.put_span-n.new.out)
emits1 c =
    emit c.loop-i.invariant (span_bytes c.args.ws.now c.args.at c.loop-i.i c.plain_end-j.result)
    (escaped_in c.args.ws.now c.args.at c.plain_end-j.result c.args.end)
    (escaped_stretch c.args.ws.now c.args.at c.args.end c.loop-i.i c.plain_end-j.result c.loop-i-test.true c.plain_end-j.ensures)
    c.put_span-n.ensures

-- a character
char : (c : In-Some) → some (c.in-Some.field-0.value, c.in-Some.field-0.more) ≡ char_at (drop c.plain_end-j.result (text_bytes c.args.ws.now c.args.at c.args.end))
char c = sym (ap char_of c.in-Some.is) ∙ c.char_in.ensures

next : (c : In-Some) → escaped_in c.args.ws.now c.args.at c.plain_end-j.result c.args.end
    ≡ escape_char c.in-Some.field-0.value ++ escaped_in c.args.ws.now c.args.at (c.plain_end-j.result + (c.in-Some.field-0.more + 1)) c.args.end
next c = escaped_some (text_bytes c.args.ws.now c.args.at c.args.end) c.plain_end-j.result c.in-Some.field-0.value c.in-Some.field-0.more (char c)

lies : (c : In-Some) → c.plain_end-j.result + c.in-Some.field-0.more < c.args.end
lies c =
    omega (
      arith,
      char_inside (text_bytes c.args.ws.now c.args.at c.args.end) c.plain_end-j.result c.in-Some.field-0.value c.in-Some.field-0.more (sym (char c)),
      size_is c.args.ws.now c.args.at c.args.end,
    )

pub overflow_add-n : goal.overflow_add-n
overflow_add-n c = small (emits1 (goal.at.overflow_add-n c).After-put_span-n) (omega arith)

pub returns-in_default : goal.returns-in_default
returns-in_default c =
    emitted (emits1 (goal.at.returns-in_default c).After-put_span-n)
    (escaped_nothing (text_bytes c.args.ws.now c.args.at c.args.end) c.plain_end-j.result (sym (ap char_of c.in_default.is) ∙ c.char_in.ensures))

pub slice_bounds-put_escaped_char-count : goal.slice_bounds-put_escaped_char-count
slice_bounds-put_escaped_char-count c = within (emits1 (goal.at.slice_bounds-put_escaped_char-count c).After-put_span-n)

pub slice_bounds-put_escaped_char-start : goal.slice_bounds-put_escaped_char-start
slice_bounds-put_escaped_char-start c = within (emits1 (goal.at.slice_bounds-put_escaped_char-start c).After-put_span-n)

pub put_escaped_char-n-requires : goal.put_escaped_char-n-requires
put_escaped_char-n-requires c =
    some_bound (text_bytes c.args.ws.now c.args.at c.args.end) c.plain_end-j.result c.in-Some.field-0.value c.in-Some.field-0.more
    (char (goal.at.put_escaped_char-n-requires c).In-Some)

pub overflow_add-n-in-loop-i : goal.overflow_add-n-in-loop-i
overflow_add-n-in-loop-i c =
    let a = goal.at.overflow_add-n-in-loop-i c in
    small (emit (emits1 a.After-put_span-n) (escape_char c.in-Some.field-0.value)
    (escaped_in c.args.ws.now c.args.at (c.plain_end-j.result + (c.in-Some.field-0.more + 1)) c.args.end) (next a.In-Some) c.put_escaped_char-n.ensures) (omega arith)

pub overflow_add-i : goal.overflow_add-i
overflow_add-i c = omega (arith, lies (goal.at.overflow_add-i c).In-Some)

pub overflow_add-i-in-loop-i : goal.overflow_add-i-in-loop-i
overflow_add-i-in-loop-i c = omega (arith, lies (goal.at.overflow_add-i-in-loop-i c).In-Some)

pub loop-i-preserved : goal.loop-i-preserved
loop-i-preserved c =
    let a = goal.at.loop-i-preserved c in
    emit (emits1 a.After-put_span-n) (escape_char c.in-Some.field-0.value)
    (escaped_in c.args.ws.now c.args.at (c.plain_end-j.result + (c.in-Some.field-0.more + 1)) c.args.end) (next a.In-Some) c.put_escaped_char-n.ensures

pub returns : goal.returns
returns c =
    emitted c.loop-i.invariant
    (escaped_end (text_bytes c.args.ws.now c.args.at c.args.end) c.loop-i.i
    (omega (arith, size_is c.args.ws.now c.args.at c.args.end, c.loop-i-test.false)))
