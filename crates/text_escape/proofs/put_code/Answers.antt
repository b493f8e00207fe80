-- Three parts. Assumes nothing.
use native.Mathlib.Omega.{arith}
use mathlib.Core.Path.{refl, sym}
use mathlib.Core.List.{List, [], ◌++◌, append-nil}
use Prim.Native.Nat.{ℕ}
use Rattle.writing.proofs.WriteLaws.{too_short}
use Rattle.writing.proofs.Parts.{State, Emits, after, begin, emit, emitted, within, small}
use Rattle.format.specs.Basics.{ascii}
use Rattle.format.specs.TextWriter.{numeral}
use Rattle.text_escape.specs.Escaped.{code_text}
use Rattle.text_escape.proofs.EscapeLaws.{code-length, hex_short}
use Rattle.text_escape.proofs.put_code.Lts as lts
use Rattle.text_escape.proofs.put_code.Reads as reads
use Rattle.text_escape.proofs.put_code.Tie as tie
use Rattle.text_escape.proofs.put_code.Goals as goal

abbrev After-put_u8 : Type 0
After-put_u8 = lts.After-put_u8 tie.the-claims reads.Pre reads.Post

abbrev After-put_hex : Type 0
After-put_hex = lts.After-put_hex tie.the-claims reads.Pre reads.Post

abbrev After-put_bytes : Type 0
After-put_bytes = lts.After-put_bytes tie.the-claims reads.Pre reads.Post

abbrev Else1 : Type 0
Else1 = lts.Else1 tie.the-claims reads.Pre reads.Post

abbrev Start : Type 0
Start = lts.Start tie.the-claims reads.Pre reads.Post

abbrev room : Start → List ℕ
room t = t.args.out.now

abbrev whole : Start → List ℕ
whole t = code_text t.args.c

abbrev state0 : Start → State ℕ
state0 t = record { at = 0; out = room t }

emits0 : (c : Else1) → Emits (whole c.before.before.before) (room c.before.before.before) (whole c.before.before.before) (state0 c.before.before.before)
emits0 c = begin _ _ (omega (arith, code-length c.args.c, c.if-out-count_hex.false, c.count_hex.ensures))

abbrev left1 : Start → List ℕ
left1 t = numeral 19 16 t.args.c [] ++ ascii "}"

abbrev state1 : After-put_bytes → State ℕ
state1 c = after (state0 c.before.before.before.before.before.before) c.put_bytes-at.result c.put_bytes-at.new.out

emits1 : (c : After-put_bytes) → Emits (whole c.before.before.before.before.before.before) (room c.before.before.before.before.before.before) (left1 c.before.before.before.before.before.before) (state1 c)
unfolding code_text ascii
emits1 c = let t = c.before.before.before.before.before.before in emit (emits0 c.before.before.before) (ascii "\\u{") (left1 t) refl c.put_bytes-at.ensures

abbrev left2 : Start → List ℕ
left2 t = ascii "}"

abbrev state2 : After-put_hex → State ℕ
state2 c = after (state1 c.before.before.before.before) c.put_hex-at.result c.put_hex-at.new.out

emits2 : (c : After-put_hex) → Emits (whole c.before.before.before.before.before.before.before.before.before.before) (room c.before.before.before.before.before.before.before.before.before.before) (left2 c.before.before.before.before.before.before.before.before.before.before) (state2 c)
unfolding code_text ascii
emits2 c =
    let t = c.before.before.before.before.before.before.before.before.before.before in
    emit (emits1 c.before.before.before.before) (numeral 19 16 t.args.c []) (left2 t) refl c.put_hex-at.ensures

abbrev left3 : Start → List ℕ
left3 t = []

abbrev state3 : After-put_u8 → State ℕ
state3 c = after (state2 c.before.before.before.before) c.put_u8-at.result c.put_u8-at.new.out

emits3 : (c : After-put_u8) → Emits (whole c.before.before.before.before.before.before.before.before.before.before.before.before.before.before) (room c.before.before.before.before.before.before.before.before.before.before.before.before.before.before) (left3 c.before.before.before.before.before.before.before.before.before.before.before.before.before.before) (state3 c)
unfolding code_text ascii
emits3 c =
    let t = c.before.before.before.before.before.before.before.before.before.before.before.before.before.before in
    emit (emits2 c.before.before.before.before) (ascii "}") (left3 t) (sym (append-nil _)) c.put_u8-at.ensures

pub overflow_add-count_hex : goal.overflow_add-count_hex
overflow_add-count_hex c = record { fits = omega (arith, c.count_hex.ensures, hex_short c.args.c) }

pub returns-then-out-count_hex : goal.returns-then-out-count_hex
returns-then-out-count_hex c =
    let a = c.args.c in
    too_short (code_text a) _ _ (code-length a) (omega (arith, c.if-out-count_hex.true, c.count_hex.ensures))

pub slice_bounds-put_hex-count : goal.slice_bounds-put_hex-count
slice_bounds-put_hex-count c = within (emits1 c.before.before.before)

pub slice_bounds-put_hex-start : goal.slice_bounds-put_hex-start
slice_bounds-put_hex-start c = within (emits1 c.before.before.before)

pub overflow_add-at-2 : goal.overflow_add-at-2
overflow_add-at-2 c = small (emits2 c.before.before.before) (omega arith)

pub slice_bounds-put_u8-count : goal.slice_bounds-put_u8-count
slice_bounds-put_u8-count c = within (emits2 c.before.before.before)

pub slice_bounds-put_u8-start : goal.slice_bounds-put_u8-start
slice_bounds-put_u8-start c = within (emits2 c.before.before.before)

pub overflow_add-at-3 : goal.overflow_add-at-3
overflow_add-at-3 c = small (emits3 c.before.before.before) (omega arith)

pub returns : goal.returns
returns c = emitted (emits3 c.before.before.before) refl
