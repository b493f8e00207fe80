-- Past a stretch without a newline byte by byte, up to a newline. Assumes nothing.
use borrow.Author.Rules.{rules}
use native.Mathlib.Omega.{arith}
use mathlib.Core.Path.{◌≡◌, sym, ap, ◌∙◌}
use mathlib.Core.List.{List}
use Prim.Native.Nat.{ℕ, ◌+◌, ◌-◌, ◌^◌, ◌<◌}
use lib.ListN.{length, get_or}
use Rattle.object.specs.Texts.{text_bytes}
use Rattle.word_chars.proofs.CharLaws.{byte_is, size_is}
use Rattle.text_lines_out.specs.Merge.{smaller}
use Rattle.text_runs_out.specs.Lines.{next_start}
use Rattle.text_lines_out.proofs.LineLaws.{min-is}
use Rattle.text_runs_out.proofs.StartLaws.{passed_on, passed_clear, next-found, next-none}
use Rattle.text_runs_out.proofs.next_line.Goals as goal
use Rattle.text_runs_out.proofs.next_line.Goals.{After-text_byte, After-loop-i}

abbrev text : (c : After-text_byte) → List ℕ
text c = text_bytes c.args.ws.now c.args.at c.args.n

abbrev i : (c : After-text_byte) → ℕ
i c = c.loop-i.i

size : (c : After-text_byte) → length (text c) ≡ c.args.n
size c = size_is c.args.ws.now c.args.at c.args.n

there : (c : After-text_byte) → (i c) < length (text c)
there c = omega (arith, (size c), c.loop-i-test.true)

byte : (c : After-text_byte) → c.text_byte.result ≡ get_or (text c) (i c) 0
byte c = c.text_byte.ensures ∙ byte_is c.args.ws.now c.args.at c.args.n (i c) c.loop-i-test.true

few : (c : After-text_byte) → length (text c) < 2 ^ 64
few c = let h : c.args.n < 2 ^ 64 = search rules in omega (arith, (size c), h)

-- no newline is found
over : (c : After-loop-i) → let a = c.args in
    smaller (a.n + 1) (2 ^ 64 - 1) ≡ next_start (text_bytes a.ws.now a.at a.n) a.start
over c =
    let a = c.args in
    let text = text_bytes a.ws.now a.at a.n in
    let z = size_is a.ws.now a.at a.n in
    ap (λ (k : ℕ). smaller (k + 1) (2 ^ 64 - 1)) (sym z)
    ∙ sym (next-none text a.start c.loop-i.i c.loop-i.invariant (omega (arith, z, c.loop-i-test.false)))

pub loop-i-init : goal.loop-i-init
loop-i-init c =
    let a = c.args in
    passed_clear a.ws.now a.at a.n a.start c.clear_end-i.result c.clear_end-i.ensures

pub returns-then-text_byte-eq10 : goal.returns-then-text_byte-eq10
returns-then-text_byte-eq10 c =
    let b = (goal.at.returns-then-text_byte-eq10 c).After-text_byte in
    sym (next-found (text b) c.args.start (i b) c.loop-i.invariant (there b) (sym (byte b) ∙ c.if-text_byte-eq10.true) (few b))

pub loop-i-preserved : goal.loop-i-preserved
loop-i-preserved c =
    let b = (goal.at.loop-i-preserved c).After-text_byte in
    passed_on (text b) c.args.start (i b) c.loop-i.invariant (there b) (λ z. c.if-text_byte-eq10.false (byte b ∙ z))

pub returns : goal.returns
returns c = c.saturating_add.ensures ∙ min-is _ _ ∙ over (goal.at.returns c).After-loop-i
