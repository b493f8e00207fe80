use native.Mathlib.Omega.{arith}
use mathlib.Core.Path.{sym, ◌∙◌}
use Prim.Native.Nat.{ℕ, ◌*◌, ◌-◌, ◌≤◌}
use lib.ListN.{length}
use borrow.Author.Tests.{le-leb}
use Rattle.object.specs.Texts.{text_bytes}
use Rattle.word_chars.proofs.CharLaws.{size_is}
use Rattle.measuring.proofs.RoomLaws.{said}
use Rattle.text_escape.specs.Escaped.{escaped_in}
use Rattle.text_escape.proofs.EscapeLaws.{escaped_short}
use Rattle.text_escape.proofs.escaped_fits.Goals as goal
use Rattle.text_escape.proofs.escaped_fits.Goals.{Start}

abbrev size : (s : Start) → ℕ
size s = length (escaped_in s.args.ws.now s.args.at s.args.start s.args.end)

few : (s : Start) → (size s) ≤ 10 * (s.args.end - s.args.start)
few s =
    let t = text_bytes s.args.ws.now s.args.at s.args.end in
    omega (arith, escaped_short t s.args.start, size_is s.args.ws.now s.args.at s.args.end)

pub returns-then-end-start : goal.returns-then-end-start
returns-then-end-start c = sym (le-leb (size (goal.at.returns-then-end-start c).Start) c.args.room (omega (arith, few (goal.at.returns-then-end-start c).Start, c.if-end-start.true)))

pub returns-then-end-start-2 : goal.returns-then-end-start-2
returns-then-end-start-2 c =
    sym (le-leb (size (goal.at.returns-then-end-start-2 c).Start) c.args.room (omega (arith, few (goal.at.returns-then-end-start-2 c).Start, c.if-end-start-2.true, c.if-end-start.false)))

pub returns : goal.returns
returns c =
    c.is_some.ensures ∙ said c.args.room (size (goal.at.returns c).Start) c.measure_escaped.result c.measure_escaped.ensures
