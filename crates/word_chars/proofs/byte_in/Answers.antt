use native.Mathlib.Omega.{arith}
use mathlib.Core.Path.{◌∙◌}
use Prim.Native.Nat.{◌≤◌, ◌<◌}
use lib.ListN.{length}
use Rattle.object.specs.Texts.{text_bytes}
use Rattle.word_chars.proofs.CharLaws.{byte_is, size_is, byte_out}
use Rattle.word_chars.proofs.byte_in.Goals as goal

pub returns-then-end-p : goal.returns-then-end-p
returns-then-end-p c =
    let a = c.args in
    let h : length (text_bytes a.ws.now a.at a.end) ≤ a.p = omega
    (arith, size_is a.ws.now a.at a.end, c.if-end-p.true) in
    byte_out (text_bytes a.ws.now a.at a.end) a.p h

pub returns : goal.returns
returns c =
    let a = c.args in
    let h : a.p < a.end = omega (arith, c.if-end-p.false) in
    c.text_byte.ensures ∙ byte_is a.ws.now a.at a.end a.p h
