use native.Mathlib.Omega.{arith}
use mathlib.Core.Path.{ap, ◌∙◌}
use mathlib.Core.List.{[], ◌∷◌}
use Prim.Native.Nat.{◌+◌, ◌≤◌, ◌<◌}
use lib.ListN.{length, get_or}
use Rattle.format.specs.Utf8.{char_at}
use Rattle.object.specs.Texts.{text_bytes}
use Rattle.word_chars.proofs.CharLaws.{byte_is, size_is, char_four, char_out, char_low}
use Rattle.word_chars.proofs.char_in.Goals as goal

pub returns-then-end-p : goal.returns-then-end-p
returns-then-end-p c =
    let a = c.args in
    let h : length (text_bytes a.ws.now a.at a.end) ≤ a.p = omega
    (arith, size_is a.ws.now a.at a.end, c.if-end-p.true) in
    char_out (text_bytes a.ws.now a.at a.end) a.p h

pub returns-then-a-lt-ASCII_END : goal.returns-then-a-lt-ASCII_END
returns-then-a-lt-ASCII_END c =
    let a = c.args in
    let h : a.p < a.end = omega (arith, c.if-end-p.false) in
    let l : a.p < length (text_bytes a.ws.now a.at a.end) = omega (arith, h, size_is a.ws.now a.at a.end) in
    char_low (text_bytes a.ws.now a.at a.end) a.p c.from.result l
    (c.from.ensures ∙ c.text_byte-a.ensures ∙ byte_is a.ws.now a.at a.end a.p h) (omega (arith, c.from.ensures, c.if-a-lt-ASCII_END.true))

pub returns : goal.returns
returns c =
    let a = c.args in
    let p = a.p in
    let text = text_bytes a.ws.now a.at a.end in
    let h : p < a.end = omega (arith, c.if-end-p.false) in
    let l : p < length text = omega (arith, h, size_is a.ws.now a.at a.end) in
    c.char_at.ensures
    ∙ ap (λ w. char_at (w ∷ c.byte_after-b.result ∷ c.byte_after-c.result ∷ c.byte_after-d.result ∷ []))
    (c.text_byte-a.ensures ∙ byte_is a.ws.now a.at a.end p h)
    ∙ ap (λ x. char_at (get_or text p 0 ∷ x ∷ c.byte_after-c.result ∷ c.byte_after-d.result ∷ [])) c.byte_after-b.ensures
    ∙ ap (λ y. char_at (get_or text p 0 ∷ get_or text (p + 1) 0 ∷ y ∷ c.byte_after-d.result ∷ [])) c.byte_after-c.ensures
    ∙ ap (λ z. char_at (get_or text p 0 ∷ get_or text (p + 1) 0 ∷ get_or text (p + 2) 0 ∷ z ∷ [])) c.byte_after-d.ensures
    ∙ char_four text p l
