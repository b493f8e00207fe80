use native.Mathlib.Omega.{arith}
use mathlib.Core.Path.{ap, ◌∙◌}
use mathlib.Core.List.{[], ◌∷◌}
use Prim.Native.Nat.{ℕ, ◌+◌, ◌≤◌, ◌<◌}
use lib.ListN.{length, get_or}
use Rattle.format.specs.Utf8.{char_at, white_space_length}
use Rattle.object.specs.Texts.{text_bytes}
use Rattle.word_chars.proofs.CharLaws.{size_is}
use Rattle.line_spans.proofs.TrimLaws.{white_out}
use Rattle.word_chars.proofs.CharLaws.{char_four}
use Rattle.line_spans.proofs.white_at.Goals as goal

pub returns-then-end-p : goal.returns-then-end-p
returns-then-end-p c =
    let a = c.args in
    let h : length (text_bytes a.ws.now a.at a.end) ≤ a.p = omega
    (arith, size_is a.ws.now a.at a.end, c.if-end-p.true) in
    white_out (text_bytes a.ws.now a.at a.end) a.p h

pub returns : goal.returns
returns c =
    let a = c.args in
    let p = a.p in
    let text = text_bytes a.ws.now a.at a.end in
    let h : p < length text = omega (arith, size_is a.ws.now a.at a.end, c.if-end-p.false) in
    let of : ℕ → ℕ → ℕ → ℕ → ℕ = λ w x y z. white_space_length (char_at (w ∷ x ∷ y ∷ z ∷ [])) in
    c.white_at.ensures ∙ ap (λ w. of w c.byte_in-b.result c.byte_in-c.result c.byte_in-d.result) c.byte_in-a.ensures
    ∙ ap (λ x. of (get_or text p 0) x c.byte_in-c.result c.byte_in-d.result) c.byte_in-b.ensures
    ∙ ap (λ y. of (get_or text p 0) (get_or text (p + 1) 0) y c.byte_in-d.result) c.byte_in-c.ensures
    ∙ ap (λ z. of (get_or text p 0) (get_or text (p + 1) 0) (get_or text (p + 2) 0) z) c.byte_in-d.ensures
    ∙ ap white_space_length (char_four text p h)
