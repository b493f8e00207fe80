-- The bytes up to a newline stand for themselves. Assumes nothing.
use mathlib.Core.Path.{◌≡◌, sym, ◌∙◌}
use Rattle.word_chars.proofs.CharLaws.{byte_is}
use Rattle.object.specs.Texts.{text_byte}
use Rattle.text_escape.proofs.EscapeLaws.{itself-other, escaped_line}
use Rattle.text_escape.proofs.plain_line.Goals as goal

pub returns-then-byte_in-eq10 : goal.returns-then-byte_in-eq10
returns-then-byte_in-eq10 c =
    let a = c.args in
    let ws = a.ws.now in
    let j = c.plain_end-j.result in
    let f = c.plain_end-j.ensures in
    λ h. let e : text_byte ws a.at j ≡ 10 = byte_is ws a.at a.n j h ∙ sym c.byte_in.ensures ∙ c.if-byte_in-eq10.true in
    record {
      on = f.0;
      clear = (f.0, f.1, λ k l m. itself-other (text_byte ws a.at k) (f.2 k l m));
      ends = e;
      cell = escaped_line ws a.at a.start j f.0 f.2 e;
    }
