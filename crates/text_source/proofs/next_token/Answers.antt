-- What stands at the byte that the cursor is then at. Assumes nothing.
use Rattle.std.proofs.Common.{length}
use Rattle.text_source.specs.declared.Source.{Source}
use Rattle.text_source.specs.declared.Token.TheVariants as tk
use Rattle.text_source.proofs.StreamLaws.{most_same}
use Rattle.text_source.proofs.UnescapeLaws.{token_stretch, token_same, next_same}
use Rattle.text_source.proofs.next_token.Goals as goal

pub returns-then-d-plain : goal.returns-then-d-plain
returns-then-d-plain c =
    let t = c.args.t.now in
    let d : Source = c.in-Some.d in
    let q = c.in-Some.ensures in
    let r = c.plain_end-plain in
    let p = r.ensures c.if-d-plain.true in
    token_same t (record { at = c.args.at; end = c.args.end; next = c.args.next }) d q.0
    (tk.Stretch d.at r.result) (record { at = r.result; end = d.end; next = d.next })
    (token_stretch t d d.end r.result (most_same d.end (length t) q.2) c.if-d-plain.true p.0 p.1)

pub returns : goal.returns
returns c = next_same c.args.t.now (record { at = c.args.at; end = c.args.end; next = c.args.next }) c.in-Some.d c.in-Some.ensures.0 c.one_token.result c.one_token.ensures
