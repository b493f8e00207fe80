use native.Mathlib.Omega.{arith}
use mathlib.Core.Path.{◌≡◌, ap, ◌∙◌}
use Prim.Native.Nat.{◌+◌}
use Rattle.object.specs.Texts.{text_len, text_bytes}
use Rattle.label_tables.specs.Rows.{bytes_at}
use Rattle.label_tables.proofs.RowLaws.{text-few, name-none}
use Rattle.label_tables.proofs.name_of.Goals as goal

pub returns-then-ws-p : goal.returns-then-ws-p
returns-then-ws-p c = (name-none _ _ c.if-ws-p.true, omega arith)

pub returns : goal.returns
unfolding bytes_at
returns c =
    let a = c.args in
    let ws = a.ws.now in
    let at = a.p + 1 + 3 in
    let e : c.text_len.result ≡ text_len ws at c.body_end-end.result = c.text_len.ensures in (
      ap (text_bytes ws at) (e ∙ ap (text_len ws at) c.body_end-end.ensures),
      omega (arith, e, text-few ws at c.body_end-end.result),
    )
