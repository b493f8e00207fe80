-- The kind of a record says what its bytes are. Assumes nothing.
use native.Mathlib.Omega.{arith}
use mathlib.Core.Path.{◌≡◌, sym, ap, ◌∙◌}
use mathlib.Core.List.{List}
use Prim.Native.Nat.{ℕ, ◌+◌, ◌*◌, ◌≤◌}
use lib.ListN.{length}
use Rattle.format.specs.Records.{line_block}
use Rattle.format.specs.Binary.{record_bytes}
use Rattle.object.specs.Texts.{text_len}
use Rattle.object.specs.Access.{kind_at, record_at, line_block_at}
use Rattle.object.specs.Bodies.{kind_number}
use Rattle.object.specs.declared.Kind.{Kind}
use Rattle.object.specs.declared.Kind.TheVariants as kind
use Rattle.object.proofs.KindLaws.{other_kind}
use Rattle.object.proofs.ByteLaws.{text-within}
use Rattle.binary_measure.specs.Measured.{Ends, TextEnds}
use Rattle.binary_measure.proofs.KindLaws.{block_here, label-here, line-here, source-here, relocation-here, kind_3}
use Rattle.binary_measure.proofs.KindLaws.{text-size, block_size, label-size, line-size, source-size, relocation-size}
use Rattle.binary_measure.proofs.record_len.Goals as goal
use Rattle.binary_measure.proofs.record_len.Goals.{In_default}

-- a text is not longer than its words can hold
short : (ws : List ℕ) (at end n : ℕ) → TextEnds ws at end → n ≡ text_len ws at end → n ≤ 3 * length ws
short ws at end n e q = omega (arith, q, text-size ws at end at e, text-within ws at e.0)

pub returns-in-Block : goal.returns-in-Block
returns-in-Block c =
    block_size c.args.ws.now c.args.at c.args.end c.requires.ends
    ∙ sym (ap (λ r. length (record_bytes r)) (block_here c.args.ws.now c.args.at c.args.end c.requires (sym c.in-Block.ensures)))

pub overflow_add-result-in-Label : goal.overflow_add-result-in-Label
overflow_add-result-in-Label c =
    let here = label-here c.args.ws.now c.args.at c.args.end c.requires (sym c.in-Label.ensures) in
    record { fits = omega (arith, short _ _ _ _ here.1 c.text_len.ensures) }

pub returns-in-Label : goal.returns-in-Label
returns-in-Label c =
    let here = label-here c.args.ws.now c.args.at c.args.end c.requires (sym c.in-Label.ensures) in
    label-size c.args.ws.now c.args.at c.args.end c.text_len.result here.1 c.text_len.ensures ∙ sym (ap (λ r. length (record_bytes r)) here.0)

pub overflow_add-result-in-Source : goal.overflow_add-result-in-Source
overflow_add-result-in-Source c =
    let here = source-here c.args.ws.now c.args.at c.args.end c.requires (sym c.in-Source.ensures) in
    record { fits = omega (arith, short _ _ _ _ here.1 c.text_len-in-Source.ensures) }

pub returns-in-Source : goal.returns-in-Source
returns-in-Source c =
    let here = source-here c.args.ws.now c.args.at c.args.end c.requires (sym c.in-Source.ensures) in
    source-size c.args.ws.now c.args.at c.args.end c.text_len-in-Source.result here.1 c.text_len-in-Source.ensures ∙ sym (ap (λ r. length (record_bytes r)) here.0)

pub overflow_add-result-in-Relocation : goal.overflow_add-result-in-Relocation
overflow_add-result-in-Relocation c =
    let here = relocation-here c.args.ws.now c.args.at c.args.end c.requires (sym c.in-Relocation.ensures) in
    record { fits = omega (arith, short _ _ _ _ here.1 c.text_len-in-Relocation.ensures) }

pub returns-in-Relocation : goal.returns-in-Relocation
returns-in-Relocation c =
    let here = relocation-here c.args.ws.now c.args.at c.args.end c.requires (sym c.in-Relocation.ensures) in
    relocation-size c.args.ws.now c.args.at c.args.end c.text_len-in-Relocation.result here.1 c.text_len-in-Relocation.ensures ∙ sym (ap (λ r. length (record_bytes r)) here.0)

-- a line block
here : (c : In_default) → (record_at c.args.ws.now c.args.at ≡ line_block (line_block_at c.args.ws.now c.args.at))
    × Ends c.args.ws.now (c.args.at + 1 + 3) c.args.end
here c =
    let o = c.in_default in
    let other : (k : Kind) → (c.of.result ≡ k → ⊥) → kind_at c.args.ws.now c.args.at ≡ kind_number k → ⊥ =
    λ k n. other_kind c.of.result k _ c.of.ensures n in
    line-here c.args.ws.now c.args.at c.args.end c.requires
    (kind_3 c.args.ws.now c.args.at c.args.end c.requires (other kind.Block o.not-Block) (other kind.Source o.not-Source)
    (other kind.Relocation o.not-Relocation) (other kind.Label o.not-Label))

pub overflow_sub-result-in_default : goal.overflow_sub-result-in_default
overflow_sub-result-in_default c = omega (arith, (here c).1.0)

pub returns-in_default : goal.returns-in_default
returns-in_default c =
    let l = here c in
    line-size c.args.ws.now c.args.at c.args.end l.1 ∙ sym (ap (λ r. length (record_bytes r)) l.0)
