-- By the byte that says external. Assumes nothing.
use mathlib.Core.Path.{sym, ap, ◌∙◌}
use Prim.Native.Nat.{ℕ, ◌+◌, ◌%◌}
use Rattle.record_words.proofs.RecordLaws.{head_inner, head-external}
use Rattle.record_words.proofs.label_head.Goals as goal

pub returns-then-u16_at-eq0 : goal.returns-then-u16_at-eq0
returns-then-u16_at-eq0 c =
    let a = c.args in
    ap (λ (n : ℕ). 0x4000_0000 + n) (c.from-a.ensures ∙ c.u16_at.ensures)
    ∙ head_inner a.s.now a.p (λ j. (c.type_inv.s j).fits)
    (ap (λ (n : ℕ). n % 256) (sym c.u16_at-2.ensures) ∙ c.if-u16_at-eq0.true)

pub returns : goal.returns
returns c =
    let a = c.args in
    ap (λ (n : ℕ). 0x4001_0000 + n) (c.from-a.ensures ∙ c.u16_at.ensures)
    ∙ head-external a.s.now a.p (λ j. (c.type_inv.s j).fits)
    (λ z. c.if-u16_at-eq0.false (ap (λ (n : ℕ). n % 256) c.u16_at-2.ensures ∙ z))
