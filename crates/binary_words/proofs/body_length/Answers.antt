use mathlib.Core.Path.{◌≡◌, refl, sym, ap, ◌∙◌}
use mathlib.Core.List.{List}
use mathlib.Core.Logic.{◌⊎◌, inl, inr}
use Prim.Native.Nat.{ℕ}
use lib.ListN.{length}
use Rattle.gather.specs.Kinds.{byte_of}
use Rattle.gather.specs.declared.kind.Kind.{Kind}
use Rattle.gather.specs.declared.kind.Kind.TheVariants as kind
use Rattle.binary_words.specs.RecordAt.{body_length}
use Rattle.binary_words.proofs.body_length.Goals as goal

-- the last case
others : (k : Kind) (s : List ℕ) (p : ℕ) → (k ≡ kind.Source) ⊎ (k ≡ kind.Relocation) → body_length (byte_of k) s p ≡ body_length 4 s p
unfolding body_length
others k s p (inl e) = rw e refl
others k s p (inr e) = rw e refl

pub returns-in-Block : goal.returns-in-Block
unfolding body_length
returns-in-Block c = ap length c.bytes_at-body.ensures ∙ rw (c.in-Block.is, sym c.u16_at.ensures, sym c.from.ensures) refl

pub returns-in-Label : goal.returns-in-Label
unfolding body_length
returns-in-Label c = ap length c.bytes_at-body-in-Label.ensures ∙ rw (c.in-Label.is, sym c.u64_at.ensures) refl

pub returns-in-LineBlock : goal.returns-in-LineBlock
unfolding body_length
returns-in-LineBlock c =
    ap length c.bytes_at-body-in-LineBlock.ensures ∙ rw (c.in-LineBlock.is, sym c.u16_at-in-LineBlock.ensures, sym c.from-in-LineBlock.ensures) refl

pub returns-in-Source : goal.returns-in-Source
unfolding body_length
returns-in-Source c =
    let a = c.args in
    ap length c.bytes_at-body-in-Source.ensures ∙ rw (others a.kind a.s.now a.p c.in-Source.is, sym c.u64_at-in-Source.ensures) refl
