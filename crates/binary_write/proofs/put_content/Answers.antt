-- By the kind. Assumes nothing.
use Rattle.std.proofs.Common.{◌≡◌, ap, arith}
use Rattle.object.specs.Bodies.{kind_number}
use Rattle.object.specs.declared.Kind.{Kind}
use Rattle.object.specs.declared.Kind.TheVariants as kind
use Rattle.object.proofs.KindLaws.{same_kind}
use Rattle.binary_write.proofs.RoomLaws.{fits_as, put_as}
use Rattle.binary_write.proofs.StartLaws.{content_0, content_3, content_text}
use Rattle.binary_write.proofs.put_content.Goals as goal
use Rattle.binary_write.proofs.put_content.Goals.{In_default}

lines : (k : Kind) → k ≡ kind.LineBlock → kind_number k ≡ 0 → ⊥
lines k e z = let h = ap kind_number e in absurd (omega (arith, h, z))

no_memory : (c : In_default) → kind_number c.args.kind ≡ 0 → ⊥
no_memory c z = c.in_default.not-Block (same_kind _ kind.Block z)

no_lines : (c : In_default) → kind_number c.args.kind ≡ 3 → ⊥
no_lines c z = c.in_default.not-LineBlock (same_kind _ kind.LineBlock z)

pub put_memory-requires : goal.put_memory-requires
put_memory-requires c =
    fits_as c.args.out.now (content_0 (kind_number c.args.kind) c.args.words.now (ap kind_number c.in-Block.is)) c.requires.1

pub returns-in-Block : goal.returns-in-Block
returns-in-Block c =
    put_as _ (content_0 (kind_number c.args.kind) c.args.words.now (ap kind_number c.in-Block.is)) _ _ c.put_memory.ensures

pub put_addresses-requires : goal.put_addresses-requires
put_addresses-requires c =
    let e = c.in-LineBlock.is in
    fits_as c.args.out.now (content_3 (kind_number c.args.kind) c.args.words.now (lines _ e) (ap kind_number e)) c.requires.1

pub returns-in-LineBlock : goal.returns-in-LineBlock
returns-in-LineBlock c =
    let e = c.in-LineBlock.is in
    put_as _ (content_3 (kind_number c.args.kind) c.args.words.now (lines _ e) (ap kind_number e)) _ _ c.put_addresses.ensures

pub put_sized-requires : goal.put_sized-requires
put_sized-requires c =
    let d = (goal.at.put_sized-requires c).In_default in (
      c.requires.0 (no_memory d) (no_lines d),
      fits_as c.args.out.now (content_text (kind_number c.args.kind) c.args.words.now (no_memory d) (no_lines d)) c.requires.1,
    )

pub returns-in_default : goal.returns-in_default
returns-in_default c =
    let d = (goal.at.returns-in_default c).In_default in
    put_as _ (content_text (kind_number c.args.kind) c.args.words.now (no_memory d) (no_lines d)) _ _ c.put_sized.ensures
