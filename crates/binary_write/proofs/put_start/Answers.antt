-- By the kind. Assumes nothing.
use Rattle.std.proofs.Common.{◌≡◌, sym}
use Rattle.object.specs.Access.{kind_at}
use Rattle.object.specs.Bodies.{kind_number}
use Rattle.object.specs.declared.Kind.{Kind}
use Rattle.object.specs.declared.Kind.TheVariants as kind
use Rattle.object.proofs.KindLaws.{other_kind}
use Rattle.binary_measure.proofs.KindLaws.{kind_5}
use Rattle.binary_write.proofs.RoomLaws.{put_as}
use Rattle.binary_write.proofs.StartLaws.{block_start, label-start, line-start, source-start, relocation-start}
use Rattle.binary_write.proofs.put_start.Goals as goal

pub returns-in-Block : goal.returns-in-Block
returns-in-Block c =
    put_as _ (block_start c.args.ws.now c.args.at c.args.end c.requires (sym c.in-Block.ensures) _ c.count.ensures) _ _ c.put_block_start.ensures

pub returns-in-Label : goal.returns-in-Label
returns-in-Label c =
    put_as _ (label-start c.args.ws.now c.args.at c.args.end c.requires (sym c.in-Label.ensures) _ _ c.external.ensures c.number_at.ensures) _ _
    c.put_label_start.ensures

pub returns-in-LineBlock : goal.returns-in-LineBlock
returns-in-LineBlock c =
    put_as _ (line-start c.args.ws.now c.args.at c.args.end c.requires (sym c.in-LineBlock.ensures) _ _ c.number_at-in-LineBlock.ensures
    c.count-in-LineBlock.ensures) _ _ c.put_lines_start.ensures

pub returns-in-Source : goal.returns-in-Source
returns-in-Source c =
    put_as _ (source-start c.args.ws.now c.args.at c.args.end c.requires (sym c.in-Source.ensures)) _ _ c.put_u8.ensures

pub returns-in_default : goal.returns-in_default
returns-in_default c =
    let o = c.in_default in
    let other : (k : Kind) → (c.of.result ≡ k → ⊥) → kind_at c.args.ws.now c.args.at ≡ kind_number k → ⊥ =
    λ k n. other_kind c.of.result k _ c.of.ensures n in
    put_as _ (relocation-start c.args.ws.now c.args.at c.args.end c.requires
    (kind_5 c.args.ws.now c.args.at c.args.end c.requires (other kind.Block o.not-Block) (other kind.Label o.not-Label)
    (other kind.LineBlock o.not-LineBlock) (other kind.Source o.not-Source))) _ _ c.put_address.ensures
