use Rattle.std.proofs.Common.{◌≡◌, ◌/◌, ◌^◌, get_or}
use Rattle.object.proofs.WordLaws.{head-kind}
use Rattle.object.proofs.KindLaws.{other_kind}
use Rattle.object.specs.Bodies.{kind_number}
use Rattle.object.specs.declared.Kind.{Kind}
use Rattle.object.specs.declared.Kind.TheVariants as kind
use Rattle.well_formed.proofs.advance.Goals as goal
use Rattle.well_formed.proofs.advance.Goals.{In_default}

-- a kind that the word has not
other : (c : In_default) (k : Kind) → (c.of.result ≡ k → ⊥) → get_or c.args.ws.now c.args.at 0 / 2 ^ 29 ≡ kind_number k → ⊥
other c k n e = other_kind c.of.result k _ c.of.ensures n e

pub relocation-requires : goal.relocation-requires
relocation-requires c =
    let o = c.in_default in (
      c.requires.0,
      head-kind _ c.requires.1 (other c kind.Block o.not-Block) (other c kind.Label o.not-Label)
          (other c kind.LineBlock o.not-LineBlock) (other c kind.Source o.not-Source),
      c.requires.2,
    )
