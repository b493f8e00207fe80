-- Kept or dropped. Assumes nothing.
use mathlib.Core.Path.{sym, subst, ◌∙◌}
use mathlib.Core.List.{List}
use Prim.Native.Nat.{ℕ, ◌≤◌}
use lib.ListN.{length}
use Rattle.writing.specs.Written.{Put}
use Rattle.binary_sizes.specs.ObjectWords.{relocation_words}
use Rattle.record_words.proofs.RecordLaws.{put-nothing}
use Rattle.binary_emit.proofs.ChunkLaws.{kept-relocations, dropped_relocations}
use Rattle.binary_emit.proofs.put_relocations.Goals as goal

pub put_part-requires : goal.put_part-requires
put_part-requires c =
    let e = kept-relocations c.args.s.now (sym c.keeps_relocations.ensures ∙ c.if-not-keeps_relocations.false) in
    subst (λ (z : List ℕ). length z ≤ length c.args.out.now) e c.requires

pub returns : goal.returns
returns c =
    let e = kept-relocations c.args.s.now (sym c.keeps_relocations.ensures ∙ c.if-not-keeps_relocations.false) in
    subst (λ (z : List ℕ). Put z c.args.out.now c.put_part.result c.put_part.new.out) (sym e) c.put_part.ensures

pub returns-then-not-keeps_relocations : goal.returns-then-not-keeps_relocations
returns-then-not-keeps_relocations c =
    put-nothing (relocation_words c.args.s.now) c.args.out.now
    (dropped_relocations c.args.s.now (sym c.keeps_relocations.ensures ∙ c.if-not-keeps_relocations.true))
