-- By kind. Assumes nothing.
use mathlib.Core.Path.{◌≡◌, refl, sym, ap, subst, ◌∙◌}
use mathlib.Core.List.{List, []}
use Prim.Native.Nat.{ℕ, ◌≤◌}
use lib.ListN.{length}
use Rattle.writing.specs.Written.{Put}
use Rattle.binary_words.specs.RecordAt.{words_at}
use Rattle.record_words.proofs.RecordLaws.{put-nothing}
use Rattle.gather.specs.Kinds.{byte_of}
use Rattle.binary_emit.proofs.put_record.Goals as goal

-- what is asked and told of the kind at hand, of a kind that is equal to it
asked : (s room : List ℕ) (p k j : ℕ) → k ≡ j → length (words_at k s p) ≤ length room → length (words_at j s p) ≤ length room
asked s room p k j e h = subst (λ (i : ℕ). length (words_at i s p) ≤ length room) e h

told : (s room after : List ℕ) (p r k j : ℕ) → k ≡ j → Put (words_at j s p) room r after → Put (words_at k s p) room r after
told s room after p r k j e h = subst (λ (i : ℕ). Put (words_at i s p) room r after) (sym e) h

-- a chunk of the source has no words of its own
no_words : (s : List ℕ) (p : ℕ) → words_at 3 s p ≡ []
unfolding words_at
no_words s p = refl

pub put_block-requires : goal.put_block-requires
put_block-requires c = asked c.args.s.now c.args.out.now c.args.p (byte_of c.args.kind) 0 (ap byte_of c.in-Block.is) c.requires

pub returns-in-Block : goal.returns-in-Block
returns-in-Block c = told c.args.s.now c.args.out.now c.put_block.new.out c.args.p
    c.put_block.result (byte_of c.args.kind) 0 (ap byte_of c.in-Block.is)
    c.put_block.ensures

pub put_label-requires : goal.put_label-requires
put_label-requires c = asked c.args.s.now c.args.out.now c.args.p (byte_of c.args.kind) 1 (ap byte_of c.in-Label.is) c.requires

pub returns-in-Label : goal.returns-in-Label
returns-in-Label c = told c.args.s.now c.args.out.now c.put_label.new.out c.args.p
    c.put_label.result (byte_of c.args.kind) 1 (ap byte_of c.in-Label.is)
    c.put_label.ensures

pub put_lines-requires : goal.put_lines-requires
put_lines-requires c = asked c.args.s.now c.args.out.now c.args.p (byte_of c.args.kind) 2 (ap byte_of c.in-LineBlock.is) c.requires

pub returns-in-LineBlock : goal.returns-in-LineBlock
returns-in-LineBlock c = told c.args.s.now c.args.out.now c.put_lines.new.out c.args.p
    c.put_lines.result (byte_of c.args.kind) 2 (ap byte_of c.in-LineBlock.is)
    c.put_lines.ensures

pub put_relocation-requires : goal.put_relocation-requires
put_relocation-requires c = asked c.args.s.now c.args.out.now c.args.p (byte_of c.args.kind) 4 (ap byte_of c.in-Relocation.is) c.requires

pub returns-in-Relocation : goal.returns-in-Relocation
returns-in-Relocation c = told c.args.s.now c.args.out.now c.put_relocation.new.out c.args.p
    c.put_relocation.result (byte_of c.args.kind) 4 (ap byte_of c.in-Relocation.is)
    c.put_relocation.ensures

pub returns-in-Source : goal.returns-in-Source
returns-in-Source c = put-nothing (words_at (byte_of c.args.kind) c.args.s.now c.args.p) c.args.out.now
    (ap (λ (k : ℕ). words_at k c.args.s.now c.args.p) (ap byte_of c.in-Source.is) ∙ no_words c.args.s.now c.args.p)
