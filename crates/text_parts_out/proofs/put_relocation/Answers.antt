use mathlib.Core.Path.{◌≡◌, sym, subst}
use mathlib.Core.List.{List}
use Prim.Native.Nat.{ℕ}
use Rattle.writing.specs.Written.{Put}
use Rattle.object.specs.Access.{kind_at}
use borrow.Author.Tests.{not-true, not-false}
use Rattle.object.specs.declared.Kind.TheVariants as kind
use Rattle.object.proofs.KindLaws.{number_is, number_not}
use Rattle.text_parts_out.proofs.PartLaws.{link_other, link_row, nothing_put}
use Rattle.text_parts_out.proofs.put_relocation.Goals as goal

pub returns-then-ne : goal.returns-then-ne
returns-then-ne c =
    nothing_put _ (link_other c.args.ws.now c.args.at (number_not c.of.result kind.Relocation _ c.of.ensures (sym (not-true _ (sym c.if-ne.ensures)))))

pub returns : goal.returns
returns c =
    let e : kind_at c.args.ws.now c.args.at ≡ 5 = number_is c.of.result kind.Relocation _ c.of.ensures (sym (not-false _ (sym c.if-ne.ensures))) in
    subst (λ (x : List ℕ). Put x c.args.out.now c.put_linker_row.result c.put_linker_row.new.out)
    (link_row c.args.ws.now c.args.at c.args.end c.text_len-n.result e c.requires.1 c.text_len-n.ensures)
    c.put_linker_row.ensures
