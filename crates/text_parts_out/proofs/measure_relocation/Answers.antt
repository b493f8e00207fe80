use mathlib.Core.Path.{◌≡◌, sym, ap, ◌∙◌}
use Rattle.object.specs.Access.{kind_at}
use Rattle.measuring.specs.Room.{less_part}
use Rattle.measuring.proofs.RoomLaws.{less-nothing}
use borrow.Author.Tests.{not-true, not-false}
use Rattle.object.specs.declared.Kind.TheVariants as kind
use Rattle.object.proofs.KindLaws.{number_is, number_not}
use Rattle.text_parts_out.proofs.PartLaws.{link_other, link_row}
use Rattle.text_parts_out.proofs.measure_relocation.Goals as goal

pub returns-then-ne : goal.returns-then-ne
returns-then-ne c =
    less-nothing c.args.room
    ∙ ap (less_part c.args.room)
    (sym (link_other c.args.ws.now c.args.at (number_not c.of.result kind.Relocation _ c.of.ensures (sym (not-true _ (sym c.if-ne.ensures))))))

pub returns : goal.returns
returns c =
    let e : kind_at c.args.ws.now c.args.at ≡ 5 = number_is c.of.result kind.Relocation _ c.of.ensures (sym (not-false _ (sym c.if-ne.ensures))) in
    c.measure_linker_row.ensures
    ∙ ap (less_part c.args.room)
    (link_row c.args.ws.now c.args.at c.args.end c.text_len-n.result e c.requires.1 c.text_len-n.ensures)
