use mathlib.Core.Path.{subst}
use mathlib.Core.List.{List}
use Prim.Native.Nat.{ℕ, ◌%◌}
use lib.Dec.{leb}
use Rattle.format.specs.Records.{label}
use Rattle.format.specs.Words.{record_words}
use Rattle.writing.specs.Written.{Put}
use Rattle.label_items.proofs.put_item.Goals as goal

pub returns : goal.returns
returns c =
    let a = c.args in
    subst (λ (bs : List ℕ). Put (record_words (label (record { name = bs; address = a.x.head % 65536; external = leb 65536 a.x.head; start = a.x.index }))) a.out.now c.put_label.result c.put_label.new.out)
    c.name_of.ensures c.put_label.ensures
