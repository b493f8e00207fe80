use mathlib.Core.Path.{subst}
use mathlib.Core.List.{List}
use Prim.Native.Nat.{ℕ}
use Rattle.writing.specs.Written.{Put}
use Rattle.text_words.proofs.WordLaws.{symbol-words}
use Rattle.text_words.proofs.put_symbol.Goals as goal

pub returns : goal.returns
returns c =
    let a = c.args in
    subst (λ (w : List ℕ). Put w a.out.now c.put_label.result c.put_label.new.out)
    (symbol-words a.t.now a.p c.address_at.result c.number_at.result a.start c.cell_at.result.now c.address_at.ensures c.number_at.ensures c.cell_at.ensures)
    c.put_label.ensures
