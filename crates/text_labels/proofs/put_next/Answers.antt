use mathlib.Core.Path.{ap, subst}
use mathlib.Core.List.{List}
use Prim.Native.Nat.{ℕ}
use Rattle.writing.specs.Written.{Put}
use Rattle.text_words.specs.Written.{index_at, symbol_words}
use Rattle.text_labels.specs.Labels.{both_words, next_words}
use Rattle.text_labels.proofs.put_next.Goals as goal

pub returns-in-Symbol : goal.returns-in-Symbol
unfolding next_words
returns-in-Symbol c = rw c.in-Symbol.is c.put_row.ensures

pub returns-in-Start : goal.returns-in-Start
unfolding next_words
returns-in-Start c = rw c.in-Start.is c.put_row-in-Start.ensures

pub returns-in-Both : goal.returns-in-Both
unfolding next_words both_words index_at
returns-in-Both c =
    let t = c.args.t.now in
    rw c.in-Both.is
    (subst (λ (xs : List ℕ). Put xs c.args.out.now c.put_symbol.result c.put_symbol.new.out) (ap (symbol_words t c.args.p) c.number_at-start.ensures) c.put_symbol.ensures)
