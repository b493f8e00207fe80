use Rattle.text_words.proofs.PutLaws.{Puts}
use Rattle.label_items.specs.Items.{label_at}
use Rattle.label_items.proofs.ItemLaws.{words_from}
use Rattle.label_items.proofs.put_cached.Given as goal

abbrev pub invariant-loop-i : goal.invariant-loop-i
invariant-loop-i l = Puts (words_from (label_at l.t l.items) l.n l.i) (words_from (label_at l.t l.items) l.n 0) l.initial.out l.out l.at
