use mathlib.Core.List.{map}
use lib.ListN.{drop}
use Rattle.text_rows.specs.Rows.{number_of}
use Rattle.text_words.specs.Written.{words_at}
use Rattle.text_words.proofs.PutLaws.{Puts}
use Rattle.text_words.proofs.put_window.Given as goal

abbrev pub invariant-loop-p : goal.invariant-loop-p
invariant-loop-p l =
    Puts (map (words_at (number_of l.kind) l.t) (drop l.p-index l.places)) (map (words_at (number_of l.kind) l.t) l.places) l.initial.out l.out l.at
