use mathlib.Core.Path.{◌≡◌}
use lib.ListN.{drop}
use Rattle.binary_words.specs.Apart.{place_of, apart_from}
use Rattle.binary_words.proofs.places_apart.Given as goal

abbrev pub invariant-loop-p : goal.invariant-loop-p
invariant-loop-p l = apart_from l.s (place_of l.last) (drop l.p-index l.places) ≡ apart_from l.s (place_of l.initial.last) l.places
