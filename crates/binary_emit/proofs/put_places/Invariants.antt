use mathlib.Core.List.{flat_map}
use lib.ListN.{drop}
use Rattle.writing.proofs.Parts.{Emits}
use Rattle.gather.specs.Kinds.{byte_of}
use Rattle.binary_words.specs.RecordAt.{words_at}
use Rattle.binary_emit.proofs.put_places.Given as goal

abbrev pub invariant-loop-p : goal.invariant-loop-p
invariant-loop-p l =
    Emits (flat_map (words_at (byte_of l.kind) l.s) l.places) l.initial.out
    (flat_map (words_at (byte_of l.kind) l.s) (drop l.p-index l.places)) (record { at = l.at; out = l.out })
