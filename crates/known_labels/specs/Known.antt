-- The words of a text file's labels. Assumes nothing.
use Rattle.std.specs.Prelude.{List, map, ℕ}
use Rattle.format.specs.Records.{label}
use Rattle.format.specs.Words.{record_words}
use Rattle.text_labels.specs.Labels.{labels_of}

abbrev pub label_parts : List ℕ → List (List ℕ)  -- of each label
label_parts u = map record_words (map label (labels_of u))
