-- Labels from an array that holds them all are those of the rows. Assumes nothing.
use mathlib.Core.Path.{◌≡◌, ap, ◌∙◌}
use Rattle.std.specs.Prelude.{Some}
use mathlib.Core.List.{List, map}
use mathlib.Core.Option.{Option}
use Prim.Native.Nat.{ℕ}
use Rattle.format.specs.ObjectFile.{Label}
use Rattle.format.specs.Records.{label}
use Rattle.format.specs.Words.{record_words}
use Rattle.label_items.specs.Items.{cached_labels}
use Rattle.label_cache.specs.Caches.{HoldsLabels}
use Rattle.text_labels.specs.Labels.{labels_of}
use Rattle.text_words.specs.Written.{put_each, PutEach}
use Rattle.text_words.specs.Room.{room_after}
use Rattle.known_labels.specs.Known.{label_parts}

module _ (u items : List ℕ) (n : ℕ) (h : HoldsLabels u items (Some n)) where
  abbrev parts : List (List ℕ)
  parts = map record_words (map label (cached_labels u items n))

  held_are : parts ≡ label_parts u
  unfolding labels_of
  held_are = ap (λ (ls : List Label). map record_words (map label ls)) h

  pub held-room : (room : ℕ) (o : Option ℕ) → o ≡ room_after parts room → o ≡ room_after (label_parts u) room
  held-room room o w = w ∙ ap (λ (ps : List (List ℕ)). room_after ps room) held_are

  pub held-put : (room : List ℕ) (r : ℕ) (after : List ℕ) → PutEach parts room r after → PutEach (label_parts u) room r after
  held-put room r after w = w ∙ ap (λ (ps : List (List ℕ)). put_each ps 0 room) held_are
