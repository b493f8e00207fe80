-- Records: what the words of an object and a binary file are made of, one after the other; how a reader gathers them; and the questions
-- that it asks after the last. Assumes nothing.
use Rattle.std.specs.Prelude.{Bool, false, ◌&&◌, not, List, [], ◌∷◌, ◌++◌, map, ℕ, if◌then◌else◌}
use Rattle.std.proofs.Math.Option.{Option, none, some, get_or}
use Rattle.format.specs.Basics.{Outcome, given, ◌>>=◌, ask, every, is_empty, is_some}
use Rattle.format.specs.Sorted.{upsert, at_key}
use Rattle.format.specs.ObjectFile.{Block, Label, LineBlock, Relocation, ObjectFile, block_key, label_key, line_key}
use Rattle.format.specs.ObjectFile.{relocation_key, apart, never_fall, source_text}

-- a part of an object, or one of its elements
pub data Record : Type 0 where
  block : Block → Record
  label : Label → Record
  line_block : LineBlock → Record
  source : List ℕ → Record
  relocation : Relocation → Record

-- "order is blocks, labels, line blocks, at most one source, relocations", and each part by its key
unfoldable pub record_key : Record → List ℕ
record_key (block b) = 0 ∷ block_key b
record_key (label l) = 1 ∷ label_key l
record_key (line_block l) = 2 ∷ line_key l
record_key (source s) = 3 ∷ []
record_key (relocation r) = 4 ∷ relocation_key r

unfoldable pub source_records : Option (List ℕ) → List Record  -- "at most one source"
source_records none = []
source_records (some s) = source s ∷ []

unfoldable pub records_of : ObjectFile → List Record  -- the records of an object, in their order
records_of h =
    map block h.blocks ++ map label h.labels ++ map line_block h.line_blocks ++ source_records h.source
    ++ map relocation h.relocations

-- the object without records
unfoldable pub empty_object : ObjectFile
empty_object = record { blocks = []; labels = []; line_blocks = []; source = none; relocations = [] }

module _ (h : ObjectFile) where
  abbrev pub with_blocks : List Block → ObjectFile  -- other blocks
  with_blocks bs = record { blocks = bs; labels = h.labels; line_blocks = h.line_blocks; source = h.source; relocations = h.relocations }

  abbrev pub with_labels : List Label → ObjectFile  -- other labels
  with_labels ls = record { blocks = h.blocks; labels = ls; line_blocks = h.line_blocks; source = h.source; relocations = h.relocations }

  abbrev pub with_lines : List LineBlock → Option (List ℕ) → ObjectFile  -- other line blocks and source
  with_lines ls s = record { blocks = h.blocks; labels = h.labels; line_blocks = ls; source = s; relocations = h.relocations }

  abbrev pub with_relocations : List Relocation → ObjectFile  -- other relocations
  with_relocations rs = record { blocks = h.blocks; labels = h.labels; line_blocks = h.line_blocks; source = h.source; relocations = rs }

-- each record in the part that it belongs to, in the order in which they come
unfoldable pub placed : List Record → ObjectFile
placed [] = empty_object
placed (block b ∷ rs) = with_blocks (placed rs) (b ∷ (placed rs).blocks)
placed (label l ∷ rs) = with_labels (placed rs) (l ∷ (placed rs).labels)
placed (line_block l ∷ rs) = with_lines (placed rs) (l ∷ (placed rs).line_blocks) (placed rs).source
placed (source s ∷ rs) = with_lines (placed rs) (placed rs).line_blocks (some s)
placed (relocation r ∷ rs) = with_relocations (placed rs) (r ∷ (placed rs).relocations)

-- a record read from a file, put to the object read so far: "a later record with the same address, name or first line replaces; 03 chunks
-- append; 02 or 03 makes the source exist"
unfoldable pub put_record : ObjectFile → Record → ObjectFile
put_record h (block b) = with_blocks h (upsert block_key b h.blocks)
put_record h (label l) = with_labels h (upsert label_key l h.labels)
put_record h (line_block l) = with_lines h (upsert line_key l h.line_blocks) (some (source_text h.source))
put_record h (source s) = with_lines h h.line_blocks (some (source_text h.source ++ s))
put_record h (relocation r) = with_relocations h (upsert relocation_key r h.relocations)

-- one after the other
unfoldable pub gather_records : ObjectFile → List Record → ObjectFile
gather_records h [] = h
gather_records h (r ∷ rs) = gather_records (put_record h r) rs

-- "No label and no source: relocations are dropped."
unfoldable pub drop_stray_relocations : ObjectFile → ObjectFile
drop_stray_relocations h = if is_empty h.labels && not (is_some h.source) then with_relocations h [] else h

-- Questions after a reader's last record (binary) or group (text), each with its number, in the order asked, of the object gathered.
abbrev pub Question : Type 0
Question = ℕ × (ObjectFile → Bool)

-- "After the last record: does each line block left end at or before the next? 15"
abbrev pub binary_questions : List Question
binary_questions = (15, λ h. apart h.line_blocks) ∷ []

-- "After all groups: addresses in each kept run never fall? 31"
abbrev pub text_questions : List Question
text_questions = (31, λ h. every (λ l. never_fall l.addresses) h.line_blocks) ∷ []

unfoldable pub ask_all : List Question → ObjectFile → Outcome (Unit {0})  -- one after the other
ask_all [] h = given tt
ask_all (q ∷ qs) h = ask q.0 (q.1 h) >>= λ _. ask_all qs h

-- what a reader hands on: its questions asked, and stray relocations dropped
unfoldable pub concluded : List Question → ObjectFile → Outcome ObjectFile
concluded qs h = ask_all qs h >>= λ _. given (drop_stray_relocations h)

-- a label with the name, for the text form's tables, which set some of its fields: "a label named in only one of its two tables has 0 for
-- the other's fields"
unfoldable pub label_named : List ℕ → List Label → Label
label_named n ls = get_or (at_key label_key n ls) (record { name = n; address = 0; external = false; start = 0 })

unfoldable pub open-Records : Unit {0}
unfolding record_key source_records records_of empty_object placed put_record gather_records drop_stray_relocations ask_all concluded label_named
open-Records = tt
