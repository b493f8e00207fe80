-- The five parts of a text file's object: where they are empty, and the room that they leave. Assumes nothing.
use mathlib.Core.Path.{◌≡◌, refl, sym, ap, ◌∙◌}
use mathlib.Core.Bool.{Bool, true, false, ◌&&◌, ◌||◌, not}
use mathlib.Core.List.{List, [], ◌∷◌, ◌++◌, map, flat_map, append_assoc, append-nil}
use mathlib.Core.Option.{Option, none, some}
use Prim.Native.Nat.{ℕ, suc, ◌+◌, ◌-◌, ◌/◌, ◌≤◌, ◌<◌}
use native.Mathlib.Omega.{arith}
use lib.ListN.{length, length-append}
use lib.Dec.{eqb, leb}
use borrow.Author.Tests.{ne_eqb, leb-true, leb-false}
use Rattle.format.specs.Basics.{is_empty, and_then}
use Rattle.format.specs.ObjectFile.{Label}
use Rattle.format.specs.Records.{label, source_records}
use Rattle.format.specs.Words.{text_words, record_words}
use Rattle.format.proofs.ListLaws.{flat_map-append, by_test}
use Rattle.writing.specs.Written.{Put}
use Rattle.writing.proofs.Parts.{State, Emits, rest, after, emit}
use Rattle.format.proofs.Counts.{text-length}
use Rattle.text_runs.proofs.RunLaws.{room_for_lem}
use Rattle.text_tables.specs.Debug.{line_view}
use Rattle.text_debug.specs.DebugGroup.{line_blocks_in}
use Rattle.text_scan.specs.Walk.{line_blocks_of, source_of}
use Rattle.text_labels.specs.Labels.{labels_of}
use Rattle.text_words.specs.Written.{put_each, PutEach}
use Rattle.text_words.specs.Room.{room_for, room_after}
use Rattle.text_words.proofs.RoomLaws.{room_is, room_lacks}
use Rattle.text_words.proofs.PutLaws.{put-fits}
use Rattle.text_runs.specs.Runs.{block_words}
use Rattle.known_labels.specs.Known.{label_parts}
use Rattle.text_debug.specs.declared.Lines.{Lines}
use Rattle.text_read.specs.SourceText.{source_at, Counted}
use Rattle.text_read.specs.Parts.{joined, row_parts, line_parts, source_parts, relocation_parts, keeps_relocations, object_parts}
use Rattle.text_read.specs.Parts.{front_parts, back_parts, debug_words, fixed_words, rest_words, others_room}

module _ (sourced : Bool) (t : List ℕ) (rows : ℕ) where
  pub lines_none : sourced ≡ false → line_parts sourced t rows ≡ []
  unfolding line_blocks_of
  lines_none e = simp e

  pub lines_some : sourced ≡ true → block_words (line_blocks_in (line_view t rows).0) ≡ line_parts sourced t rows
  unfolding line_blocks_of
  lines_some e = simp e

  pub source-none : sourced ≡ false → source_parts sourced t rows ≡ []
  unfolding source_of source_records
  source-none e = simp e

  pub source_some : sourced ≡ true → source_parts sourced t rows ≡ (0x8000_0000 ∷ text_words (source_at t rows)) ∷ []
  unfolding source_of source_records record_words
  source_some e = simp e

  pub source-whole : sourced ≡ true → joined (source_parts sourced t rows) ≡ (0x8000_0000 ∷ []) ++ (text_words (source_at t rows) ++ [])
  unfolding flat_map
  source-whole e = ap joined (source_some e)

pub relocations-none : (kept : Bool) (u : List ℕ) → kept ≡ false → relocation_parts kept u ≡ []
unfolding relocation_parts
relocations-none kept u e = simp e

pub relocations_some : (kept : Bool) (u : List ℕ) → kept ≡ true → row_parts 2 u ≡ relocation_parts kept u
unfolding relocation_parts
relocations_some kept u e = simp e

-- parts that are none, and others that are the same
module _ (ps : List (List ℕ)) (room : List ℕ) (e : ps ≡ []) where
  pub none_each : PutEach ps room 0 room
  unfolding put_each
  none_each = sym (ap (λ (x : List (List ℕ)). put_each x 0 room) e)

  pub none-put : Put (joined ps) room 0 room
  unfolding flat_map
  none-put =
      put-fits ps room 0 room (let z : length (joined ps) ≡ 0 = ap (λ (x : List (List ℕ)). length (joined x)) e in omega arith) none_each

pub same-each : (ps qs : List (List ℕ)) (room : List ℕ) (r : ℕ) (after : List ℕ) → PutEach ps room r after → ps ≡ qs
    → PutEach qs room r after
same-each ps qs room r after w e = w ∙ ap (λ (x : List (List ℕ)). put_each x 0 room) e

-- parts at the front of what is left
pub emit_each : {whole room left : List ℕ} {s : State ℕ} (f : Emits whole room left s) (ps : List (List ℕ)) (left' : List ℕ) {ys : List ℕ} {r : ℕ}
    → left ≡ joined ps ++ left' → PutEach ps (rest s) r ys → Emits whole room left' (after s r ys)
emit_each {s = s} f ps left' {ys = ys} {r = r} e w = emit f (joined ps) left' e (put-fits ps (rest s) r ys (room_for_lem f (joined ps) left' e) w)

-- HOW MANY WORDS line blocks and source have
pub debug_is : (sourced : Bool) (t : List ℕ) (rows : ℕ) (lines : Lines) → (sourced ≡ true → Counted t rows lines)
    → debug_words sourced lines ≡ length (joined (line_parts sourced t rows)) + length (joined (source_parts sourced t rows))
unfolding debug_words flat_map
debug_is true t rows lines q =
    let c = q refl in
    let m : ℕ = length (source_at t rows) in
    let size : length (joined (source_parts true t rows)) ≡ suc ((m + 2) / 3) =
    ap (λ (ps : List (List ℕ)). length (joined ps)) (source_some true t rows refl) ∙ ap (λ (k : List ℕ). length (0x8000_0000 ∷ k)) (append-nil (text_words (source_at t rows)))
    ∙ ap suc (text-length (source_at t rows)) in
    let same : lines.words ≡ length (joined (line_parts true t rows)) =
    c.2 ∙ ap (λ (ps : List (List ℕ)). length (joined ps)) (lines_some true t rows refl) in
    omega (arith, size, same, c.0)
debug_is false t rows lines q =
    let a : length (joined (line_parts false t rows)) ≡ 0 = ap (λ (ps : List (List ℕ)). length (joined ps)) (lines_none false t rows refl) in
    let b : length (joined (source_parts false t rows)) ≡ 0 = ap (λ (ps : List (List ℕ)). length (joined ps)) (source-none false t rows refl) in
    omega (arith, a, b)

pub debug_none : (sourced : Bool) (lines : Lines) (words : ℕ) → sourced ≡ false → words ≡ words + debug_words sourced lines
unfolding debug_words
debug_none sourced lines words e = rw e (omega arith)

pub debug_some : (sourced : Bool) (lines : Lines) → sourced ≡ true → lines.words + (1 + (lines.len + 2) / 3) ≡ debug_words sourced lines
unfolding debug_words
debug_some sourced lines e = rw e refl

-- THE ROOM after n words and parts
module _ (n : ℕ) (ps : List (List ℕ)) (room : ℕ) where
  pub others-short : none ≡ room_for n room → none ≡ others_room n ps room
  unfolding others_room
  others-short o = ap (λ (x : Option ℕ). and_then x λ left. room_after ps left) o

  pub others-on : (left : ℕ) → some left ≡ room_for n room → (o : Option ℕ) → o ≡ room_after ps left → o ≡ others_room n ps room
  unfolding others_room
  others-on left e o w = w ∙ ap (λ (x : Option ℕ). and_then x λ left. room_after ps left) e

  pub others_lack : none ≡ others_room n ps room → room < n + length (joined ps)
  unfolding others_room room_for
  others_lack o =
      by_test (leb n room)
      (λ e. let k : none ≡ room_after ps (room - n) = rw e at o in omega (arith, room_lacks ps (room - n) k, leb-true n room e))
      (λ e. omega (arith, leb-false n room e))

  pub others-left : (m : ℕ) → some m ≡ others_room n ps room → n + length (joined ps) + m ≡ room
  unfolding others_room room_for
  others-left m o =
      by_test (leb n room)
      (λ e. let k : some m ≡ room_after ps (room - n) = rw e at o in omega (arith, room_is ps (room - n) m k, leb-true n room e))
      (λ e. let k : some m ≡ none = rw e at o in let z : ◌≡◌ {A = ℕ} 0 1 = cc in absurd (let w : ⊥ = omega arith in w))

-- RELOCATIONS are kept where there are words of labels, or a source
labels-words : (ls : List Label) → is_empty ls ≡ eqb (length (joined (map record_words (map label ls)))) 0
unfolding is_empty flat_map record_words
labels-words [] = refl
labels-words (l ∷ ls) = sym (ne_eqb (length (joined (map record_words (map label (l ∷ ls))))) 0 (λ z. omega (arith, z)))

pub keeps_is : (sourced : Bool) (u : List ℕ) (n : ℕ) → n ≡ length (joined (label_parts u))
    → (sourced || not (eqb n 0)) ≡ keeps_relocations sourced u
unfolding keeps_relocations
keeps_is true u n e = sym (ap not (and-false (is_empty (labels_of u))))
  where
    and-false : (b : Bool) → (b && false) ≡ false
    and-false true = refl
    and-false false = refl
keeps_is false u n e =
    ap (λ (k : ℕ). not (eqb k 0)) e ∙ ap not (sym (labels-words (labels_of u))) ∙ ap not (sym (and_true (is_empty (labels_of u))))
  where
    and_true : (b : Bool) → (b && true) ≡ b
    and_true true = refl
    and_true false = refl

-- THE FIVE PARTS
module _ (u t : List ℕ) (sourced : Bool) (rows : ℕ) where
  abbrev pub from4 : List (List ℕ)
  from4 = relocation_parts (keeps_relocations sourced u) u

  abbrev pub from3 : List (List ℕ)
  from3 = source_parts sourced t rows ++ from4

  abbrev pub from2 : List (List ℕ)
  from2 = line_parts sourced t rows ++ from3

  abbrev pub from1 : List (List ℕ)
  from1 = label_parts u ++ from2

  pub object-parts : object_parts u t sourced rows ≡ row_parts 0 u ++ from1
  unfolding object_parts
  object-parts = refl

  -- the words of the parts that are left
  pub joined-parts : joined (object_parts u t sourced rows) ≡ joined (row_parts 0 u) ++ joined from1
  joined-parts = ap joined object-parts ∙ flat_map-append (λ (p : List ℕ). p) (row_parts 0 u) from1

  pub joined1 : joined from1 ≡ joined (label_parts u) ++ joined from2
  joined1 = flat_map-append (λ (p : List ℕ). p) (label_parts u) from2

  pub joined2 : joined from2 ≡ joined (line_parts sourced t rows) ++ joined from3
  joined2 = flat_map-append (λ (p : List ℕ). p) (line_parts sourced t rows) from3

  pub joined3 : joined from3 ≡ joined (source_parts sourced t rows) ++ joined from4
  joined3 = flat_map-append (λ (p : List ℕ). p) (source_parts sourced t rows) from4

  -- the first two and the last three
  pub joined_front : joined (object_parts u t sourced rows) ≡ joined (front_parts u) ++ joined (back_parts u t sourced rows (keeps_relocations sourced u))
  joined_front =
      ap joined (object-parts ∙ sym (append_assoc (row_parts 0 u) (label_parts u) from2))
      ∙ flat_map-append (λ (p : List ℕ). p) (front_parts u) from2

  pub joined-kept : (kept : Bool) → kept ≡ keeps_relocations sourced u
      → joined (object_parts u t sourced rows) ≡ joined (front_parts u) ++ joined (back_parts u t sourced rows kept)
  joined-kept kept e = joined_front ∙ ap (λ (b : Bool). joined (front_parts u) ++ joined (back_parts u t sourced rows b)) (sym e)

  -- how many words they have
  pub total_words : length (joined (object_parts u t sourced rows)) ≡ fixed_words u t sourced rows + rest_words u sourced
  total_words =
      omega (
        arith,
        ap length joined-parts,
        length-append (joined (row_parts 0 u)) (joined from1),
        ap length joined1,
        length-append (joined (label_parts u)) (joined from2),
        ap length joined2,
        length-append (joined (line_parts sourced t rows)) (joined from3),
        ap length joined3,
        length-append (joined (source_parts sourced t rows)) (joined from4),
      )

module _ (u t : List ℕ) (sourced : Bool) (rows : ℕ) (kept : Bool) where
  pub joined_back : joined (back_parts u t sourced rows kept)
      ≡ joined (line_parts sourced t rows) ++ joined (source_parts sourced t rows ++ relocation_parts kept u)
  joined_back = flat_map-append (λ (p : List ℕ). p) (line_parts sourced t rows) (source_parts sourced t rows ++ relocation_parts kept u)

  pub joined-last : joined (source_parts sourced t rows ++ relocation_parts kept u) ≡ joined (source_parts sourced t rows) ++ joined (relocation_parts kept u)
  joined-last = flat_map-append (λ (p : List ℕ). p) (source_parts sourced t rows) (relocation_parts kept u)

-- THE ROOM after the labels, and after all
pub labels_lack : (u : List ℕ) (sourced : Bool) (fixed room : ℕ) → none ≡ room_after (label_parts u) room → room < fixed + rest_words u sourced
labels_lack u sourced fixed room o = omega (arith, room_lacks (label_parts u) room o)

module _ (u : List ℕ) (room left : ℕ) (p : some left ≡ room_after (label_parts u) room) where
  pub labels_below : left ≤ room
  labels_below = omega (arith, room_is (label_parts u) room left p)

  module _ (sourced kept : Bool) (k : kept ≡ (sourced || not (eqb (room - left) 0))) where
    pub kept_is : kept ≡ keeps_relocations sourced u
    kept_is = k ∙ keeps_is sourced u (room - left) (omega (arith, room_is (label_parts u) room left p))

    same_rest : (o : Option ℕ) (fixed : ℕ) → o ≡ others_room fixed (relocation_parts kept u) left → o ≡ others_room fixed (relocation_parts (keeps_relocations sourced u) u) left
    same_rest o fixed w = w ∙ ap (λ (b : Bool). others_room fixed (relocation_parts b u) left) kept_is

    pub all_lack : (fixed : ℕ) → none ≡ others_room fixed (relocation_parts kept u) left → room < fixed + rest_words u sourced
    all_lack fixed o =
        omega (arith, room_is (label_parts u) room left p, others_lack fixed (relocation_parts (keeps_relocations sourced u) u) left (same_rest none fixed o))

    pub all_left : (fixed m : ℕ) → some m ≡ others_room fixed (relocation_parts kept u) left → fixed + rest_words u sourced + m ≡ room
    all_left fixed m o =
        omega (arith, room_is (label_parts u) room left p, others-left fixed (relocation_parts (keeps_relocations sourced u) u) left m (same_rest (some m) fixed o))
