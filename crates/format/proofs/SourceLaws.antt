-- The source cells of the line table, one after the other, unescape to the source. Assumes nothing.
use mathlib.Core.Path.{◌≡◌, refl, sym, ◌∙◌, ap, subst}
use mathlib.Core.Bool.{Bool, true, false}
use mathlib.Core.List.{List, [], ◌∷◌, ◌++◌, map, append_assoc, append-nil, flat_map}
use mathlib.Core.Option.{Option}
use Prim.Native.Nat.{ℕ, zero, suc, ◌+◌, ◌-◌, ◌/◌, ◌%◌, ◌≤◌, ◌<◌, min}
use native.Mathlib.Omega.{arith}
use lib.ListN.{length, take, drop, get_or, length-append}
use lib.Seq.{take-append_seam, drop_at, get_or_at}
use lib.Dec.{ltb, eqb}
use borrow.Author.Tests.{ltb-true, ltb-false, lt-ltb, le-ltb, eqb-true, eqb-false, ne_eqb}
use Rattle.std.specs.Prelude.{if◌then◌else◌}
use Rattle.format.specs.Basics.{given, All}
use Rattle.format.specs.Utf8.{encode_scalar}
use Rattle.format.specs.Source.{line_count, nl_indices_from, nl_indices, line_start, raw_line_span, span_bytes, newlines}
use Rattle.format.specs.TextWriter.{escape, escape_char, source_cell, Row}
use Rattle.format.specs.TextReader.{on_first, unescape}
use Rattle.format.proofs.ListLaws.{by_test, all_images, all_map, flat_map-map}
use Rattle.format.proofs.ListFacts.{flat_map-flat_map, flat_map_cong}
use Rattle.format.proofs.Utf8Laws.{Scalar, Text}
use Rattle.format.proofs.EscapeLaws.{Printable, unescape-flat_map, escape_of, printable_escape}
use Rattle.format.proofs.RunLaws.{rows_from}

-- the lines of a source, each with its newline
unfoldable pub pieces : List ℕ → List (List ℕ)
pieces [] = [] ∷ []
pieces (b ∷ bs) = if eqb b 10 then (b ∷ []) ∷ pieces bs else on_first b (pieces bs)

abbrev pub prepend : List ℕ → List (List ℕ) → List (List ℕ)
prepend cur [] = cur ∷ []
prepend cur (p ∷ ps) = (cur ++ p) ∷ ps

first_prepend : (x : ℕ) (xs : List ℕ) (ps : List (List ℕ)) → on_first x (prepend xs ps) ≡ prepend (x ∷ xs) ps
unfolding on_first
first_prepend x xs [] = refl
first_prepend x xs (p ∷ ps) = refl

prepend_first : (cur : List ℕ) (b : ℕ) (ps : List (List ℕ)) → prepend (cur ++ b ∷ []) ps ≡ prepend cur (on_first b ps)
unfolding on_first
prepend_first cur b [] = refl
prepend_first cur b (p ∷ ps) = ap (λ (r : List ℕ). r ∷ ps) (append_assoc cur (b ∷ []) p)

prepend_nil : (t : List ℕ) → prepend [] (pieces t) ≡ pieces t
unfolding pieces on_first
prepend_nil [] = refl
prepend_nil (b ∷ bs) = by_test (eqb b 10) (λ e. rw e) (λ e. rw e (go (pieces bs)))
  where
    go : (ps : List (List ℕ)) → prepend [] (on_first b ps) ≡ on_first b ps
    go [] = refl
    go (p ∷ ps) = refl

-- the slices between the ends
unfoldable pub slices_from : List ℕ → ℕ → List ℕ → List (List ℕ)
slices_from s at [] = []
slices_from s at (e ∷ es) = span_bytes s (record { start = at; end = min (suc e) (length s) }) ∷ slices_from s (suc e) es

abbrev cut_of : List ℕ → ℕ → ℕ → List ℕ
cut_of s at end = take (end - at) (drop at s)

slice_is :
    (s pre cur t : List ℕ) (at end n : ℕ) → s ≡ pre ++ (cur ++ t) → at ≡ length pre → n ≡ length cur → end - at ≡ n → cut_of s at end ≡ cur
slice_is s pre cur t at end n e a c m =
    ap (λ (k : ℕ). take k (drop at s)) (m ∙ c)
    ∙ ap (λ (r : List ℕ). take (length cur) r) (ap (drop at) e ∙ drop_at pre (cur ++ t) at (sym a)) ∙ take-append_seam cur t

pub slices_pieces :
    (s pre cur t : List ℕ) (at i : ℕ) → s ≡ pre ++ (cur ++ t) → at ≡ length pre → i ≡ at + length cur → slices_from s at (nl_indices_from i t) ≡ prepend cur (pieces t)
unfolding slices_from nl_indices_from pieces
slices_pieces s pre cur [] at i e a c =
    let l1 : length s ≡ length (pre ++ (cur ++ [])) = ap length e in
    let l2 = length-append pre (cur ++ []) in
    let l3 = length-append cur [] in
    let m : min (suc i) (length s) - at ≡ length cur = omega arith in
    ap (λ (r : List ℕ). r ∷ []) (slice_is s pre cur [] at (min (suc i) (length s)) (length cur) e a refl m ∙ sym (append-nil cur))
slices_pieces s pre cur (b ∷ bs) at i e a c =
    let l1 : length s ≡ length (pre ++ (cur ++ b ∷ bs)) = ap length e in
    let l2 = length-append pre (cur ++ b ∷ bs) in
    let l3 = length-append cur (b ∷ bs) in
    let l4 = length-append cur (b ∷ []) in
    let l5 = length-append pre (cur ++ b ∷ []) in
    let e' : s ≡ pre ++ ((cur ++ b ∷ []) ++ bs) = e ∙ ap (λ (r : List ℕ). pre ++ r) (sym (append_assoc cur (b ∷ []) bs)) in
    let e'' : s ≡ (pre ++ (cur ++ b ∷ [])) ++ bs = e' ∙ sym (append_assoc pre (cur ++ b ∷ []) bs) in
    let m : min (suc i) (length s) - at ≡ length (cur ++ b ∷ []) = omega arith in
    let one : span_bytes s (record { start = at; end = min (suc i) (length s) }) ≡ cur ++ b ∷ [] = slice_is s pre (cur ++ b ∷ []) bs at (min (suc i) (length s)) (length (cur ++ b ∷ [])) e' a refl m in
    let ends : slices_from s (suc i) (nl_indices_from (suc i) bs) ≡ pieces bs = slices_pieces s (pre ++ (cur ++ b ∷ [])) [] bs (suc i) (suc i) e'' (omega arith) (omega arith) ∙ prepend_nil bs in
    let goes : slices_from s at (nl_indices_from (suc i) bs) ≡ prepend cur (on_first b (pieces bs)) = slices_pieces s pre (cur ++ b ∷ []) bs at (suc i) e' a (omega arith) ∙ prepend_first cur b (pieces bs) in
    by_test (eqb b 10) (λ q. rw q (rw (one, ends))) (λ q. rw q goes)

abbrev start_of : ℕ → List ℕ → ℕ → ℕ
start_of at es zero = at
start_of at es (suc k) = suc (get_or es k 0)

start-next : (at e : ℕ) (es : List ℕ) (k : ℕ) → start_of (suc e) es k ≡ start_of at (e ∷ es) (suc k)
start-next at e es zero = refl
start-next at e es (suc k) = refl

slices_at :
    (s : List ℕ) (at : ℕ) (es : List ℕ) (k : ℕ) → k < length es
    → get_or (slices_from s at es) k [] ≡ span_bytes s (record { start = start_of at es k; end = min (suc (get_or es k 0)) (length s) })
unfolding slices_from
slices_at s at [] k h = absurd (omega arith)
slices_at s at (e ∷ es) zero h = refl
slices_at s at (e ∷ es) (suc k) h =
    slices_at s (suc e) es k (omega arith) ∙ ap (λ (x : ℕ). span_bytes s (record { start = x; end = min (suc (get_or es k 0)) (length s) })) (start-next at e es k)

ends-length : (i : ℕ) (t : List ℕ) → length (nl_indices_from i t) ≡ suc (newlines t)
unfolding nl_indices_from newlines
ends-length i [] = refl
ends-length i (b ∷ bs) = let ih = ends-length (suc i) bs in by_test (eqb b 10) (λ e. rw (e, ih)) (λ e. rw (e, ih))

ends-count : (s : List ℕ) → length (nl_indices s) ≡ line_count s
unfolding line_count nl_indices
ends-count s = ends-length 0 s

slices_length : (s : List ℕ) (at : ℕ) (es : List ℕ) → length (slices_from s at es) ≡ length es
unfolding slices_from
slices_length s at [] = refl
slices_length s at (e ∷ es) = ap suc (slices_length s (suc e) es)

all_slices : (s : List ℕ) → slices_from s 0 (nl_indices s) ≡ pieces s
unfolding nl_indices
all_slices s = slices_pieces s [] [] s 0 0 refl refl refl ∙ prepend_nil s

pub pieces_length : (s : List ℕ) → length (pieces s) ≡ line_count s
pieces_length s = ap length (sym (all_slices s)) ∙ slices_length s 0 (nl_indices s) ∙ ends-count s

start_is : (s : List ℕ) (k : ℕ) → start_of 0 (nl_indices s) k ≡ line_start s k
start_is s zero = refl
start_is s (suc k) = refl

-- a row's source cell is its line, escaped
pub source-cell : (s : List ℕ) (i : ℕ) → i < line_count s → source_cell s i ≡ escape (get_or (pieces s) i [])
unfolding source_cell raw_line_span
source-cell s i h =
    let l : i < length (nl_indices s) = omega (arith, ends-count s) in
    rw (lt-ltb i (line_count s) h)
    (ap escape
    (ap (λ (x : ℕ). span_bytes s (record { start = x; end = min (suc (get_or (nl_indices s) i 0)) (length s) })) (sym (start_is s i))
    ∙ sym (slices_at s 0 (nl_indices s) i l) ∙ ap (λ (r : List (List ℕ)). get_or r i []) (all_slices s)))

pub cell_beyond : (s : List ℕ) (i : ℕ) → line_count s ≤ i → source_cell s i ≡ []
unfolding source_cell raw_line_span
cell_beyond s i h = rw (le-ltb i (line_count s) h)

-- the column of cells
rows-flat_map :
    (f : ℕ → List ℕ) (g : List ℕ → List ℕ) (whole pre rest : List (List ℕ)) (os : List (Option ℕ)) (i : ℕ) → whole ≡ pre ++ rest → i ≡ length pre → length os ≡ length rest
    → ((k : ℕ) → k < length whole → f k ≡ g (get_or whole k [])) → flat_map (λ (r : Row). f r.number) (rows_from i os) ≡ flat_map g rest
unfolding rows_from flat_map
rows-flat_map f g whole pre [] [] i e a l h = refl
rows-flat_map f g whole pre [] (o ∷ os) i e a l h = absurd (omega arith)
rows-flat_map f g whole pre (x ∷ rest) [] i e a l h = absurd (omega arith)
rows-flat_map f g whole pre (x ∷ rest) (o ∷ os) i e a l h =
    let l1 : length whole ≡ length (pre ++ x ∷ rest) = ap length e in
    let l2 = length-append pre (x ∷ rest) in
    let l3 = length-append pre (x ∷ []) in
    let here : f i ≡ g x = h i (omega arith) ∙ ap g (ap (λ (r : List (List ℕ)). get_or r i []) e ∙ get_or_at pre x rest [] i (sym a)) in
    rw (here, rows-flat_map f g whole (pre ++ x ∷ []) rest os (suc i) (e ∙ sym (append_assoc pre (x ∷ []) rest)) (omega arith) (omega arith) h)

pub cells_flat_map : (s : List ℕ) (os : List (Option ℕ)) → length os ≡ line_count s → flat_map (λ (r : Row). source_cell s r.number) (rows_from 0 os) ≡ flat_map escape (pieces s)
cells_flat_map s os l =
    let p = pieces_length s in
    rows-flat_map (source_cell s) escape (pieces s) [] (pieces s) os 0 refl refl (l ∙ sym p) (λ k h. source-cell s k (omega arith))

-- lines of scalar values
pieces_plain : (xs t : List ℕ) → All (λ b. b ≡ 10 → ⊥) xs → pieces (xs ++ t) ≡ prepend xs (pieces t)
unfolding pieces
pieces_plain [] t h = sym (prepend_nil t)
pieces_plain (x ∷ xs) t h = rw (ne_eqb x 10 h.0, pieces_plain xs t h.1) (first_prepend x xs (pieces t))

encode_not_newline : (c : ℕ) → (c ≡ 10 → ⊥) → All (λ b. b ≡ 10 → ⊥) (encode_scalar c)
unfolding encode_scalar
encode_not_newline c h = go (ltb c 0x80) (ltb c 0x800) (ltb c 0x10000)
  where
    go : (t u v : Bool) → All (λ b. b ≡ 10 → ⊥) (if t then c ∷ [] else if u then (0xC0 + c / 64) ∷ (0x80 + c % 64) ∷ [] else if v then (0xE0 + c / 4096) ∷ (0x80 + c / 64 % 64) ∷ (0x80 + c % 64) ∷ [] else (0xF0 + c / 262144) ∷ (0x80 + c / 4096 % 64) ∷ (0x80 + c / 64 % 64) ∷ (0x80 + c % 64) ∷ [])
    go true u v = (h, tt)
    go false true v = (λ e. omega arith, (λ e. omega arith, tt))
    go false false true = (λ e. omega arith, (λ e. omega arith, (λ e. omega arith, tt)))
    go false false false = (λ e. omega arith, (λ e. omega arith, (λ e. omega arith, (λ e. omega arith, tt))))

first_encode : (c : ℕ) (ps : List (List ℕ)) → map (flat_map encode_scalar) (on_first c ps) ≡ prepend (encode_scalar c) (map (flat_map encode_scalar) ps)
unfolding on_first flat_map
first_encode c [] = ap (λ (r : List ℕ). r ∷ []) (append-nil (encode_scalar c))
first_encode c (p ∷ ps) = refl

newline_encode : (c : ℕ) (t : List ℕ) → c ≡ 10 → encode_scalar c ++ t ≡ 10 ∷ t
unfolding encode_scalar
newline_encode c t e = rw e

pub pieces_encode : (cs : List ℕ) → pieces (flat_map encode_scalar cs) ≡ map (flat_map encode_scalar) (pieces cs)
unfolding pieces flat_map
pieces_encode [] = refl
pieces_encode (c ∷ cs) =
    let ih = pieces_encode cs in
    by_test (eqb c 10)
    (λ e. rw (e, newline_encode c (flat_map encode_scalar cs) (eqb-true c 10 e), newline_encode c [] (eqb-true c 10 e), ih))
    (λ e. rw e (pieces_plain (encode_scalar c) (flat_map encode_scalar cs) (encode_not_newline c (eqb-false c 10 e)) ∙ ap (prepend (encode_scalar c)) ih ∙ sym (first_encode c (pieces cs))))

first-flat_map : (b : ℕ) (ps : List (List ℕ)) → flat_map (λ (x : List ℕ). x) (on_first b ps) ≡ b ∷ flat_map (λ (x : List ℕ). x) ps
unfolding on_first flat_map
first-flat_map b [] = refl
first-flat_map b (p ∷ ps) = refl

pieces_flat_map : (cs : List ℕ) → flat_map (λ (x : List ℕ). x) (pieces cs) ≡ cs
unfolding pieces flat_map
pieces_flat_map [] = refl
pieces_flat_map (c ∷ cs) = let ih = pieces_flat_map cs in by_test (eqb c 10) (λ e. rw (e, ih)) (λ e. rw e (first-flat_map c (pieces cs) ∙ ap (λ (r : List ℕ). c ∷ r) ih))

pieces_all : (P : ℕ → Type 0) (cs : List ℕ) → All P cs → All (All P) (pieces cs)
unfolding pieces
pieces_all P [] h = (tt, tt)
pieces_all P (c ∷ cs) h = go (eqb c 10) (pieces cs) (pieces_all P cs h.1)
  where
    go : (t : Bool) (ps : List (List ℕ)) → All (All P) ps → All (All P) (if t then (c ∷ []) ∷ ps else on_first c ps)
    go true ps k = ((h.0, tt), k)
    go false [] k = unfold on_first in ((h.0, tt), tt)
    go false (p ∷ ps) k = unfold on_first in ((h.0, k.0), k.1)

escape_pieces : (cs : List ℕ) → All Scalar cs → flat_map escape (pieces (flat_map encode_scalar cs)) ≡ flat_map escape_char cs
escape_pieces cs h =
    ap (flat_map escape) (pieces_encode cs) ∙ flat_map-map escape (flat_map encode_scalar) (pieces cs)
    ∙ flat_map_cong (λ x. escape (flat_map encode_scalar x)) (λ x. flat_map escape_char x) (pieces cs) (all_map escape_of (pieces cs) (pieces_all Scalar cs h))
    ∙ sym (flat_map-flat_map escape_char (λ (x : List ℕ). x) (pieces cs)) ∙ ap (flat_map escape_char) (pieces_flat_map cs)

pub source_unescapes : (s : List ℕ) → Text s → unescape (flat_map escape (pieces s)) ≡ given s
source_unescapes s x =
    ap (λ (r : List ℕ). unescape (flat_map escape (pieces r))) (sym x.2) ∙ ap unescape (escape_pieces x.0 x.1) ∙ unescape-flat_map x.0 x.1 ∙ ap (λ (r : List ℕ). given r) x.2

pieces_text : (s : List ℕ) → Text s → All Text (pieces s)
pieces_text s x =
    subst (λ (r : List ℕ). All Text (pieces r)) x.2
    (subst (λ (r : List (List ℕ)). All Text r) (sym (pieces_encode x.0))
    (all_images Text (flat_map encode_scalar) (pieces x.0) (all_map (λ ds h. (ds, h, refl)) (pieces x.0) (pieces_all Scalar x.0 x.1))))

all_get_d : {A : Type 0} (P : A → Type 0) (d : A) (xs : List A) (i : ℕ) → All P xs → P d → P (get_or xs i d)
all_get_d P d [] zero h k = k
all_get_d P d [] (suc i) h k = k
all_get_d P d (x ∷ xs) zero h k = h.0
all_get_d P d (x ∷ xs) (suc i) h k = all_get_d P d xs i h.1 k

pub cell_printable : (s : List ℕ) (i : ℕ) → Text s → All Printable (source_cell s i)
cell_printable s i x = go (ltb i (line_count s)) refl
  where
    nothing-text : Text []
    nothing-text = ([], tt, unfold flat_map in refl)

    go : (t : Bool) → ltb i (line_count s) ≡ t → All Printable (source_cell s i)
    go true e = subst (λ (r : List ℕ). All Printable r) (sym (source-cell s i (ltb-true i (line_count s) e))) (printable_escape (get_or (pieces s) i []) (all_get_d Text [] (pieces s) i (pieces_text s x) nothing-text))
    go false e = subst (λ (r : List ℕ). All Printable r) (sym (cell_beyond s i (ltb-false i (line_count s) e))) tt
