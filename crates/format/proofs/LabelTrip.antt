-- The label tables give the labels back, and the linker table the relocations. Assumes nothing.
use mathlib.Core.Path.{◌≡◌, refl, sym, ◌∙◌, ap, subst}
use mathlib.Core.Bool.{Bool, true, false}
use mathlib.Core.List.{List, [], ◌∷◌, ◌++◌, map, flat_map}
use mathlib.Core.Option.{Option, none, some, or_else}
use Prim.Native.Nat.{ℕ, ◌-◌, ◌^◌, ◌<◌, Ordering}
use native.Mathlib.Omega.{arith}
use lib.ListN.{length}
use lib.Dec.{compare_is_eq}
use Rattle.std.specs.Prelude.{if◌then◌else◌}
use Rattle.format.specs.Basics.{given, ascii, begins_with, eqs, is_empty, All}
use Rattle.format.specs.Tokens.{fold_outcome}
use Rattle.format.specs.Sorted.{order, upsert, at_key, upsert_all}
use Rattle.format.proofs.SortedLaws.{order_self, order_eq, at_key-upsert, Rises, ext_at_key}
use Rattle.format.proofs.GatherLaws.{Distinct, rises_distinct, rises-upsert_all, at_key-upsert_all, reordered_at_key}
use Rattle.format.specs.Utf8.{trim, characters, open-Utf8}
use Rattle.format.specs.ObjectFile.{Label, Relocation, ObjectFile, label_key, relocation_key}
use Rattle.format.specs.Records.{label, put_record, with_labels, with_relocations, label_named}
use Rattle.format.specs.TextWriter.{symbol_header, linker_header, label_header, label_width, index_width, by_address, by_start, text_line, spaces, to_left, widest, symbol_table, linker_table, label_table as indexText, linker_row, hex4, label_row, symbol_row}
use Rattle.format.specs.TextReader.{split_once, splitn, same_cells, rows_under, parse_symbol_row, parse_symbol_group, parse_linker_row, parse_linker_group, parse_label_row, parse_label_table}
use Rattle.format.specs.Calls.{Reordered}
use Rattle.format.proofs.ListLaws.{or-none, all_map, flat_map-map, all_reordered}
use Rattle.format.proofs.ListFacts.{eqs_self}
use Rattle.format.proofs.TrimLaws.{Visible, visible_solid, trim_right}
use Rattle.format.proofs.CellLaws.{Undivided, cells_1, undivided_append, undivided_spaces}
use Rattle.format.proofs.RowLaws.{GoodName, symbol-row, linker-row, index_row}
use Rattle.format.proofs.OrderLaws.{distinct_at_key}

pub rows_under_lem :
    (n : ℕ) (columns : List (List ℕ)) (l : List ℕ) (ls : List (List ℕ)) → same_cells (map trim (splitn (length columns - 1) l)) columns ≡ true → rows_under n columns (l ∷ ls) ≡ given ls
unfolding rows_under
rows_under_lem n columns l ls h = rw h

pub same_self : (xs : List (List ℕ)) → same_cells xs xs ≡ true
unfolding same_cells
same_self [] = refl
same_self (x ∷ xs) = rw (eqs_self x, same_self xs)

-- insertions under other keys
module _ {A : Type 0} (key : A → List ℕ) where
  pub others : (a : A) (xs : List A) → at_key key (key a) xs ≡ none → All (λ x. compare_is_eq (order (key x) (key a)) ≡ false) xs
  unfolding at_key
  others a [] h = tt
  others a (x ∷ xs) h = go (order (key a) (key x)) refl h (others a xs)
    where
      flip : compare_is_eq (order (key a) (key x)) ≡ false → (o : Ordering) → order (key x) (key a) ≡ o → compare_is_eq o ≡ false
      flip n Ordering.lt e = refl
      flip n Ordering.gt e = refl
      flip n Ordering.eq e =
          let q : key x ≡ key a = order_eq (key x) (key a) e in
          let y : order (key a) (key x) ≡ Ordering.eq = subst (λ (k : List ℕ). order (key a) k ≡ Ordering.eq) (sym q) (order_self (key a)) in
          let z : ◌≡◌ {A = Bool} true false = sym (ap compare_is_eq y) ∙ n in z

      go : (o : Ordering) → order (key a) (key x) ≡ o → (if compare_is_eq o then some x else at_key key (key a) xs) ≡ none → (at_key key (key a) xs ≡ none → All (λ y. compare_is_eq (order (key y) (key a)) ≡ false) xs)
          → All (λ y. compare_is_eq (order (key y) (key a)) ≡ false) (x ∷ xs)
      go Ordering.eq e n ih = let w : ◌≡◌ {A = ℕ} 0 1 = cc in absurd (omega arith)
      go Ordering.lt e n ih = (flip (ap compare_is_eq e) (order (key x) (key a)) refl, ih n)
      go Ordering.gt e n ih = (flip (ap compare_is_eq e) (order (key x) (key a)) refl, ih n)

  pub found_insert :
      (v : A → Option A) (a : A) (xs acc : List A) → All (λ x. compare_is_eq (order (key x) (key a)) ≡ false) xs → All (λ x. at_key key (key x) acc ≡ v x) xs
      → All (λ x. at_key key (key x) (upsert key a acc) ≡ v x) xs
  found_insert v a [] acc d h = tt
  found_insert v a (x ∷ xs) acc d h = (at_key-upsert key (key x) a acc ∙ rw (d.0, h.0), found_insert v a xs acc d.1 h.1)

-- a label as the first table gives it
abbrev pub unplaced : Label → Label
unplaced m = record { name = m.name; address = m.address; external = m.external; start = 0 }

-- what the text form asks of a label: numbers that fit, and a name that a cell holds
abbrev pub TextLabel : Label → Type 0
TextLabel m = (m.address < 2 ^ 16) × (m.start < 2 ^ 64) × GoodName m.name

symbol-new : (h : ObjectFile) (m : Label) → TextLabel m → at_key label_key m.name h.labels ≡ none → parse_symbol_row h (symbol_row m) ≡ given (put_record h (label (unplaced m)))
unfolding label_named
symbol-new h m i f = symbol-row h m i.0 i.2 ∙ rw f

pub symbols_through :
    (h : ObjectFile) (ms : List Label) → Distinct label_key ms → All TextLabel ms → All (λ m. at_key label_key m.name h.labels ≡ none) ms
    → fold_outcome parse_symbol_row h (map symbol_row ms) ≡ given (with_labels h (upsert_all label_key (map unplaced ms) h.labels))
unfolding fold_outcome upsert_all put_record
symbols_through h [] d i f = refl
symbols_through h (m ∷ ms) d i f =
    rw (symbol-new h m i.0 f.0)
    (symbols_through (with_labels h (upsert label_key (unplaced m) h.labels)) ms d.1 i.1 (found_insert label_key (λ x. none) (unplaced m) ms h.labels (others label_key m ms d.0) f.1))

index_known : (names indices : ℕ) (h : ObjectFile) (m : Label) → TextLabel m → at_key label_key m.name h.labels ≡ some (unplaced m) → parse_label_row h (label_row names indices m) ≡ given (put_record h (label m))
unfolding label_named
index_known names indices h m i f = index_row names indices h m i.1 i.2 ∙ rw f

pub indices_through :
    (names indices : ℕ) (h : ObjectFile) (ms : List Label) → Distinct label_key ms → All TextLabel ms → All (λ m. at_key label_key m.name h.labels ≡ some (unplaced m)) ms
    → fold_outcome parse_label_row h (map (label_row names indices) ms) ≡ given (with_labels h (upsert_all label_key ms h.labels))
unfolding fold_outcome upsert_all put_record
indices_through names indices h [] d i f = refl
indices_through names indices h (m ∷ ms) d i f =
    rw (index_known names indices h m i.0 f.0)
    (indices_through names indices (with_labels h (upsert label_key m h.labels)) ms d.1 i.1 (found_insert label_key (λ x. some (unplaced x)) m ms h.labels (others label_key m ms d.0) f.1))

-- what the first table leaves, and the second makes whole
abbrev first : Option Label → Option Label
first none = none
first (some m) = some (unplaced m)

find_unplaced : (k : List ℕ) (ms : List Label) → at_key label_key k (map unplaced ms) ≡ first (at_key label_key k ms)
unfolding at_key
find_unplaced k [] = refl
find_unplaced k (m ∷ ms) = rw (find_unplaced k ms) (pick (compare_is_eq (order k m.name)))
  where
    pick : (t : Bool) → (if t then some (unplaced m) else first (at_key label_key k ms)) ≡ first (if t then some m else at_key label_key k ms)
    pick true = refl
    pick false = refl

distinct_unplaced : (ms : List Label) → Distinct label_key ms → Distinct label_key (map unplaced ms)
distinct_unplaced [] d = tt
distinct_unplaced (m ∷ ms) d = (find_unplaced m.name ms ∙ rw d.0, distinct_unplaced ms d.1)

module _ (ls ms ns : List Label) (r : Rises label_key ls) (p : Reordered ls ms) (q : Reordered ls ns) where
  abbrev placing : List Label
  placing = upsert_all label_key (map unplaced ms) []

  find_placing : (k : List ℕ) → at_key label_key k placing ≡ first (at_key label_key k ls)
  unfolding at_key
  find_placing k =
      let u = reordered_at_key label_key p (rises_distinct label_key ls r) in
      at_key-upsert_all label_key k (map unplaced ms) [] (distinct_unplaced ms u.1) ∙ or-none (at_key label_key k (map unplaced ms)) ∙ find_unplaced k ms ∙ ap first (sym (u.0 k))

  pub placing_known : All (λ m. at_key label_key m.name placing ≡ some (unplaced m)) ns
  placing_known =
      all_reordered (λ m. at_key label_key m.name placing ≡ some (unplaced m)) q
      (all_map (λ m e. find_placing m.name ∙ ap first e) ls (distinct_at_key label_key ls (rises_distinct label_key ls r)))

  pub labels-back : upsert_all label_key ns placing ≡ ls
  unfolding or_else
  labels-back =
      let v = reordered_at_key label_key q (rises_distinct label_key ls r) in
      ext_at_key label_key (upsert_all label_key ns placing) ls (rises-upsert_all label_key ns placing (rises-upsert_all label_key (map unplaced ms) [] tt)) r
      (λ k. at_key-upsert_all label_key k ns placing v.1 ∙ rw (sym (v.0 k), find_placing k) (pick (at_key label_key k ls)))
    where
      pick : (o : Option Label) → or_else o (first o) ≡ o
      pick none = refl
      pick (some m) = refl

abbrev pub symbol_lines : List Label → List (List ℕ)
symbol_lines [] = []
symbol_lines (l ∷ ls) = symbol_header ∷ map symbol_row (by_address (l ∷ ls))

pub symbol-lines : (ls : List Label) → symbol_table ls ≡ flat_map text_line (symbol_lines ls)
unfolding symbol_table flat_map
symbol-lines [] = refl
symbol-lines (l ∷ ls) = ap (λ (r : List ℕ). text_line symbol_header ++ r) (sym (flat_map-map text_line symbol_row (by_address (l ∷ ls))))

symbol-header : same_cells (map trim (splitn 2 symbol_header)) (ascii "ADDR" ∷ ascii "EXT" ∷ ascii "LABEL" ∷ []) ≡ true
unfolding open-Utf8 is_empty ascii begins_with split_once splitn same_cells eqs
symbol-header = refl

pub symbols_back :
    (h : ObjectFile) (ls : List Label) → Distinct label_key (by_address ls) → All TextLabel (by_address ls) → All (λ m. at_key label_key m.name h.labels ≡ none) (by_address ls)
    → parse_symbol_group h (symbol_lines ls) ≡ given (with_labels h (upsert_all label_key (map unplaced (by_address ls)) h.labels))
unfolding parse_symbol_group
symbols_back h [] d i f = unfold rows_under fold_outcome upsert_all in refl
symbols_back h (l ∷ ls) d i f =
    rw (rows_under_lem 26 (ascii "ADDR" ∷ ascii "EXT" ∷ ascii "LABEL" ∷ []) symbol_header (map symbol_row (by_address (l ∷ ls))) symbol-header)
    (symbols_through h (by_address (l ∷ ls)) d i f)

-- the padded header of the second table
pub left-cell : (w : ℕ) (t : List ℕ) → All Visible t → (trim (to_left w t) ≡ t) × Undivided (to_left w t)
left-cell w t v =
    let s = visible_solid t v in
    let k : ℕ = w - characters t in
    (trim_right k t s, undivided_append t (spaces k) s (undivided_spaces k))

pub LABEL_visible : All Visible (ascii "LABEL")
unfolding ascii
LABEL_visible = ((omega arith, omega arith), ((omega arith, omega arith), ((omega arith, omega arith), ((omega arith, omega arith), ((omega arith, omega arith), tt)))))

pub INDEX_visible : All Visible (ascii "INDEX")
unfolding ascii
INDEX_visible = ((omega arith, omega arith), ((omega arith, omega arith), ((omega arith, omega arith), ((omega arith, omega arith), ((omega arith, omega arith), tt)))))

index_header : (names indices : ℕ) → same_cells (map trim (splitn 1 (label_header names indices))) (ascii "LABEL" ∷ ascii "INDEX" ∷ []) ≡ true
index_header names indices =
    let a = left-cell names (ascii "LABEL") LABEL_visible in
    let b = left-cell indices (ascii "INDEX") INDEX_visible in
    rw (cells_1 (to_left names (ascii "LABEL")) (to_left indices (ascii "INDEX")) a.1, a.0, b.0) (same_self (ascii "LABEL" ∷ ascii "INDEX" ∷ []))

abbrev pub index_lines : List Label → List (List ℕ)
index_lines [] = []
index_lines (l ∷ ls) = label_header (label_width (l ∷ ls)) (index_width (l ∷ ls)) ∷ map (label_row (label_width (l ∷ ls)) (index_width (l ∷ ls))) (by_start (l ∷ ls))

pub index_lines_lem : (ls : List Label) → indexText ls ≡ flat_map text_line (index_lines ls)
unfolding indexText flat_map widest
index_lines_lem [] = refl
index_lines_lem (l ∷ ls) =
    ap (λ (r : List ℕ). text_line (label_header (label_width (l ∷ ls)) (index_width (l ∷ ls))) ++ r) (sym (flat_map-map text_line (label_row (label_width (l ∷ ls)) (index_width (l ∷ ls))) (by_start (l ∷ ls))))

pub indices_back :
    (h : ObjectFile) (ls : List Label) → Distinct label_key (by_start ls) → All TextLabel (by_start ls) → All (λ m. at_key label_key m.name h.labels ≡ some (unplaced m)) (by_start ls)
    → parse_label_table h (index_lines ls) ≡ given (with_labels h (upsert_all label_key (by_start ls) h.labels))
unfolding parse_label_table
indices_back h [] d i f = unfold rows_under fold_outcome upsert_all in refl
indices_back h (l ∷ ls) d i f =
    rw (rows_under_lem 26 (ascii "LABEL" ∷ ascii "INDEX" ∷ []) (label_header (label_width (l ∷ ls)) (index_width (l ∷ ls))) (map (label_row (label_width (l ∷ ls)) (index_width (l ∷ ls))) (by_start (l ∷ ls))) (index_header (label_width (l ∷ ls)) (index_width (l ∷ ls))))
    (indices_through (label_width (l ∷ ls)) (index_width (l ∷ ls)) h (by_start (l ∷ ls)) d i f)

-- relocations
abbrev pub TextRelocation : Relocation → Type 0
TextRelocation q = (q.address < 2 ^ 16) × GoodName q.name

pub linker_through :
    (h : ObjectFile) (rs : List Relocation) → All TextRelocation rs → fold_outcome parse_linker_row h (map linker_row rs) ≡ given (with_relocations h (upsert_all relocation_key rs h.relocations))
unfolding fold_outcome upsert_all put_record
linker_through h [] i = refl
linker_through h (q ∷ rs) i =
    rw (linker-row h q i.0.0 i.0.1) (linker_through (with_relocations h (upsert relocation_key q h.relocations)) rs i.1)

abbrev pub linker_lines : List Relocation → List (List ℕ)
linker_lines [] = []
linker_lines (q ∷ rs) = linker_header ∷ map linker_row (q ∷ rs)

pub linker-lines : (rs : List Relocation) → linker_table rs ≡ flat_map text_line (linker_lines rs)
unfolding linker_table flat_map hex4
linker-lines [] = refl
linker-lines (q ∷ rs) = ap (λ (r : List ℕ). text_line linker_header ++ r) (sym (flat_map-map text_line linker_row (q ∷ rs)))

linker-header : same_cells (map trim (splitn 1 linker_header)) (ascii "ADDR" ∷ ascii "LABEL" ∷ []) ≡ true
unfolding open-Utf8 is_empty ascii begins_with split_once splitn same_cells eqs
linker-header = refl

pub linker-back : (h : ObjectFile) (rs : List Relocation) → All TextRelocation rs → parse_linker_group h (linker_lines rs) ≡ given (with_relocations h (upsert_all relocation_key rs h.relocations))
unfolding parse_linker_group
linker-back h [] i = unfold rows_under fold_outcome upsert_all in refl
linker-back h (q ∷ rs) i =
    rw (rows_under_lem 26 (ascii "ADDR" ∷ ascii "LABEL" ∷ []) linker_header (map linker_row (q ∷ rs)) linker-header) (linker_through h (q ∷ rs) i)
