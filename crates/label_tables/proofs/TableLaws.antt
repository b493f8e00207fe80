-- The tables by places are the tables of a well formed object's labels, and as long as they are measured. Assumes nothing.
use mathlib.Core.Path.{◌≡◌, refl, sym, ap, ap₂, ◌∙◌}
use mathlib.Core.List.{List, [], ◌∷◌, ◌++◌, map, flat_map}
use Prim.Native.Nat.{ℕ, ◌+◌, max}
use native.Mathlib.Omega.{arith}
use lib.ListN.{length, length-append}
use Rattle.std.specs.Prelude.{if◌then◌else◌}
use Rattle.format.specs.Basics.{Outcome, given, given_or, is_empty, All}
use Rattle.format.specs.ObjectFile.{Label, ObjectFile, label_key}
use Rattle.format.specs.Sorted.{sorted}
use Rattle.format.specs.TextWriter.{decimal, widest, text_line, symbol_header, symbol_row, by_address, symbol_table, label_width, index_width}
use Rattle.format.specs.TextWriter.{label_header, label_row, by_start, label_table}
use Rattle.format.specs.Words.{object_of}
use Rattle.format.specs.Records.{empty_object}
use Rattle.format.specs.Calls.{checked}
use Rattle.format.proofs.ListLaws.{all_map, flat_map-map, flat_map_reordered}
use Rattle.format.proofs.ListFacts.{flat_map_cong}
use Rattle.format.proofs.OrderLaws.{distinct_front}
use Rattle.format.proofs.GatherLaws.{Distinct, rises_distinct}
use Rattle.format.proofs.RisesLaws.{reordered_sorted}
use Rattle.format.proofs.WordsTrip.{words-only}
use Rattle.object.specs.Texts.{text_bytes}
use Rattle.object.specs.Access.{label_at}
use Rattle.object.proofs.ByteLaws.{text-len, text-bytes}
use Rattle.object.proofs.Formed.{formed}
use mathlib.Core.Option.{Option}
use Rattle.measuring.specs.Room.{less, less_part}
use Rattle.label_order.specs.Labels.{label_places}
use Rattle.label_order.specs.Labels as keys
use Rattle.label_order.specs.declared.By.TheVariants as by
use Rattle.label_order.proofs.KeyLaws.{all-sorted}
use Rattle.label_order.proofs.ObjectLaws.{Named, labels_are, labels_named, labels_by_address, labels_by_start}
use Rattle.label_tables.specs.Rows.{bytes_at, name_at, row_label, symbol_line, label_line}
use Rattle.label_tables.specs.Tables.{names_width, indices_width, table_of, symbols_of, labels_of, symbols_length, columns_length, labels_length}

-- A LABEL whose name is a text
module _ (ws : List ℕ) (p : ℕ) (named : Named ws p) where
  pub name_is : name_at ws p ≡ (label_at ws p).name
  unfolding bytes_at
  name_is = let at = p + 1 + 3 in ap (text_bytes ws at) (text-len ws at named) ∙ text-bytes ws at named

  pub label_is : row_label ws p ≡ label_at ws p
  label_is =
      ap (λ (n : List ℕ). record
      { name = n; address = (label_at ws p).address; external = (label_at ws p).external; start = (label_at ws p).start }) name_is

  -- its rows
  pub symbol-line : symbol_line ws p ≡ text_line (symbol_row (label_at ws p))
  unfolding symbol_line
  symbol-line = ap (λ m. text_line (symbol_row m)) label_is

  pub label-line : (names indices : ℕ) → label_line names indices ws p ≡ text_line (label_row names indices (label_at ws p))
  unfolding label_line
  label-line names indices = ap (λ m. text_line (label_row names indices m)) label_is

-- ROWS AND WIDTHS of labels, by what is made of each place
rows_are : (ws : List ℕ) (line : ℕ → List ℕ) (row : Label → List ℕ) → ((p : ℕ) → Named ws p → line p ≡ row (label_at ws p)) → (ps : List ℕ)
    → All (Named ws) ps → flat_map line ps ≡ flat_map row (map (label_at ws) ps)
rows_are ws line row e ps named =
    flat_map_cong line (λ p. row (label_at ws p)) ps (all_map (λ p n. e p n) ps named) ∙ sym (flat_map-map row (label_at ws) ps)

widest_are : (ws : List ℕ) (size : ℕ → ℕ) (of : Label → ℕ) → ((p : ℕ) → Named ws p → size p ≡ of (label_at ws p)) → (l : ℕ) (ps : List ℕ)
    → All (Named ws) ps → widest size l ps ≡ widest of l (map (label_at ws) ps)
unfolding widest
widest_are ws size of e l [] named = refl
widest_are ws size of e l (p ∷ ps) named = ap₂ max (e p named.0) (widest_are ws size of e l ps named.1)

empty-map : {A B : Type 0} (f : A → B) (xs : List A) → is_empty xs ≡ is_empty (map f xs)
unfolding is_empty
empty-map f [] = refl
empty-map f (x ∷ xs) = refl

-- A TABLE: its header and its rows
abbrev framed : {A : Type 0} → List A → List ℕ → List ℕ → List ℕ
framed ls header rows = if is_empty ls then [] else text_line header ++ rows

symbol_table_lem : (ls : List Label) → symbol_table ls ≡ framed ls symbol_header (flat_map (λ m. text_line (symbol_row m)) (by_address ls))
unfolding symbol_table is_empty
symbol_table_lem [] = refl
symbol_table_lem (l ∷ ls) = refl

label_table_lem : (ls : List Label) → label_table ls ≡ framed ls (label_header (label_width ls) (index_width ls))
    (flat_map (λ m. text_line (label_row (label_width ls) (index_width ls) m)) (by_start ls))
unfolding label_table is_empty
label_table_lem [] = refl
label_table_lem (l ∷ ls) = refl

table_are : (header : List ℕ) (line : ℕ → List ℕ) (ps order : List ℕ) (ls : List Label) (rows : List ℕ) → is_empty ps ≡ is_empty ls
    → flat_map line order ≡ rows → table_of header line ps order ≡ framed ls header rows
unfolding table_of
table_are header line ps order ls rows e f = rw (e, f) refl

framed_length : (ls : List Label) (header xs ys : List ℕ) → length xs ≡ length ys
    → length (framed ls header xs) ≡ length (framed ls header ys)
unfolding is_empty
framed_length [] header xs ys e = refl
framed_length (l ∷ ls) header xs ys e = omega (arith, e, length-append (text_line header) xs, length-append (text_line header) ys)

-- OF A WELL FORMED OBJECT
module _ (ws : List ℕ) (h : ObjectFile) (formed : object_of ws ≡ given h) where
  abbrev ls : List Label
  ls = h.labels

  abbrev ps : List ℕ
  ps = label_places ws

  named : All (Named ws) ps
  named = labels_named ws h formed

  some : is_empty ps ≡ is_empty ls
  some = empty-map (label_at ws) ps ∙ ap is_empty (labels_are ws h formed)

  distinct : Distinct label_key ls
  distinct = rises_distinct label_key ls (words-only ws h formed).1.labels

  -- the widths of the columns
  pub names_width_lem : names_width ws ≡ label_width ls
  unfolding names_width
  names_width_lem =
      widest_are ws (λ p. length (name_at ws p)) (λ m. length m.name) (λ p n. ap length (name_is ws p n)) 5 ps named
      ∙ ap label_width (labels_are ws h formed)

  pub indices_width_lem : indices_width ws ≡ index_width ls
  unfolding indices_width
  indices_width_lem =
      widest_are ws (λ p. length (decimal (label_at ws p).start)) (λ m. length (decimal m.start)) (λ p n. refl) 5 ps named
      ∙ ap index_width (labels_are ws h formed)

  -- .SYMBOL
  abbrev row : Label → List ℕ
  row m = text_line (symbol_row m)

  pub symbols_are : symbols_of ws ≡ symbol_table ls
  symbols_are =
      let order = sorted (keys.label_key by.Address ws) ps in
      table_are symbol_header (symbol_line ws) ps order ls (flat_map row (by_address ls)) some
      (rows_are ws (symbol_line ws) row (symbol-line ws) order (all-sorted (keys.label_key by.Address ws) (Named ws) ps named)
      ∙ ap (flat_map row) (labels_by_address ws h formed)) ∙ sym (symbol_table_lem ls)

  pub symbols_length_lem : symbols_length ws ≡ length (symbol_table ls)
  symbols_length_lem =
      ap length (table_are symbol_header (symbol_line ws) ps ps ls (flat_map row ls) some
      (rows_are ws (symbol_line ws) row (symbol-line ws) ps named ∙ ap (flat_map row) (labels_are ws h formed)))
      ∙ framed_length ls symbol_header (flat_map row ls) (flat_map row (by_address ls))
      (flat_map_reordered row (reordered_sorted (λ m. m.address ∷ m.name) ls (distinct_front label_key (λ m. m.address) ls distinct)))
      ∙ ap length (sym (symbol_table_lem ls))

  -- the label table
  abbrev wide : ℕ → ℕ → Label → List ℕ
  wide names indices m = text_line (label_row names indices m)

  pub labels_table_is : labels_of ws ≡ label_table ls
  labels_table_is =
      let order = sorted (keys.label_key by.Start ws) ps in
      ap₂ (λ x y. table_of (label_header x y) (label_line x y ws) ps order) names_width_lem indices_width_lem
      ∙ table_are (label_header (label_width ls) (index_width ls)) (label_line (label_width ls) (index_width ls) ws) ps order ls
      (flat_map (wide (label_width ls) (index_width ls)) (by_start ls)) some
      (rows_are ws (label_line (label_width ls) (index_width ls) ws) (wide (label_width ls) (index_width ls))
      (λ p n. label-line ws p n (label_width ls) (index_width ls)) order (all-sorted (keys.label_key by.Start ws) (Named ws) ps named)
      ∙ ap (flat_map (wide (label_width ls) (index_width ls))) (labels_by_start ws h formed)) ∙ sym (label_table_lem ls)

  pub labels_table_length : labels_length ws ≡ length (label_table ls)
  labels_table_length =
      let line = wide (label_width ls) (index_width ls) in
      let header = label_header (label_width ls) (index_width ls) in
      ap₂ (λ x y. length (table_of (label_header x y) (label_line x y ws) ps ps)) names_width_lem indices_width_lem
      ∙ ap length (table_are header (label_line (label_width ls) (index_width ls) ws) ps ps ls (flat_map line ls) some
      (rows_are ws (label_line (label_width ls) (index_width ls) ws) line (λ p n. label-line ws p n (label_width ls) (index_width ls)) ps named
      ∙ ap (flat_map line) (labels_are ws h formed)))
      ∙ framed_length ls header (flat_map line ls) (flat_map line (by_start ls))
      (flat_map_reordered line (reordered_sorted (λ m. m.start ∷ m.name) ls (distinct_front label_key (λ m. m.start) ls distinct)))
      ∙ ap length (sym (label_table_lem ls))

-- WHAT THE CALLS SAY of the tables of a well formed object's labels
module _ (ws : List ℕ) (z : checked ws ≡ 0) where
  abbrev labels : List Label
  labels = (given_or (object_of ws) empty_object).labels

  same : (h : ObjectFile) → object_of ws ≡ given h → h.labels ≡ labels
  same h e = ap (λ (o : Outcome ObjectFile). (given_or o empty_object).labels) (sym e)

  -- how long they are
  symbols_size : symbols_length ws ≡ length (symbol_table labels)
  symbols_size =
      let f = formed ws z in
      symbols_length_lem ws f.object f.is ∙ ap (λ ls. length (symbol_table ls)) (same f.object f.is)

  labels-size : labels_length ws ≡ length (label_table labels)
  labels-size =
      let f = formed ws z in
      labels_table_length ws f.object f.is ∙ ap (λ ls. length (label_table ls)) (same f.object f.is)

  -- what the measures say
  pub symbols_room : {o : Option ℕ} (room : ℕ) → o ≡ less room (symbols_length ws) → o ≡ less_part room (symbol_table labels)
  symbols_room room e = e ∙ ap (less room) symbols_size

  pub labels-room : {o : Option ℕ} (names indices room : ℕ) → (names ≡ names_width ws) × (indices ≡ indices_width ws)
      → o ≡ less room (columns_length names indices ws) → o ≡ less_part room (label_table labels)
  labels-room names indices room q e = e ∙ ap₂ (λ x y. less room (columns_length x y ws)) q.0 q.1 ∙ ap (less room) labels-size

  -- what they are
  pub symbols_text : symbols_of ws ≡ symbol_table labels
  symbols_text = let f = formed ws z in symbols_are ws f.object f.is ∙ ap symbol_table (same f.object f.is)

  pub labels-text : labels_of ws ≡ label_table labels
  labels-text = let f = formed ws z in labels_table_is ws f.object f.is ∙ ap label_table (same f.object f.is)
