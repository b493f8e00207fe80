-- .DEBUG whole: its lines up to the last, the rows of its line table, and what its two tables leave of an object. Assumes nothing.
use Rattle.std.proofs.Common.{◌≡◌, ℕ, suc, ◌<◌, Bool, true, false, not, eqb, List, [], ◌∷◌, map, drop, sym, refl, ap, ◌∙◌, subst, true≢false, arith}
use mathlib.Core.List.{flat_map}
use mathlib.Core.Option.{Option, none, some}
use Rattle.std.specs.Prelude.{if◌then◌else◌}
use Rattle.format.specs.Basics.{Outcome, refused, given, ◌>>=◌, ask, need, and_then, all_some, given_or, is_some, is_empty}
use Rattle.format.specs.Tokens.{fold_outcome}
use Rattle.format.specs.Utf8.{trim}
use Rattle.format.specs.ObjectFile.{ObjectFile}
use Rattle.format.specs.Records.{with_lines, empty_object, put_record}
use Rattle.format.specs.TextReader.{splitn, cell_at, same_cells, rows_under, parse_decimal, maybe_hex2u16, parse_label_row, parse_label_table}
use Rattle.format.specs.TextReader.{parse_line_rows, runs_from, unescape, parse_line_table, split_at_bar, up_to_bar, parse_debug_group}
use Rattle.format.specs.Calls.{refusal_of}
use Rattle.text_lines.proofs.TestLaws.{by_test}
use Rattle.text_lines.specs.Views.{StepAt}
use Rattle.text_lines.specs.Groups.{parts_from}
use Rattle.text_lines.proofs.RowLaws.{parts_of}
use Rattle.text_tables.specs.Debug.{Groups, but_last, line_view, label_view, BarAt}
use Rattle.text_tables.specs.Labels.{label_columns, label_in, set_label, LabelsChecked}
use Rattle.text_tables.specs.LineRows.{line_in}
use Rattle.text_tables.proofs.DebugLaws.{up_all}
use Rattle.text_tables.proofs.ReadLaws.{foldl, through_parse, table_any}
use Rattle.text_tables.proofs.LabelLaws.{label-row}
use Rattle.text_source.specs.Stream.{source_cell}
use Rattle.text_debug.specs.LineTable.{line_columns, source_in, Makes, LineTable, TableNumber, LineTableIs}
use Rattle.text_debug.specs.DebugGroup.{LastBar, FirstRow, line_blocks_in}
use Rattle.text_debug.specs.LineRuns.{address_in}
use Rattle.text_debug.specs.DebugGroup.{LinesSet, without_rows, Barred, DebugSettles, DebugChecked}
use Rattle.std.specs.Prelude.{Some, Result, Ok, Err}
use Rattle.std.specs.Result.{result_unwrap_or}
use Rattle.units.specs.declared.refusal.Refusal.{Refusal}
use Rattle.text_tables.specs.Symbols.{place_or}
use Rattle.format.proofs.Numbered.{RefusedAbove, refused_by, rows_numbered, numbered_unescape}
use Rattle.text_debug.proofs.LineTableLaws.{Parsed, row, end, rows_28, source_of, rest, opened}

-- THE LINES UP TO THE LAST
pub up_some : (ls : List (List ℕ)) → is_some (up_to_bar ls) ≡ true → up_to_bar ls ≡ some (but_last ls)
unfolding is_some
up_some ls h = go (up_to_bar ls) refl h
  where
    go : (o : Option (List (List ℕ))) → up_to_bar ls ≡ o → is_some o ≡ true → o ≡ some (but_last ls)
    go none e h = absurd (true≢false (sym h))
    go (some ks) e h = ap some (up_all ls ks e)

pub up_none : (ls : List (List ℕ)) → is_some (up_to_bar ls) ≡ false → up_to_bar ls ≡ none
unfolding is_some
up_none ls h = go (up_to_bar ls) h
  where
    go : (o : Option (List (List ℕ))) → is_some o ≡ false → o ≡ none
    go none h = refl
    go (some ks) h = absurd (true≢false h)

-- THE FIRST ROW
pub row-none : (t : List ℕ) (from : ℕ) → (line_view t from).0 ≡ [] → is_empty (drop 1 (line_view t from).0) ≡ true
unfolding is_empty
row-none t from e = ap (λ (ls : List (List ℕ)). is_empty (drop 1 ls)) e

module _ (t : List ℕ) (from a e n : ℕ) (s : StepAt (line_view t) t from a e n) where
  rest_of_lem : drop 1 (line_view t from).0 ≡ (line_view t n).0
  rest_of_lem = ap (λ (p : List (List ℕ) × List (List ℕ × List (List ℕ))). drop 1 p.0) s.same

  pub row_last : (line_view t n).0 ≡ [] → is_empty (drop 1 (line_view t from).0) ≡ true
  unfolding is_empty
  row_last q = ap is_empty (rest_of_lem ∙ q)

  pub row_first : is_empty (line_view t n).0 ≡ false → FirstRow t from (Some n)
  row_first q = (s.next, ap is_empty rest_of_lem ∙ q, sym rest_of_lem)

-- THE LABEL TABLE
-- labels alone are set
abbrev pub Kept : ObjectFile → ObjectFile → Type 0
Kept h h' = (h'.blocks ≡ h.blocks) × (h'.line_blocks ≡ h.line_blocks) × (h'.source ≡ h.source)

-- an outcome of a table that sets nothing else
abbrev pub Keeps : ObjectFile → ℕ → Outcome ObjectFile → Type 0
Keeps h number (refused n) = (number ≡ n) × (0 < n)
Keeps h number (given h') = (number ≡ 0) × Kept h h'

module _ {R : Type 0} (one : ObjectFile → List ℕ → Outcome ObjectFile) (parse : List ℕ → Option R) (set : ObjectFile → R → ObjectFile)
    (k : ℕ)
    (splits : (s : ObjectFile) (a : List ℕ) → one s a ≡ (need k (parse a) >>= λ r. given (set s r))) (few : 9 < k)
    (keeps : (h : ObjectFile) (r : R) → Kept h (set h r)) (columns : List (List ℕ)) where
  kept-all : (h : ObjectFile) (rs : List R) → Kept h (foldl set h rs)
  unfolding foldl
  kept-all h [] = (refl, refl, refl)
  kept-all h (r ∷ rs) =
      let a = keeps h r in
      let b = kept-all (set h r) rs in
      (b.0 ∙ a.0, b.1 ∙ a.1, b.2 ∙ a.2)

  kept-rows : (h : ObjectFile) (o : Option (List R))
      → Keeps h (refusal_of (need k o >>= λ rs. given (foldl set h rs))) (need k o >>= λ rs. given (foldl set h rs))
  kept-rows h none = (refl, omega (arith, few))
  kept-rows h (some rs) = (refl, kept-all h rs)

  kept_under : (h : ObjectFile) (t : Outcome (List (List ℕ))) → RefusedAbove 9 t
      → Keeps h (refusal_of (t >>= λ rows. fold_outcome one h rows)) (t >>= λ rows. fold_outcome one h rows)
  kept_under h (refused n) q = (refl, omega (arith, q))
  kept_under h (given rows) q =
      subst (λ (o : Outcome ObjectFile). Keeps h (refusal_of o) o) (sym (through_parse one parse set k splits h rows))
      (kept-rows h (all_some parse rows))

  -- a table's number is of its lines alone, and an object is kept but for what its rows set
  pub table_keeps : (h : ObjectFile) (ls : List (List ℕ)) (number : ℕ)
      → number ≡ refusal_of (rows_under k columns ls >>= λ rows. fold_outcome one empty_object rows)
      → Keeps h number (rows_under k columns ls >>= λ rows. fold_outcome one h rows)
  table_keeps h ls number e =
      subst (λ (n : ℕ). Keeps h n (rows_under k columns ls >>= λ rows. fold_outcome one h rows))
      (sym (e ∙ table_any one parse set k splits columns empty_object h ls)) (kept_under h (rows_under k columns ls) (rows_numbered k columns ls few))

pub label_keeps : (h : ObjectFile) (ls : List (List ℕ)) (number : ℕ) → number ≡ refusal_of (parse_label_table empty_object ls)
    → Keeps h number (parse_label_table h ls)
unfolding parse_label_table set_label put_record
label_keeps h ls number e =
    table_keeps parse_label_row label_in set_label 26 label-row (omega arith) (λ g r. (refl, refl, refl)) label_columns h ls number e

-- THE LINE TABLE
end-address : (n : ℕ) (cell : List ℕ) (x : Option (Option ℕ)) (q : Outcome (List Parsed)) (ps : List Parsed) → end cell x q ≡ given ps
    → (rows : List Parsed) × (q ≡ given rows) × (ps ≡ ((and_then (and_then {B = ℕ × Option ℕ} x λ a. some (n, a)) λ r. r.1), cell) ∷ rows)
end-address n cell none q ps e = let z : ◌≡◌ {A = ℕ} 0 1 = cc in absurd (omega arith)
end-address n cell (some a) (refused m) ps e = let z : ◌≡◌ {A = ℕ} 0 1 = cc in absurd (omega arith)
end-address n cell (some a) (given rows) ps e = let r : (a, cell) ∷ rows ≡ ps = cc in (rows, refl, sym r)

row-address : (i : ℕ) (cell : List ℕ) (p : Option ℕ) (x : Option (Option ℕ)) (q : Outcome (List Parsed)) (ps : List Parsed)
    → row i cell p x q ≡ given ps
    → (rows : List Parsed) × (q ≡ given rows)
    × (ps ≡ ((and_then (and_then {B = ℕ × Option ℕ} p λ n. and_then {B = ℕ × Option ℕ} x λ a. some (n, a)) λ r. r.1), cell) ∷ rows)
row-address i cell none x q ps e = let z : ◌≡◌ {A = ℕ} 0 1 = cc in absurd (omega arith)
row-address i cell (some n) x q ps e =
    by_test (eqb n i)
    (λ t. let f : end cell x q ≡ given ps = simp t at e in end-address n cell x q ps f)
    (λ t. let f : refused 28 ≡ given ps = simp t at e in let z : ◌≡◌ {A = ℕ} 0 1 = cc in absurd (omega arith))

-- the parsed rows have the addresses
pub addresses_of_lem : (i : ℕ) (ls : List (List ℕ)) (ps : List Parsed) → parse_line_rows i ls ≡ given ps
    → map (λ (r : Parsed). r.0) ps ≡ map address_in ls
unfolding parse_line_rows address_in line_in
addresses_of_lem i [] ps e = let r : [] ≡ ps = cc in ap (map (λ (r : Parsed). r.0)) (sym r)
addresses_of_lem i (l ∷ ls) ps e =
    let n = parse_decimal (18446744073709551616) (trim (cell_at 0 (splitn 2 l))) in
    let a = maybe_hex2u16 (trim (cell_at 1 (splitn 2 l))) in
    let s = row-address i (cell_at 2 (splitn 2 l)) n a (parse_line_rows (suc i) ls) ps e in
    ap (map (λ (r : Parsed). r.0)) s.2 ∙ ap (λ (r : List (Option ℕ)). address_in l ∷ r) (addresses_of_lem (suc i) ls s.0 s.1)

module _ (h : ObjectFile) where
  -- what is given of parsed rows
  abbrev Set : List (List ℕ) → ObjectFile → Type 0
  Set ls h' =
      (is_empty ls ≡ true → h' ≡ h)
      × (is_empty ls ≡ false
      → (h' ≡ with_lines h (line_blocks_in ls) (some (source_in ls))) × (unescape (flat_map source_cell ls) ≡ given (source_in ls)))

  abbrev Numbers : List (List ℕ) → Outcome ObjectFile → Type 0
  Numbers ls (refused n) = 0 < n
  Numbers ls (given h') = Set ls h'

  unescaped : (ls : List (List ℕ)) (o : Outcome (List ℕ)) → is_empty ls ≡ false → RefusedAbove 9 o → unescape (flat_map source_cell ls) ≡ o
      → Numbers ls (o >>= λ s. given (with_lines h (line_blocks_in ls) (some s)))
  unfolding source_in
  unescaped ls (refused n) e q f = omega (arith, q)
  unescaped ls (given s) e q f =
      let r : s ≡ source_in ls = ap (λ (o : Outcome (List ℕ)). given_or o []) (sym f) in
      ((λ t. absurd (true≢false (sym t ∙ e))), λ t. (ap (λ (x : List ℕ). with_lines h (line_blocks_in ls) (some x)) r, f ∙ ap given r))

  -- what is asked of the rows, by whether there are any, their source and their addresses
  abbrev rest_of : Bool → List ℕ → List (Option ℕ) → Outcome ObjectFile
  rest_of none-there source addresses =
      if none-there then given h
      else (ask 29 (not (is_some h.source)) >>= λ _. unescape source >>= λ s. given (with_lines h (runs_from 0 [] addresses) (some s)))

  asked_29 : (ls : List (List ℕ)) (b : Bool) → is_empty ls ≡ false
      → Numbers ls (ask 29 b >>= λ _. unescape (flat_map source_cell ls) >>= λ s. given (with_lines h (line_blocks_in ls) (some s)))
  asked_29 ls true e = unescaped ls (unescape (flat_map source_cell ls)) e (numbered_unescape (flat_map source_cell ls)) refl
  asked_29 ls false e = omega arith

  rest_numbers : (ls : List (List ℕ)) (b : Bool) → is_empty ls ≡ b → Numbers ls (rest_of b (flat_map source_cell ls) (map address_in ls))
  unfolding line_blocks_in
  rest_numbers ls true e = ((λ t. refl), λ t. absurd (true≢false (sym e ∙ t)))
  rest_numbers ls false e = asked_29 ls (not (is_some h.source)) e

  rows-number : (ls : List (List ℕ)) (o : Outcome (List Parsed)) → parse_line_rows 0 ls ≡ o → Numbers ls (o >>= rest h)
  rows-number ls (refused n) e = omega (arith, rows_28 0 ls n e)
  rows-number ls (given ps) e =
      let q = source_of 0 ls ps e in
      subst (Numbers ls)
      (ap (λ (b : Bool). rest_of b (flat_map source_cell ls) (map address_in ls)) (sym q.1)
      ∙ ap (λ (s : List ℕ). rest_of (is_empty ps) s (map address_in ls)) (sym q.0)
      ∙ ap (rest_of (is_empty ps) (flat_map (λ (r : Parsed). r.1) ps)) (sym (addresses_of_lem 0 ls ps e)))
      (rest_numbers ls (is_empty ls) refl)

  table_28 : (l : List ℕ) (rows : List (List ℕ)) → same_cells (map trim (splitn 2 l)) line_columns ≡ false
      → parse_line_table h (l ∷ rows) ≡ refused 28
  unfolding parse_line_table rows_under
  table_28 l rows t = rw t

  table_number : (ls : List (List ℕ)) → Numbers (drop 1 ls) (parse_line_table h ls)
  unfolding parse_line_table rows_under parse_line_rows is_empty
  table_number [] = ((λ t. refl), λ t. absurd (true≢false t))
  table_number (l ∷ rows) =
      by_test (same_cells (map trim (splitn 2 l)) line_columns)
      (λ t. subst (Numbers rows) (sym (opened h l rows t)) (rows-number rows (parse_line_rows 0 rows) refl))
      (λ t. subst (Numbers rows) (sym (table_28 l rows t)) (omega arith))

-- THE GROUP
pub debug_none : (h : ObjectFile) (ls xs : List (List ℕ)) → ls ≡ [] → DebugSettles false xs h 0 (parse_debug_group h ls)
unfolding parse_debug_group
debug_none h ls xs e = subst (λ (x : List (List ℕ)). DebugSettles false xs h 0 (parse_debug_group h x)) (sym e) (refl, refl, (refl, refl))

abbrev after_bars : ObjectFile → List (List ℕ) → Option (List (List ℕ)) → Outcome ObjectFile
after_bars h before o = need 27 o >>= λ after. need 27 (up_to_bar after) >>= λ rows. parse_label_table h before >>= λ h'. parse_line_table h' rows

module _ (h : ObjectFile) (ls : List (List ℕ)) (l : List ℕ) (ks : List (List ℕ)) (e : ls ≡ l ∷ ks) where
  abbrev labelled : Outcome ObjectFile
  labelled = parse_label_table h (split_at_bar ls).before

  debug_bars : (o : Option (List (List ℕ))) → (split_at_bar ls).after ≡ o → parse_debug_group h ls ≡ after_bars h (split_at_bar ls).before o
  unfolding parse_debug_group
  debug_bars o q =
      ap (parse_debug_group h) e ∙ ap (λ (x : List (List ℕ)). after_bars h (split_at_bar x).before (split_at_bar x).after) (sym e)
      ∙ ap (after_bars h (split_at_bar ls).before) q

  debug_up : (a : List (List ℕ)) → (split_at_bar ls).after ≡ some a → (o : Option (List (List ℕ))) → up_to_bar a ≡ o
      → parse_debug_group h ls ≡ (need 27 o >>= λ rows. parse_label_table h (split_at_bar ls).before >>= λ h'. parse_line_table h' rows)
  debug_up a q o u =
      debug_bars (some a) q
      ∙ ap (λ (x : Option (List (List ℕ))). need 27 x >>= λ rows. labelled >>= λ h'. parse_line_table h' rows) u

  module _ (xs : List (List ℕ)) where
    settled : (lined : Bool) (n : ℕ) (o : Outcome ObjectFile) → parse_debug_group h ls ≡ o → DebugSettles lined xs h n o
        → DebugSettles lined xs h n (parse_debug_group h ls)
    settled lined n o q s = subst (DebugSettles lined xs h n) (sym q) s

    -- "does a first line beginning `=` exist, the last line begin `=`, and these differ? 27"
    pub debug_first : (split_at_bar ls).after ≡ none → DebugSettles false xs h 27 (parse_debug_group h ls)
    debug_first q = settled false 27 (refused 27) (debug_bars none q) (refl, omega arith)

    pub debug_last : (a : List (List ℕ)) → (split_at_bar ls).after ≡ some a → up_to_bar a ≡ none
        → DebugSettles false xs h 27 (parse_debug_group h ls)
    debug_last a q u = settled false 27 (refused 27) (debug_up a q none u) (refl, omega arith)

    module _ (a rows : List (List ℕ)) (q : (split_at_bar ls).after ≡ some a) (u : up_to_bar a ≡ some rows) where
      abbrev lines : Outcome ObjectFile → Outcome ObjectFile
      lines o = o >>= λ h'. parse_line_table h' rows

      -- 26
      pub debug_labels : (n : ℕ) → n ≡ refusal_of (parse_label_table empty_object (split_at_bar ls).before) → (n ≡ 0 → ⊥)
          → DebugSettles false xs h n (parse_debug_group h ls)
      debug_labels n k ne =
          settled false n _ (debug_up a q (some rows) u) (go labelled (label_keeps h (split_at_bar ls).before n k))
        where
          go : (o : Outcome ObjectFile) → Keeps h n o → DebugSettles false xs h n (lines o)
          go (refused m) s = s
          go (given h') s = absurd (ne s.0)

      module _ (k : 0 ≡ refusal_of (parse_label_table empty_object (split_at_bar ls).before)) (b : Bool) (m : ℕ) (is : TableNumber rows b m)
          (g : is_some h.source ≡ b) where
        number_of_lem : (h' : ObjectFile) → Kept h h' → m ≡ refusal_of (parse_line_table h' rows)
        number_of_lem h' s = is h' (ap is_some s.2 ∙ g)

        -- 28, 29, 30
        pub debug_lines_lem : (m ≡ 0 → ⊥) → DebugSettles false xs h m (parse_debug_group h ls)
        debug_lines_lem ne =
            settled false m _ (debug_up a q (some rows) u) (go labelled (label_keeps h (split_at_bar ls).before 0 k))
          where
            go : (o : Outcome ObjectFile) → Keeps h 0 o → DebugSettles false xs h m (lines o)
            go (refused n) s = absurd (omega (arith, s.0, s.1))
            go (given h') s =
                subst (DebugSettles false xs h m) (sym (refused_by (parse_line_table h' rows) m (sym (number_of_lem h' s.1)) ne))
                (refl, omega (arith, ne))

        module _ (z : m ≡ 0) where
          answer : (lined : Bool) → ((h' h'' : ObjectFile) → Kept h h' → Set h' (drop 1 rows) h'' → DebugSettles lined xs h 0 (given h''))
              → DebugSettles lined xs h 0 (parse_debug_group h ls)
          answer lined f =
              settled lined 0 _ (debug_up a q (some rows) u) (go labelled (label_keeps h (split_at_bar ls).before 0 k))
            where
              last : (h' : ObjectFile) → Kept h h' → (o : Outcome ObjectFile) → parse_line_table h' rows ≡ o → Numbers h' (drop 1 rows) o
                  → DebugSettles lined xs h 0 o
              last h' s (refused n) e w = absurd (omega (arith, w, z, number_of_lem h' s ∙ ap refusal_of e))
              last h' s (given h'') e w = f h' h'' s w

              go : (o : Outcome ObjectFile) → Keeps h 0 o → DebugSettles lined xs h 0 (lines o)
              go (refused n) s = absurd (omega (arith, s.0, s.1))
              go (given h') s = last h' s.1 (parse_line_table h' rows) refl (table_number h' rows)

          pub debug_unlined : is_empty (drop 1 rows) ≡ true → DebugSettles false xs h 0 (parse_debug_group h ls)
          debug_unlined n =
              answer false λ h' h'' s w.
              let v = w.0 n in
              let lines : LinesSet false xs h h'' =
              (ap (λ (x : ObjectFile). x.line_blocks) v ∙ s.1, ap (λ (x : ObjectFile). x.source) v ∙ s.2) in
              (refl, ap (λ (x : ObjectFile). x.blocks) v ∙ s.0, lines)

          pub debug_lined : is_empty (drop 1 rows) ≡ false → xs ≡ drop 1 rows → DebugSettles true xs h 0 (parse_debug_group h ls)
          debug_lined n x =
              answer true λ h' h'' s w.
              let v = (w.1 n).0 in (
                refl,
                ap (λ (y : ObjectFile). y.blocks) v ∙ s.0,
                (
                  ap (λ (y : ObjectFile). y.line_blocks) v ∙ ap line_blocks_in (sym x),
                  ap (λ (y : ObjectFile). y.source) v ∙ ap (λ (y : List (List ℕ)). some (source_in y)) (sym x),
                  ap (λ (y : List (List ℕ)). unescape (flat_map source_cell y)) x ∙ (w.1 n).1
                      ∙ ap (λ (y : List (List ℕ)). given (source_in y)) (sym x),
                ),
              )

-- AT A PLACE
-- the first bar, from where the label table ends
module _ (t : List ℕ) (at number next : ℕ) (l : LabelsChecked t at number next) where
  pub bar_from : (q : ℕ) → BarAt t next q → BarAt t at q
  bar_from q b =
      record {
        on = omega (arith, l.from, b.on);
        next = b.next;
        groups = b.groups ∙ ap (λ (z : Option (List (List ℕ)) × Groups). z.1) l.after;
        after = sym (ap (λ (z : Option (List (List ℕ)) × Groups). z.0) l.after) ∙ b.after;
      }

  pub no_bar_from : (split_at_bar (parts_from t next).before).after ≡ none → (split_at_bar (parts_from t at).before).after ≡ none
  no_bar_from e = sym (ap (λ (z : Option (List (List ℕ)) × Groups). z.0) l.after) ∙ e

-- the place where the label table ends, or its own where it is refused
pub place_of : (at : ℕ) (r : Result ℕ Refusal) → result_unwrap_or r at ≡ place_or at r
place_of at (Ok next) = refl
place_of at (Err r) = refl

-- a refusal
pub checked_no : (t : List ℕ) (at : ℕ) (b : Bool) (n : ℕ) → (n ≡ 0 → ⊥)
    → ((h : ObjectFile) → is_some h.source ≡ b → DebugSettles false (line_view t 0).0 h n (parse_debug_group h (parts_from t at).before))
    → DebugChecked t at b (without_rows n at)
checked_no t at b n ne f = record { from = omega arith; after = λ z. absurd (ne z); inside = omega arith; makes = λ y. absurd (true≢false (sym y)); settles = f }

-- a list that is there, or not
some_line : (ls : List (List ℕ)) → is_empty ls ≡ false → (l : List ℕ) × (ks : List (List ℕ)) × (ls ≡ l ∷ ks)
unfolding is_empty
some_line [] e = absurd (true≢false e)
some_line (l ∷ ks) e = (l, ks, refl)

no_line : (ls : List (List ℕ)) → not (is_empty ls) ≡ false → ls ≡ []
unfolding is_empty
no_line [] e = refl
no_line (l ∷ ks) e = absurd (true≢false e)

pub is_full : (ls : List (List ℕ)) → not (is_empty ls) ≡ true → is_empty ls ≡ false
unfolding is_empty
is_full [] e = absurd (true≢false (sym e))
is_full (l ∷ ks) e = refl

pub checked-none : (t : List ℕ) (at : ℕ) (b : Bool) → not (is_empty (parts_from t at).before) ≡ false → DebugChecked t at b (without_rows 0 at)
checked-none t at b q =
    let e = no_line (parts_from t at).before q in
    record {
      from = omega arith;
      after = λ z. parts_of t at _ e refl;
      inside = omega arith;
      makes = λ y. absurd (true≢false (sym y));
      settles = λ h g. debug_none h (parts_from t at).before (line_view t 0).0 e;
    }

module _ (t : List ℕ) (at : ℕ) (full : is_empty (parts_from t at).before ≡ false) (b : Bool) where
  abbrev first : (l : List ℕ) × (ks : List (List ℕ)) × ((parts_from t at).before ≡ l ∷ ks)
  first = some_line (parts_from t at).before full

  pub checked-first : (split_at_bar (parts_from t at).before).after ≡ none → DebugChecked t at b (without_rows 27 at)
  checked-first q = checked_no t at b 27 (λ z. omega (arith, z)) λ h g. debug_first h _ _ _ first.2 (line_view t 0).0 q

  module _ (q : ℕ) (bar : BarAt t at q) where
    pub checked-last : up_to_bar (parts_from t q).before ≡ none → DebugChecked t at b (without_rows 27 at)
    checked-last u = checked_no t at b 27 (λ z. omega (arith, z)) λ h g. debug_last h _ _ _ first.2 (line_view t 0).0 _ bar.after u

    pub checked-labels : (m : ℕ) → LastBar t q (Some m) → (k : ℕ) → k ≡ refusal_of (parse_label_table empty_object (label_view t at).0)
        → (k ≡ 0 → ⊥) → DebugChecked t at b (without_rows k at)
    checked-labels m u k w ne = checked_no t at b k ne λ h g. debug_labels h _ _ _ first.2 (line_view t 0).0 _ _ bar.after u.2 k w ne

module _ (t : List ℕ) (at q m : ℕ) (d : Barred t at q m) (b : Bool) (k : LineTable) (is : LineTableIs (line_view t q).0 b k) where
  abbrev line : (l : List ℕ) × (ks : List (List ℕ)) × ((parts_from t at).before ≡ l ∷ ks)
  line = some_line (parts_from t at).before d.full

  pub checked-lines : (k.number ≡ 0 → ⊥) → DebugChecked t at b (without_rows k.number at)
  checked-lines ne =
      checked_no t at b k.number ne
      λ h g. debug_lines_lem h _ _ _ line.2 (line_view t 0).0 _ _ d.first.after d.last.2 d.labels b k.number is.0 g ne

  after_bars_lem : parts_from t m ≡ record { before = []; groups = (parts_from t at).groups }
  after_bars_lem = d.last.1 ∙ ap (λ (g : List (List ℕ × List (List ℕ))). record { before = []; groups = g }) d.first.groups

  module _ (z : k.number ≡ 0) where
    pub checked_unlined : is_empty (drop 1 (line_view t q).0) ≡ true → DebugChecked t at b (without_rows 0 m)
    checked_unlined o =
        record {
          from = omega (arith, d.first.on, d.last.0);
          after = λ y. after_bars_lem;
          inside = omega arith;
          makes = λ y. absurd (true≢false (sym y));
          settles = λ h g.
              debug_unlined h _ _ _ line.2 (line_view t 0).0 _ _ d.first.after d.last.2 d.labels b k.number is.0 g z o;
        }

    pub checked-lined : (p : ℕ) → FirstRow t q (Some p)
        → DebugChecked t at b (record { number = 0; next = m; lined = true; rows = p; lines = k.lines })
    checked-lined p o =
        record {
          from = omega (arith, d.first.on, d.last.0);
          after = λ y. after_bars_lem;
          inside = o.0;
          makes = λ y. subst (λ (ls : List (List ℕ)). Makes ls k.lines) (sym o.2) (is.1 z o.1);
          settles = λ h g.
              debug_lined h _ _ _ line.2 _ _ _ d.first.after d.last.2 d.labels b k.number is.0 g z o.1 o.2;
        }
