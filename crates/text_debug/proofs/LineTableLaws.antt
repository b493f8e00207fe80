-- The line table's number, question by question. Assumes nothing.
use Rattle.std.proofs.Common.{◌≡◌, ℕ, suc, Bool, true, false, not, eqb, List, [], ◌∷◌, ◌++◌, map, drop, sym, refl, ap, ◌∙◌, subst, true≢false, arith}
use mathlib.Core.List.{flat_map}
use mathlib.Core.Option.{Option, none, some}
use Rattle.std.specs.Prelude.{if◌then◌else◌}
use Rattle.std.specs.Prelude as std
use Rattle.std.specs.Prelude.{Some, None}
use Rattle.std.specs.Option as options
use Rattle.text_lines.specs.declared.Line.{Line}
use Rattle.text_tables.specs.Debug.{NextIn}
use Rattle.format.specs.Basics.{Outcome, refused, given, ◌>>=◌, ask, need, is_some, is_empty}
use Rattle.format.specs.Utf8.{trim}
use Rattle.format.specs.ObjectFile.{ObjectFile}
use Rattle.format.specs.Records.{with_lines}
use Rattle.format.specs.TextReader.{splitn, cell_at, same_cells, rows_under, parse_decimal, maybe_hex2u16, parse_line_rows, runs_from, unescape, parse_line_table}
use Rattle.format.specs.Calls.{Measured, refusal_of}
use Rattle.text_lines.proofs.TestLaws.{by_test}
use Rattle.trim.specs.Span.{part}
use Rattle.text_lines.specs.Views.{StepAt}
use Rattle.text_tables.specs.Debug.{Groups, line_view}
use Rattle.text_source.specs.Stream.{source_cell}
use Rattle.text_source.specs.Unescape.{UnescapedIs}
use Rattle.text_debug.specs.LineTable.{line_columns, source_in, LineTable, without_lines, LineTableIs, RowTableIs}
use Rattle.text_debug.specs.LineRuns.{RowsRead, LineRowsAre}

abbrev pub Parsed : Type 0
Parsed = Option ℕ × List ℕ

-- a row, its cell, and the rows after it
abbrev pub row : ℕ → List ℕ → Option ℕ → Option (Option ℕ) → Outcome (List Parsed) → Outcome (List Parsed)
row i cell p x q = need 28 p >>= λ n. ask 28 (eqb n i) >>= λ _. need 28 x >>= λ a. q >>= λ rows. given ((a, cell) ∷ rows)

abbrev pub end : List ℕ → Option (Option ℕ) → Outcome (List Parsed) → Outcome (List Parsed)
end cell x q = need 28 x >>= λ a. q >>= λ rows. given ((a, cell) ∷ rows)

abbrev Taken : List ℕ → Outcome (List Parsed) → List Parsed → Type 0
Taken cell q ps = (a : Option ℕ) × (rows : List Parsed) × (q ≡ given rows) × (ps ≡ (a, cell) ∷ rows)

end_taken : (cell : List ℕ) (x : Option (Option ℕ)) (q : Outcome (List Parsed)) (ps : List Parsed) → end cell x q ≡ given ps → Taken cell q ps
end_taken cell none q ps e = let z : ◌≡◌ {A = ℕ} 0 1 = cc in absurd (omega arith)
end_taken cell (some a) (refused m) ps e = let z : ◌≡◌ {A = ℕ} 0 1 = cc in absurd (omega arith)
end_taken cell (some a) (given rows) ps e = let r : (a, cell) ∷ rows ≡ ps = cc in (a, rows, refl, sym r)

row_taken : (i : ℕ) (cell : List ℕ) (p : Option ℕ) (x : Option (Option ℕ)) (q : Outcome (List Parsed)) (ps : List Parsed) → row i cell p x q ≡ given ps → Taken cell q ps
row_taken i cell none x q ps e = let z : ◌≡◌ {A = ℕ} 0 1 = cc in absurd (omega arith)
row_taken i cell (some n) x q ps e =
    by_test (eqb n i)
    (λ t. let f : end cell x q ≡ given ps = simp t at e in end_taken cell x q ps f)
    (λ t. let f : refused 28 ≡ given ps = simp t at e in let z : ◌≡◌ {A = ℕ} 0 1 = cc in absurd (omega arith))

-- rows refuse by 28 alone
end_28 : (cell : List ℕ) (x : Option (Option ℕ)) (q : Outcome (List Parsed)) (n : ℕ) → ((m : ℕ) → q ≡ refused m → m ≡ 28) → end cell x q ≡ refused n → n ≡ 28
end_28 cell none q n f e = let r : ◌≡◌ {A = ℕ} 28 n = cc in sym r
end_28 cell (some a) (refused m) n f e = let r : m ≡ n = cc in sym r ∙ f m refl
end_28 cell (some a) (given rows) n f e = let z : ◌≡◌ {A = ℕ} 0 1 = cc in absurd (omega arith)

row_28 : (i : ℕ) (cell : List ℕ) (p : Option ℕ) (x : Option (Option ℕ)) (q : Outcome (List Parsed)) (n : ℕ) → ((m : ℕ) → q ≡ refused m → m ≡ 28) → row i cell p x q ≡ refused n → n ≡ 28
row_28 i cell none x q n f e = let r : ◌≡◌ {A = ℕ} 28 n = cc in sym r
row_28 i cell (some k) x q n f e =
    by_test (eqb k i)
    (λ t. let g : end cell x q ≡ refused n = simp t at e in end_28 cell x q n f g)
    (λ t. let g : refused 28 ≡ refused n = simp t at e in let r : ◌≡◌ {A = ℕ} 28 n = cc in sym r)

pub rows_28 : (i : ℕ) (ls : List (List ℕ)) (n : ℕ) → parse_line_rows i ls ≡ refused n → n ≡ 28
unfolding parse_line_rows
rows_28 i [] n e = let z : ◌≡◌ {A = ℕ} 0 1 = cc in absurd (omega arith)
rows_28 i (l ∷ ls) n e = row_28 i (cell_at 2 (splitn 2 l)) (parse_decimal (18446744073709551616) (trim (cell_at 0 (splitn 2 l)))) (maybe_hex2u16 (trim (cell_at 1 (splitn 2 l)))) (parse_line_rows (suc i) ls) n (λ m. rows_28 (suc i) ls m) e

-- the parsed rows have the SOURCE cells
pub source_of : (i : ℕ) (ls : List (List ℕ)) (ps : List Parsed) → parse_line_rows i ls ≡ given ps → (flat_map (λ (r : Parsed). r.1) ps ≡ flat_map source_cell ls) × (is_empty ps ≡ is_empty ls)
unfolding parse_line_rows flat_map is_empty
source_of i [] ps e = let r : [] ≡ ps = cc in (ap (flat_map (λ (r : Parsed). r.1)) (sym r), ap is_empty (sym r))
source_of i (l ∷ ls) ps e =
    let s = row_taken i (cell_at 2 (splitn 2 l)) (parse_decimal (18446744073709551616) (trim (cell_at 0 (splitn 2 l)))) (maybe_hex2u16 (trim (cell_at 1 (splitn 2 l)))) (parse_line_rows (suc i) ls) ps e in
    let ih = source_of (suc i) ls s.1 s.2 in
    (ap (flat_map (λ (r : Parsed). r.1)) s.3 ∙ ap (λ (r : List ℕ). cell_at 2 (splitn 2 l) ++ r) ih.0, ap is_empty s.3)

module _ (h : ObjectFile) where
  -- what is asked of the rows
  abbrev pub rest : List Parsed → Outcome ObjectFile
  rest ps =
      if is_empty ps then given h
      else (ask 29 (not (is_some h.source)) >>= λ _. unescape (flat_map (λ (r : Parsed). r.1) ps) >>= λ s. given (with_lines h (runs_from 0 [] (map (λ (r : Parsed). r.0) ps)) (some s)))

  pub opened : (l : List ℕ) (rows : List (List ℕ)) → same_cells (map trim (splitn 2 l)) line_columns ≡ true → parse_line_table h (l ∷ rows) ≡ (parse_line_rows 0 rows >>= rest)
  unfolding parse_line_table rows_under
  opened l rows t = rw t

  pub table_empty : (ls : List (List ℕ)) → ls ≡ [] → 0 ≡ refusal_of (parse_line_table h ls)
  unfolding parse_line_table rows_under parse_line_rows is_empty
  table_empty ls e = sym (ap (λ (x : List (List ℕ)). refusal_of (parse_line_table h x)) e)

  pub table_header : (l : List ℕ) (rows : List (List ℕ)) → same_cells (map trim (splitn 2 l)) line_columns ≡ false → 28 ≡ refusal_of (parse_line_table h (l ∷ rows))
  unfolding parse_line_table rows_under
  table_header l rows t = rw t

  bad : (o : Outcome (List Parsed)) (n : ℕ) → refusal_of o ≡ n → (n ≡ 0 → ⊥) → refusal_of (o >>= rest) ≡ n
  bad (refused m) n e ne = e
  bad (given ps) n e ne = absurd (ne (sym e))

  good : (o : Outcome (List Parsed)) → ((m : ℕ) → o ≡ refused m → m ≡ 28) → refusal_of o ≡ 0 → (ps : List Parsed) × (o ≡ given ps)
  good (refused m) f e = let q : m ≡ 28 = f m refl in absurd (omega arith)
  good (given ps) f e = (ps, refl)

  joined : (o : Outcome (List ℕ)) (f : List ℕ → ObjectFile) → refusal_of (o >>= λ s. given (f s)) ≡ refusal_of o
  joined (refused n) f = refl
  joined (given s) f = refl

  rest-none : (ps : List Parsed) → is_empty ps ≡ true → 0 ≡ refusal_of (rest ps)
  rest-none ps t = simp t

  rest_again : (ps : List Parsed) → is_empty ps ≡ false → is_some h.source ≡ true → 29 ≡ refusal_of (rest ps)
  rest_again ps t g = simp (t, g)

  rest-source : (ps : List Parsed) → is_empty ps ≡ false → is_some h.source ≡ false → refusal_of (unescape (flat_map (λ (r : Parsed). r.1) ps)) ≡ refusal_of (rest ps)
  rest-source ps t g =
      sym (joined (unescape (flat_map (λ (r : Parsed). r.1) ps)) (λ s. with_lines h (runs_from 0 [] (map (λ (r : Parsed). r.0) ps)) (some s)))
      ∙ simp (t, g)

  module _ (l : List ℕ) (rows : List (List ℕ)) (t : same_cells (map trim (splitn 2 l)) line_columns ≡ true) where
    pub table_bad : (n : ℕ) → n ≡ refusal_of (parse_line_rows 0 rows) → (n ≡ 0 → ⊥) → n ≡ refusal_of (parse_line_table h (l ∷ rows))
    table_bad n e ne = sym (ap refusal_of (opened l rows t) ∙ bad (parse_line_rows 0 rows) n (sym e) ne)

    module _ (z : 0 ≡ refusal_of (parse_line_rows 0 rows)) where
      parsed : (ps : List Parsed) × (parse_line_rows 0 rows ≡ given ps)
      parsed = good (parse_line_rows 0 rows) (λ m. rows_28 0 rows m) (sym z)

      to_rest : refusal_of (rest parsed.0) ≡ refusal_of (parse_line_table h (l ∷ rows))
      to_rest = sym (ap refusal_of (opened l rows t) ∙ ap (λ (o : Outcome (List Parsed)). refusal_of (o >>= rest)) parsed.1)

      pub table_none : rows ≡ [] → 0 ≡ refusal_of (parse_line_table h (l ∷ rows))
      unfolding is_empty
      table_none e =
          let s : is_empty parsed.0 ≡ true = (source_of 0 rows parsed.0 parsed.1).1 ∙ ap is_empty e in
          rest-none parsed.0 s ∙ to_rest

      module _ (e : is_empty rows ≡ false) where
        some_rows : is_empty parsed.0 ≡ false
        some_rows = (source_of 0 rows parsed.0 parsed.1).1 ∙ e

        pub table_again : is_some h.source ≡ true → 29 ≡ refusal_of (parse_line_table h (l ∷ rows))
        table_again g = rest_again parsed.0 some_rows g ∙ to_rest

        pub table_source : is_some h.source ≡ false → (n : ℕ) → n ≡ refusal_of (unescape (flat_map source_cell rows)) → n ≡ refusal_of (parse_line_table h (l ∷ rows))
        table_source g n q =
            q ∙ ap (λ (s : List ℕ). refusal_of (unescape s)) (sym (source_of 0 rows parsed.0 parsed.1).0) ∙ rest-source parsed.0 some_rows g ∙ to_rest

-- the same at a place
pub lines_none : (ls : List (List ℕ)) → ls ≡ [] → (b : Bool) → LineTableIs ls b (without_lines 0)
unfolding is_empty
lines_none ls e b = ((λ h g. table_empty h ls e), λ z q. absurd (true≢false (sym (ap (λ (x : List (List ℕ)). is_empty (drop 1 x)) e) ∙ q)))

module _ (t : List ℕ) (from a e n : ℕ) (s : StepAt (line_view t) t from a e n) where
  first : (line_view t from).0 ≡ part a e t ∷ (line_view t n).0
  first = ap (λ (p : List (List ℕ) × Groups). p.0) s.same

  pub not-empty : is_empty (line_view t from).0 ≡ false
  unfolding is_empty
  not-empty = ap is_empty first

  pub header-bad : same_cells (map trim (splitn 2 (part a e t))) line_columns ≡ false → (b : Bool) → LineTableIs (line_view t from).0 b (without_lines 28)
  header-bad q b =
      subst (λ (ls : List (List ℕ)). LineTableIs ls b (without_lines 28)) (sym first)
      ((λ h g. table_header h (part a e t) (line_view t n).0 q), λ z. absurd (omega (arith, z)))

  pub header_good : same_cells (map trim (splitn 2 (part a e t))) line_columns ≡ true → (b : Bool) (r : LineTable)
      → RowTableIs (line_view t n).0 b r → LineTableIs (line_view t from).0 b r
  header_good q b r k = subst (λ (ls : List (List ℕ)). LineTableIs ls b r) (sym first) (k (part a e t) q)

-- whether there is a row
pub some-row : (t : List ℕ) (from : ℕ) (r : std.Option Line) → NextIn (line_view t) t from r → options.is_some r ≡ true → is_empty (line_view t from).0 ≡ false
some-row t from (Some l) s q = not-empty t from l.start l.end l.next s
some-row t from None s q = absurd (true≢false (sym q))

pub no-row : (t : List ℕ) (from : ℕ) (r : std.Option Line) → NextIn (line_view t) t from r → options.is_some r ≡ false → (line_view t from).0 ≡ []
no-row t from (Some l) s q = absurd (true≢false q)
no-row t from None s q = s

-- rows, under any header
module _ (rows : List (List ℕ)) (b : Bool) where
  pub rows-bad : (k : ℕ) → k ≡ refusal_of (parse_line_rows 0 rows) → (k ≡ 0 → ⊥) → RowTableIs rows b (without_lines k)
  rows-bad k w ne l q = ((λ h g. table_bad h l rows q k w ne), λ z. absurd (ne z))

  module _ (z : 0 ≡ refusal_of (parse_line_rows 0 rows)) where
    pub rows_none : rows ≡ [] → RowTableIs rows b (without_lines 0)
    unfolding is_empty
    rows_none w l q = ((λ h g. table_none h l rows q z w), λ y o. absurd (true≢false (sym (ap is_empty w) ∙ o)))

    module _ (w : is_empty rows ≡ false) where
      pub rows_again : b ≡ true → RowTableIs rows b (without_lines 29)
      rows_again y l q = ((λ h g. table_again h l rows q z w (g ∙ y)), λ o. absurd (omega (arith, o)))

      pub rows-escape : b ≡ false → (k : ℕ) → k ≡ refusal_of (unescape (flat_map source_cell rows)) → (k ≡ 0 → ⊥) → RowTableIs rows b (without_lines k)
      rows-escape y k e ne l q = ((λ h g. table_source h l rows q z w (g ∙ y) k e), λ o. absurd (ne o))

      pub rows-source : b ≡ false → (u : Measured) → UnescapedIs (unescape (flat_map source_cell rows)) u
          → (r : RowsRead) → LineRowsAre rows r → r.number ≡ 0
          → RowTableIs rows b (record { number = u.number; lines = record { len = u.len; words = r.words; rise = r.rise } })
      unfolding source_in
      rows-source y u k r x zero l q = (
        (λ h g. table_source h l rows q z w (g ∙ y) u.number k.0),
        λ o v. (k.1, (x.1 zero).0, (x.1 zero).1),
      )
