-- .SYMBOL's table at places.
-- Assumes nothing.
use mathlib.Core.Path.{◌≡◌, refl, sym, ap, ◌∙◌}
use mathlib.Core.Bool.{true, false, not}
use mathlib.Core.List.{List, [], map}
use mathlib.Core.Option.{Option, none, some}
use Prim.Native.Nat.{ℕ, ◌+◌, ◌-◌, ◌≤◌}
use native.Mathlib.Omega.{arith}
use lib.ListN.{length, get_or}
use lib.Dec.{eqb}
use Rattle.std.specs.Prelude.{Some, Ok}
use Rattle.format.specs.Basics.{given, ◌>>=◌, need, and_then}
use Rattle.format.specs.Utf8.{trim}
use Rattle.format.specs.TextReader.{splitn, hex2u16, parse_decimal, parse_number, same_cells, parse_symbol_row, parse_symbol_group}
use Rattle.format.specs.ObjectFile.{ObjectFile}
use Rattle.format.specs.Records.{empty_object}
use Rattle.trim.specs.Span.{part}
use Rattle.text_lines.specs.Groups.{parts_from, group_view, RowAt}
use Rattle.text_tables.specs.Symbols.{symbol_in, set_symbol, symbols_from, sym_of, symbol_columns, SymIs, NextSymbol}
use Rattle.text_tables.specs.declared.SymbolRow.{SymbolRow}
use Rattle.format.specs.Calls.{refusal_of}
use Rattle.text_tables.proofs.ReadLaws.{at_none, at_header, at_rows_lem, read-on}
use Rattle.text_lines.proofs.LineLaws.{length_part, part-inside}

-- .SYMBOL
pub symbol-row : (h : ObjectFile) (l : List ℕ) → parse_symbol_row h l ≡ (need 26 (symbol_in l) >>= λ s. given (set_symbol h s))
unfolding parse_symbol_row symbol_in set_symbol
symbol-row h l = go (hex2u16 (trim (get_or (splitn 2 l) 0 []))) (parse_decimal 256 (trim (get_or (splitn 2 l) 1 [])))
  where
    name : List ℕ
    name = trim (get_or (splitn 2 l) 2 [])

    go : (o p : Option ℕ) → (need 26 o >>= λ a. need 26 p >>= λ e. given (set_symbol h (record { address = a; external = not (eqb e 0); name = name })))
        ≡ (need 26 (and_then o λ a. and_then p λ e. some (record { address = a; external = not (eqb e 0); name = name })) >>= λ s. given (set_symbol h s))
    go none p = refl
    go (some a) none = refl
    go (some a) (some e) = refl

-- the group's number, of its lines alone
module _ (t : List ℕ) (at : ℕ) where
  abbrev rows : List (List ℕ)
  rows = (parts_from t at).before

  pub group_none : rows ≡ [] → refusal_of (parse_symbol_group empty_object rows) ≡ 0
  unfolding parse_symbol_group
  group_none e = at_none parse_symbol_row symbol_in set_symbol 26 symbol-row symbol_columns (group_view t) t empty_object at e

  module _ (a e n : ℕ) (l : RowAt t at a e n) where
    pub header_no : same_cells (map trim (splitn 2 (part a e t))) symbol_columns ≡ false → refusal_of (parse_symbol_group empty_object rows) ≡ 26
    unfolding parse_symbol_group
    header_no h = at_header parse_symbol_row symbol_in set_symbol 26 symbol-row symbol_columns (group_view t) t empty_object at a e n l h

    pub header-yes : same_cells (map trim (splitn 2 (part a e t))) symbol_columns ≡ true
        → refusal_of (need 26 (symbols_from t n)) ≡ refusal_of (parse_symbol_group empty_object rows)
    unfolding parse_symbol_group
    header-yes h = at_rows_lem parse_symbol_row symbol_in set_symbol 26 symbol-row symbol_columns (group_view t) t empty_object at a e n l h

-- what a row says
module _ (l : List ℕ) where
  pub sym_bad0 : none ≡ hex2u16 (trim (get_or (splitn 2 l) 0 [])) → symbol_in l ≡ none
  unfolding symbol_in
  sym_bad0 e = rw (← e)

  pub sym_bad1 : (a : ℕ) → some a ≡ hex2u16 (trim (get_or (splitn 2 l) 0 [])) → none ≡ parse_number 10 256 (trim (get_or (splitn 2 l) 1 [])) → symbol_in l ≡ none
  unfolding symbol_in
  sym_bad1 a e f = rw (← e, ← f)

  pub sym_row : (a x s e : ℕ) → some a ≡ hex2u16 (trim (get_or (splitn 2 l) 0 [])) → some x ≡ parse_number 10 256 (trim (get_or (splitn 2 l) 1 [])) → part s e l ≡ trim (get_or (splitn 2 l) 2 []) → symbol_in l ≡ some (sym_of l a (not (eqb x 0)) s e)
  unfolding symbol_in
  sym_row a x s e f g h = rw (← f, ← g, h)

-- a row of the group that reads, its name placed in the text
pub symbol-inside : (t : List ℕ) (at a e n : ℕ) → RowAt t at a e n → (r : SymbolRow) → SymIs (part a e t) (Some r)
    → NextSymbol t at (Ok (Some (record { address = r.address; external = r.external; start = a + r.start; end = a + r.end }, n)))
symbol-inside t at a e n l r i =
    let h : r.end ≤ e - a = omega (arith, i.1, length_part a e t l.ordered l.inside) in
    let k : e ≤ length t = l.inside in (
      omega (arith, i.0),
      omega (arith, l.ordered),
      read-on symbol_in (group_view t) t at a e n l _
          (i.2 ∙ ap (λ (p : List ℕ). some (record { address = r.address; external = r.external; name = p })) (sym (part-inside t a e r.start r.end i.0 h))),
    )
