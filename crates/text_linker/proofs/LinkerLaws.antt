-- .LINKER_INFO's table at places.
-- Assumes nothing.
use mathlib.Core.Path.{◌≡◌, refl, sym, ap, ◌∙◌}
use mathlib.Core.Bool.{true, false}
use mathlib.Core.List.{List, [], map}
use mathlib.Core.Option.{Option, none, some}
use Prim.Native.Nat.{ℕ, ◌+◌, ◌-◌, ◌≤◌}
use native.Mathlib.Omega.{arith}
use lib.ListN.{length, get_or}
use Rattle.std.specs.Prelude.{Some, Ok}
use Rattle.format.specs.Basics.{given, ◌>>=◌, need, and_then}
use Rattle.format.specs.Utf8.{trim}
use Rattle.format.specs.TextReader.{splitn, hex2u16, same_cells, parse_linker_row, parse_linker_group}
use Rattle.format.specs.ObjectFile.{ObjectFile}
use Rattle.format.specs.Records.{empty_object}
use Rattle.format.specs.Calls.{refusal_of}
use Rattle.trim.specs.Span.{part}
use Rattle.text_lines.specs.Groups.{parts_from, group_view, RowAt}
use Rattle.text_lines.proofs.LineLaws.{length_part, part-inside}
use Rattle.text_tables.specs.Reads.{read_from}
use Rattle.text_tables.proofs.ReadLaws.{at_none, at_header, at_rows_lem, read-on}
use Rattle.text_linker.specs.Linker.{linker_in, set_linker, linker_of, linker_columns, LinkerIs, NextLinker}
use Rattle.text_linker.specs.declared.LinkerRow.{LinkerRow}

pub linker-row : (h : ObjectFile) (l : List ℕ) → parse_linker_row h l ≡ (need 26 (linker_in l) >>= λ q. given (set_linker h q))
unfolding parse_linker_row linker_in set_linker
linker-row h l = go (hex2u16 (trim (get_or (splitn 1 l) 0 [])))
  where
    name : List ℕ
    name = trim (get_or (splitn 1 l) 1 [])

    go : (o : Option ℕ) → (need 26 o >>= λ a. given (set_linker h (record { address = a; name = name })))
        ≡ (need 26 (and_then o λ a. some (record { address = a; name = name })) >>= λ q. given (set_linker h q))
    go none = refl
    go (some a) = refl

module _ (t : List ℕ) (at : ℕ) where
  abbrev rows : List (List ℕ)
  rows = (parts_from t at).before

  pub linker-none : rows ≡ [] → refusal_of (parse_linker_group empty_object rows) ≡ 0
  unfolding parse_linker_group
  linker-none e = at_none parse_linker_row linker_in set_linker 26 linker-row linker_columns (group_view t) t empty_object at e

  module _ (a e n : ℕ) (l : RowAt t at a e n) where
    pub linker-header : same_cells (map trim (splitn 1 (part a e t))) linker_columns ≡ false → refusal_of (parse_linker_group empty_object rows) ≡ 26
    unfolding parse_linker_group
    linker-header h = at_header parse_linker_row linker_in set_linker 26 linker-row linker_columns (group_view t) t empty_object at a e n l h

    pub linker-rows : same_cells (map trim (splitn 1 (part a e t))) linker_columns ≡ true
        → refusal_of (need 26 (read_from linker_in (group_view t) n)) ≡ refusal_of (parse_linker_group empty_object rows)
    unfolding parse_linker_group
    linker-rows h = at_rows_lem parse_linker_row linker_in set_linker 26 linker-row linker_columns (group_view t) t empty_object at a e n l h

-- what a row says
module _ (l : List ℕ) where
  pub linker-bad : none ≡ hex2u16 (trim (get_or (splitn 1 l) 0 [])) → linker_in l ≡ none
  unfolding linker_in
  linker-bad e = rw (← e)

  pub linker_some : (a s e : ℕ) → some a ≡ hex2u16 (trim (get_or (splitn 1 l) 0 [])) → part s e l ≡ trim (get_or (splitn 1 l) 1 []) → linker_in l ≡ some (linker_of l a s e)
  unfolding linker_in
  linker_some a s e f h = rw (← f, h)

-- a row of the group that reads, its name placed in the text
pub linker-inside : (t : List ℕ) (at a e n : ℕ) → RowAt t at a e n → (r : LinkerRow) → LinkerIs (part a e t) (Some r)
    → NextLinker t at (Ok (Some (record { address = r.address; start = a + r.start; end = a + r.end }, n)))
linker-inside t at a e n l r i =
    let h : r.end ≤ e - a = omega (arith, i.1, length_part a e t l.ordered l.inside) in
    let k : e ≤ length t = l.inside in (
      omega (arith, i.0),
      omega (arith, l.ordered),
      read-on linker_in (group_view t) t at a e n l _
          (i.2 ∙ ap (λ (p : List ℕ). some (record { address = r.address; name = p })) (sym (part-inside t a e r.start r.end i.0 h))),
    )
