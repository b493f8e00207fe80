-- Groups and tables from a place on. At each layer stands one notion of what is left from a place, and a step says how it begins:
-- the kept lines, the lines left of the group with the groups after it, and the parsed rows left of a table.
-- Assumes nothing.
use Rattle.std.specs.Prelude as std
use Rattle.std.specs.Prelude.{Some, None, Result, Ok, Err, ◌≡◌, Bool, not, List, [], ◌∷◌, ℕ, ◌≤◌, length, get_or, eqb}
use Rattle.std.proofs.Math.Option.{Option, none, some}
use Rattle.format.specs.Basics.{and_then, ascii}
use Rattle.format.specs.Utf8.{trim}
use Rattle.format.specs.TextReader.{splitn, hex2u16, parse_decimal, parse_symbol_group}
use Rattle.format.specs.ObjectFile.{ObjectFile}
use Rattle.format.specs.Records.{empty_object, put_record, label, label_named}
use Rattle.format.specs.Calls.{refusal_of}
use Rattle.text_tables.specs.declared.SymbolRow.{SymbolRow}
use Rattle.units.specs.declared.refusal.Refusal.{Refusal}
use Rattle.units.specs.Refusal.{number_of}
use Rattle.trim.specs.Span.{part}
use Rattle.text_tables.specs.Reads.{read_from, ReadAt}
use Rattle.text_lines.specs.Groups.{parts_from, group_view}

-- a row of .SYMBOL
pub record Sym : Type 0 where
  pub address : ℕ
  pub external : Bool
  pub name : List ℕ

-- what its line says
unfoldable pub symbol_in : List ℕ → Option Sym
symbol_in l =
    and_then (hex2u16 (trim (get_or (splitn 2 l) 0 []))) λ a.
    and_then (parse_decimal 256 (trim (get_or (splitn 2 l) 1 []))) λ e.
    some (record { address = a; external = not (eqb e 0); name = trim (get_or (splitn 2 l) 2 []) })

-- and what it does to the object
unfoldable pub set_symbol : ObjectFile → Sym → ObjectFile
set_symbol h s =
    let old = label_named s.name h.labels in
    put_record h (label (record { name = s.name; address = s.address; external = s.external; start = old.start }))

-- the rows left of the table
abbrev pub symbols_from : List ℕ → ℕ → Option (List Sym)
symbols_from t at = read_from symbol_in (group_view t) at

abbrev pub sym_of : List ℕ → ℕ → Bool → ℕ → ℕ → Sym
sym_of t a x s e = record { address = a; external = x; name = part s e t }

abbrev pub SymIs : List ℕ → std.Option SymbolRow → Type 0
SymIs l (Some r) = (r.start ≤ r.end) × (r.end ≤ length l) × (symbol_in l ≡ some (sym_of l r.address r.external r.start r.end))
SymIs l None = symbol_in l ≡ none

abbrev pub NextSymbol : List ℕ → ℕ → Result (std.Option (SymbolRow × ℕ)) Refusal → Type 0
NextSymbol t at (Ok (Some p)) =
    (p.0.start ≤ p.0.end) × (p.0.end ≤ length t)
    × ReadAt symbol_in (group_view t) t at (sym_of t p.0.address p.0.external p.0.start p.0.end) p.1
NextSymbol t at (Ok None) = (parts_from t at).before ≡ []
NextSymbol t at (Err r) = (number_of r ≡ 26) × (symbols_from t at ≡ none)

-- the place that is handed back, and the one given where nothing is
abbrev pub place_or : ℕ → Result ℕ Refusal → ℕ
place_or at (Ok next) = next
place_or at (Err r) = at

-- what a check of a group's lines hands back: the number, and where the next group starts
pub record Checked (t : List ℕ) (at : ℕ) (code number next : ℕ) : Type 0 where
  pub same : number ≡ code
  pub from : at ≤ next
  pub after : number ≡ 0 → parts_from t next ≡ record { before = []; groups = (parts_from t at).groups }

-- .SYMBOL's lines, checked
abbrev pub SymbolsChecked : List ℕ → ℕ → ℕ → ℕ → Type 0
SymbolsChecked t at number next = Checked t at (refusal_of (parse_symbol_group empty_object (parts_from t at).before)) number next

abbrev pub symbol_columns : List (List ℕ)
symbol_columns = ascii "ADDR" ∷ ascii "EXT" ∷ ascii "LABEL" ∷ []
