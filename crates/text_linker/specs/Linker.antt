-- .LINKER_INFO's table from a place on.
-- Assumes nothing.
use Rattle.std.specs.Prelude as std
use Rattle.std.specs.Prelude.{Some, None, Result, Ok, Err, ◌≡◌, List, [], ◌∷◌, ℕ, ◌≤◌, length, get_or}
use Rattle.std.proofs.Math.Option.{Option, none, some}
use Rattle.format.specs.Basics.{and_then, ascii}
use Rattle.format.specs.Utf8.{trim}
use Rattle.format.specs.TextReader.{splitn, hex2u16, parse_linker_group}
use Rattle.format.specs.ObjectFile.{ObjectFile, Relocation}
use Rattle.format.specs.Records.{empty_object, put_record, relocation}
use Rattle.format.specs.Calls.{refusal_of}
use Rattle.text_tables.specs.Symbols.{Checked}
use Rattle.trim.specs.Span.{part}
use Rattle.text_lines.specs.Groups.{parts_from, group_view}
use Rattle.text_tables.specs.Reads.{read_from, ReadAt}
use Rattle.text_linker.specs.declared.LinkerRow.{LinkerRow}
use Rattle.units.specs.declared.refusal.Refusal.{Refusal}
use Rattle.units.specs.Refusal.{number_of}

abbrev pub linker_columns : List (List ℕ)
linker_columns = ascii "ADDR" ∷ ascii "LABEL" ∷ []

-- what a row says
unfoldable pub linker_in : List ℕ → Option Relocation
linker_in l = and_then (hex2u16 (trim (get_or (splitn 1 l) 0 []))) λ a. some (record { address = a; name = trim (get_or (splitn 1 l) 1 []) })

-- and what it does to the object
unfoldable pub set_linker : ObjectFile → Relocation → ObjectFile
set_linker h q = put_record h (relocation q)

abbrev pub linker_of : List ℕ → ℕ → ℕ → ℕ → Relocation
linker_of t a s e = record { address = a; name = part s e t }

abbrev pub LinkerIs : List ℕ → std.Option LinkerRow → Type 0
LinkerIs l (Some r) = (r.start ≤ r.end) × (r.end ≤ length l) × (linker_in l ≡ some (linker_of l r.address r.start r.end))
LinkerIs l None = linker_in l ≡ none

abbrev pub NextLinker : List ℕ → ℕ → Result (std.Option (LinkerRow × ℕ)) Refusal → Type 0
NextLinker t at (Ok (Some p)) =
    (p.0.start ≤ p.0.end) × (p.0.end ≤ length t) × ReadAt linker_in (group_view t) t at (linker_of t p.0.address p.0.start p.0.end) p.1
NextLinker t at (Ok None) = (parts_from t at).before ≡ []
NextLinker t at (Err r) = (number_of r ≡ 26) × (read_from linker_in (group_view t) at ≡ none)

-- .LINKER_INFO's lines, checked
abbrev pub LinkerChecked : List ℕ → ℕ → ℕ → ℕ → Type 0
LinkerChecked t at number next = Checked t at (refusal_of (parse_linker_group empty_object (parts_from t at).before)) number next
