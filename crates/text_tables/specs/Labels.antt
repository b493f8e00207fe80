-- .DEBUG's label table from a place on.
-- Assumes nothing.
use Rattle.std.specs.Prelude as std
use Rattle.std.specs.Prelude.{Some, None, Result, Ok, Err, ◌≡◌, List, [], ◌∷◌, ℕ, ◌≤◌, length, get_or}
use Rattle.std.proofs.Math.Option.{Option, none, some}
use Rattle.format.specs.Basics.{and_then, ascii}
use Rattle.format.specs.Utf8.{trim}
use Rattle.format.specs.TextReader.{splitn, parse_decimal, parse_label_table}
use Rattle.format.specs.Calls.{refusal_of}
use Rattle.format.specs.ObjectFile.{ObjectFile}
use Rattle.format.specs.Records.{empty_object, put_record, label, label_named}
use Rattle.text_tables.specs.declared.LabelRow.{LabelRow}
use Rattle.units.specs.declared.refusal.Refusal.{Refusal}
use Rattle.units.specs.Refusal.{number_of}
use Rattle.trim.specs.Span.{part}
use Rattle.text_tables.specs.Reads.{read_from, ReadAt}
use Rattle.text_tables.specs.Debug.{label_view}

pub record Named : Type 0 where
  pub name : List ℕ
  pub start : ℕ

abbrev pub label_columns : List (List ℕ)
label_columns = ascii "LABEL" ∷ ascii "INDEX" ∷ []

-- what a row says, and what it does to the object
unfoldable pub label_in : List ℕ → Option Named
label_in l =
    and_then (parse_decimal 18446744073709551616 (trim (get_or (splitn 1 l) 1 []))) λ i.
    some (record { name = trim (get_or (splitn 1 l) 0 []); start = i })

unfoldable pub set_label : ObjectFile → Named → ObjectFile
set_label h s =
    let old = label_named s.name h.labels in
    put_record h (label (record { name = s.name; address = old.address; external = old.external; start = s.start }))

abbrev pub LabelIs : List ℕ → std.Option LabelRow → Type 0
LabelIs l (Some r) = (r.start ≤ r.end) × (r.end ≤ length l) × (label_in l ≡ some (record { name = part r.start r.end l; start = r.index }))
LabelIs l None = label_in l ≡ none

-- the label table, checked: its number, and a place of the same group, from which the same line is its first =
pub record LabelsChecked (t : List ℕ) (at number next : ℕ) : Type 0 where
  pub same : number ≡ refusal_of (parse_label_table empty_object (label_view t at).0)
  pub from : at ≤ next
  pub after : (label_view t next).1 ≡ (label_view t at).1

abbrev pub NextLabel : List ℕ → ℕ → Result (std.Option (LabelRow × ℕ)) Refusal → Type 0
NextLabel t at (Ok (Some p)) =
    (p.0.start ≤ p.0.end) × (p.0.end ≤ length t)
    × ReadAt label_in (label_view t) t at (record { name = part p.0.start p.0.end t; start = p.0.index }) p.1
NextLabel t at (Ok None) = (label_view t at).0 ≡ []
NextLabel t at (Err r) = (number_of r ≡ 26) × (read_from label_in (label_view t) at ≡ none)
