-- The label table at places: what the views' laws leave to a table.
-- Assumes nothing.
use mathlib.Core.Path.{◌≡◌, refl, sym, ap, ◌∙◌}
use mathlib.Core.Bool.{true, false}
use mathlib.Core.List.{List, [], map}
use mathlib.Core.Option.{Option, none, some}
use Prim.Native.Nat.{ℕ, ◌+◌, ◌-◌, ◌≤◌}
use native.Mathlib.Omega.{arith}
use lib.ListN.{length, get_or}
use Rattle.std.specs.Prelude.{Some, Ok}
use Rattle.format.specs.Basics.{given, ◌>>=◌, need, and_then}
use Rattle.format.specs.Utf8.{trim}
use Rattle.format.specs.TextReader.{splitn, parse_decimal, parse_number, same_cells, parse_label_row, parse_label_table}
use Rattle.format.specs.ObjectFile.{ObjectFile}
use Rattle.format.specs.Records.{empty_object}
use Rattle.trim.specs.Span.{part}
use Rattle.text_lines.specs.Views.{StepAt}
use Rattle.text_tables.specs.Reads.{read_from}
use Rattle.format.specs.Calls.{refusal_of}
use Rattle.text_tables.specs.Debug.{label_view}
use Rattle.text_tables.specs.Labels.{label_columns, label_in, set_label, LabelIs, NextLabel}
use Rattle.text_tables.specs.declared.LabelRow.{LabelRow}
use Rattle.text_lines.proofs.LineLaws.{length_part, part-inside}
use Rattle.text_tables.proofs.ReadLaws.{at_none, at_header, at_rows_lem, read-on}

pub label-row : (h : ObjectFile) (l : List ℕ) → parse_label_row h l ≡ (need 26 (label_in l) >>= λ s. given (set_label h s))
unfolding parse_label_row label_in set_label
label-row h l = go (parse_decimal 18446744073709551616 (trim (get_or (splitn 1 l) 1 [])))
  where
    name : List ℕ
    name = trim (get_or (splitn 1 l) 0 [])

    go : (o : Option ℕ) → (need 26 o >>= λ i. given (set_label h (record { name = name; start = i }))) ≡ (need 26 (and_then o λ i. some (record { name = name; start = i })) >>= λ s. given (set_label h s))
    go none = refl
    go (some i) = refl

module _ (l : List ℕ) where
  pub label-bad : none ≡ parse_number 10 18446744073709551616 (trim (get_or (splitn 1 l) 1 [])) → label_in l ≡ none
  unfolding label_in
  label-bad e = rw (← e)

  pub label_some : (i s e : ℕ) → some i ≡ parse_number 10 18446744073709551616 (trim (get_or (splitn 1 l) 1 [])) → part s e l ≡ trim (get_or (splitn 1 l) 0 []) → label_in l ≡ some (record { name = part s e l; start = i })
  unfolding label_in
  label_some i s e f h = rw (← f, h)

module _ (t : List ℕ) (at : ℕ) where
  pub labels-none : (label_view t at).0 ≡ [] → 0 ≡ refusal_of (parse_label_table empty_object (label_view t at).0)
  unfolding parse_label_table
  labels-none e = sym (at_none parse_label_row label_in set_label 26 label-row label_columns (label_view t) t empty_object at e)

  module _ (a e n : ℕ) (l : StepAt (label_view t) t at a e n) where
    pub labels_no : same_cells (map trim (splitn 1 (part a e t))) label_columns ≡ false → 26 ≡ refusal_of (parse_label_table empty_object (label_view t at).0)
    unfolding parse_label_table
    labels_no h = sym (at_header parse_label_row label_in set_label 26 label-row label_columns (label_view t) t empty_object at a e n l h)

    pub labels-yes : same_cells (map trim (splitn 1 (part a e t))) label_columns ≡ true
        → refusal_of (need 26 (read_from label_in (label_view t) n)) ≡ refusal_of (parse_label_table empty_object (label_view t at).0)
    unfolding parse_label_table
    labels-yes h = at_rows_lem parse_label_row label_in set_label 26 label-row label_columns (label_view t) t empty_object at a e n l h

    pub label_inside : (r : LabelRow) → LabelIs (part a e t) (Some r)
        → NextLabel t at (Ok (Some (record { start = a + r.start; end = a + r.end; index = r.index }, n)))
    label_inside r q =
        let h : r.end ≤ e - a = omega (arith, q.1, length_part a e t l.ordered l.inside) in
        let k : e ≤ length t = l.inside in (
          omega (arith, q.0),
          omega (arith, l.ordered),
          read-on label_in (label_view t) t at a e n l _
              (q.2 ∙ ap (λ (p : List ℕ). some (record { name = p; start = r.index })) (sym (part-inside t a e r.start r.end q.0 h))),
        )
