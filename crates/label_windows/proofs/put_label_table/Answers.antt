-- The header, and the rows. Assumes nothing.
use native.Mathlib.Omega.{arith}
use mathlib.Core.Path.{◌≡◌, refl, sym, subst}
use mathlib.Core.List.{List, [], ◌∷◌}
use Prim.Native.Nat.{ℕ, ◌-◌}
use lib.ListN.{length}
use Rattle.format.specs.TextWriter.{text_line, label_header}
use Rattle.writing.specs.Written.{Put}
use Rattle.writing.proofs.Parts.{Emits, rest, after, emitted, within, small}
use Rattle.measuring.specs.Fitting.{fitting}
use Rattle.measuring.proofs.FittingLaws.{fill-first, fill-last}
use Rattle.label_order.specs.Labels.{label_places}
use Rattle.label_order.proofs.PlaceLaws.{found-next, found_none}
use Rattle.label_tables.specs.Rows.{label_line}
use Rattle.label_tables.specs.Tables.{by_start}
use Rattle.label_tables.proofs.FrameLaws.{put-nothing}
use Rattle.label_windows.proofs.FitLaws.{table_parts, fits-none, fits_some, parts_fit}
use Rattle.label_windows.specs.Fits.{table_fitting}
use Rattle.label_windows.proofs.put_label_table.Goals as goal

module _ (ws room : List ℕ) (names indices : ℕ) where
  abbrev header : List ℕ
  header = label_header names indices

  abbrev line : ℕ → List ℕ
  line = label_line names indices ws

  abbrev whole : List ℕ
  whole = table_parts header line (label_places ws) (by_start ws) (length room)

  -- past the header
  emits1 : (r : ℕ) (out : List ℕ) → Put (text_line header) room r out
      → Emits whole room (fitting line (length room - r) (by_start ws)) (record { at = r; out = out })
  emits1 r out p =
      fill-first (text_line header) room (λ n. fitting line n (by_start ws))
      (parts_fit header line (label_places ws) (by_start ws) (length room)) p

  -- and the rows
  emits2 : (r n : ℕ) (out ys : List ℕ) (e : Emits whole room (fitting line (length room - r) (by_start ws)) (record { at = r; out = out }))
      → Put (fitting line (length (rest (record { at = r; out = out }))) (by_start ws)) (rest (record { at = r; out = out })) n ys
      → Emits whole room [] (after (record { at = r; out = out }) n ys)
  emits2 r n out ys e p = fill-last line (by_start ws) e ys n refl p

  -- there are labels
  has_rows : (p : ℕ) (qs : List ℕ) (r : ℕ) (out : List ℕ) → label_places ws ≡ p ∷ qs → Put whole room r out
      → Put (table_fitting header line (label_places ws) (by_start ws) (length room)) room r out
  has_rows p qs r out e w =
      subst (λ l. Put l room r out) (sym (fits_some header line (label_places ws) (by_start ws) (length room) p qs e)) w

pub returns-in_default : goal.returns-in_default
unfolding label_places
returns-in_default c =
    let e = found_none c.args.ws.now 0 c.next_label.result c.next_label.ensures.0 c.in_default.is in
    subst (λ l. Put l c.args.out.now 0 c.args.out.now)
    (sym (fits-none (header c.args.ws.now c.args.out.now c.args.widths.names c.args.widths.indices) (line c.args.ws.now c.args.out.now c.args.widths.names c.args.widths.indices) (label_places c.args.ws.now) (by_start c.args.ws.now) (length c.args.out.now) e))
    (put-nothing c.args.out.now)

pub slice_bounds-put_all-count : goal.slice_bounds-put_all-count
slice_bounds-put_all-count c = within (emits1 c.args.ws.now c.args.out.now c.args.widths.names c.args.widths.indices c.put_label_header-at.result c.put_label_header-at.new.out c.put_label_header-at.ensures)

pub slice_bounds-put_all-start : goal.slice_bounds-put_all-start
slice_bounds-put_all-start c = within (emits1 c.args.ws.now c.args.out.now c.args.widths.names c.args.widths.indices c.put_label_header-at.result c.put_label_header-at.new.out c.put_label_header-at.ensures)

pub overflow_add-result : goal.overflow_add-result
overflow_add-result c =
    small (emits2 c.args.ws.now c.args.out.now c.args.widths.names c.args.widths.indices c.put_label_header-at.result c.put_all.result c.put_label_header-at.new.out c.put_all.new.out (emits1 c.args.ws.now c.args.out.now c.args.widths.names c.args.widths.indices c.put_label_header-at.result c.put_label_header-at.new.out c.put_label_header-at.ensures) c.put_all.ensures)
    (omega arith)

pub returns : goal.returns
unfolding label_places
returns c =
    let e = found-next c.args.ws.now 0 c.next_label.result c.next_label.ensures.0 c.in-Some.field-0.0 c.in-Some.field-0.1 c.in-Some.is in
    has_rows c.args.ws.now c.args.out.now c.args.widths.names c.args.widths.indices _ _ _ _ e
    (emitted (emits2 c.args.ws.now c.args.out.now c.args.widths.names c.args.widths.indices c.put_label_header-at.result c.put_all.result c.put_label_header-at.new.out c.put_all.new.out (emits1 c.args.ws.now c.args.out.now c.args.widths.names c.args.widths.indices c.put_label_header-at.result c.put_label_header-at.new.out c.put_label_header-at.ensures) c.put_all.ensures) refl)
