use native.Mathlib.Omega.{arith}
use mathlib.Core.Path.{◌≡◌, refl, sym, ap, ◌∙◌}
use mathlib.Core.List.{List}
use Prim.Native.Nat.{ℕ, ◌-◌, ◌<◌, ◌^◌}
use lib.ListN.{length, take, drop}
use Rattle.format.specs.Utf8.{trim}
use Rattle.text_lines.proofs.LineLaws.{to_end}
use Rattle.std.specs.Prelude.{Ok}
use Rattle.text_scan.specs.Scan.{scan_view}
use Rattle.text_read.proofs.FileLaws.{lent_small, lent_length, lent_inside, lent_unescapes, lent_fixed, lent_fill}
use Rattle.text_read.proofs.read_scanned.Goals as goal
use Rattle.text_read.proofs.read_scanned.Goals.{After-trim-w}

abbrev bytes : After-trim-w → List ℕ
bytes c = c.args.s.now

short : (c : After-trim-w) → length (bytes c) < 2 ^ 63
short c = let h = c.shared_slice_known-1.given in omega arith

trimmed_is : (c : After-trim-w) → let w = c.trim-w.result in trim (bytes c) ≡ take (w.end - w.start) (drop w.start (bytes c))
trimmed_is c = ap trim (sym (to_end (bytes c) 0)) ∙ sym c.trim-w.ensures.1.same

pub fixed_words-fixed-requires : goal.fixed_words-fixed-requires
fixed_words-fixed-requires c =
    (lent_small (bytes (goal.at.fixed_words-fixed-requires c).After-trim-w) (scan_view (Ok c.args.scanned)) c.requires refl (short (goal.at.fixed_words-fixed-requires c).After-trim-w), lent_length (bytes (goal.at.fixed_words-fixed-requires c).After-trim-w) (scan_view (Ok c.args.scanned)) c.requires refl (short (goal.at.fixed_words-fixed-requires c).After-trim-w))

pub fill_object-requires : goal.fill_object-requires
fill_object-requires c =
    (lent_unescapes (bytes (goal.at.fill_object-requires c).After-trim-w) (scan_view (Ok c.args.scanned)) c.requires refl, c.fixed_words-fixed.ensures ∙ lent_fixed (bytes (goal.at.fill_object-requires c).After-trim-w) (scan_view (Ok c.args.scanned)) c.requires refl (short (goal.at.fill_object-requires c).After-trim-w) _ (trimmed_is (goal.at.fill_object-requires c).After-trim-w))

pub returns : goal.returns
returns c =
    c.fill_object.ensures ∙ lent_fill (bytes (goal.at.returns c).After-trim-w) (scan_view (Ok c.args.scanned)) c.requires refl _ (trimmed_is (goal.at.returns c).After-trim-w) _

pub slice_bounds-fill_object-count : goal.slice_bounds-fill_object-count
slice_bounds-fill_object-count c = c.trim-w.ensures.1.ordered

pub slice_bounds-fill_object-start : goal.slice_bounds-fill_object-start
slice_bounds-fill_object-start c = c.trim-w.ensures.1.ordered

pub slice_bounds-fill_object-end : goal.slice_bounds-fill_object-end
slice_bounds-fill_object-end c = c.trim-w.ensures.1.inside

pub slice_bounds-fill_object-end-2 : goal.slice_bounds-fill_object-end-2
slice_bounds-fill_object-end-2 c = lent_inside (bytes (goal.at.slice_bounds-fill_object-end-2 c).After-trim-w) (scan_view (Ok c.args.scanned)) c.requires refl
