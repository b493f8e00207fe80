use native.Mathlib.Omega.{arith}
use mathlib.Core.Path.{◌≡◌, refl, sym, ap, ap₂, ◌∙◌}
use mathlib.Core.Bool.{Bool}
use mathlib.Core.List.{List}
use Prim.Native.Nat.{ℕ, ◌+◌, ◌-◌, ◌<◌, ◌^◌}
use lib.ListN.{length, take, drop}
use Rattle.format.specs.Utf8.{trim}
use Rattle.text_lines.proofs.LineLaws.{to_end}
use Rattle.text_read.specs.Parts.{rest_words}
use Rattle.std.specs.Prelude.{Ok}
use Rattle.text_scan.specs.Scan.{scan_view}
use Rattle.text_read.proofs.FileLaws.{lent_small, lent_length, lent_few, lent_given}
use Rattle.text_read.proofs.length_scanned.Goals as goal
use Rattle.text_read.proofs.length_scanned.Goals.{After-trim-w}

abbrev bytes : After-trim-w → List ℕ
bytes c = c.args.s.now

short : (c : After-trim-w) → length (bytes c) < 2 ^ 63
short c = let h = c.shared_slice_known-1.given in omega arith

trimmed_is : (c : After-trim-w) → let w = c.trim-w.result in trim (bytes c) ≡ take (w.end - w.start) (drop w.start (bytes c))
trimmed_is c = ap trim (sym (to_end (bytes c) 0)) ∙ sym c.trim-w.ensures.1.same

pub fixed_words-fixed-requires : goal.fixed_words-fixed-requires
fixed_words-fixed-requires c =
    (lent_small (bytes (goal.at.fixed_words-fixed-requires c).After-trim-w) (scan_view (Ok c.args.scanned)) c.requires refl (short (goal.at.fixed_words-fixed-requires c).After-trim-w), lent_length (bytes (goal.at.fixed_words-fixed-requires c).After-trim-w) (scan_view (Ok c.args.scanned)) c.requires refl (short (goal.at.fixed_words-fixed-requires c).After-trim-w))

abbrev trimmed : After-trim-w → List ℕ
trimmed c = let w = c.trim-w.result in take (w.end - w.start) (drop w.start (bytes c))

pub object_length-requires : goal.object_length-requires
object_length-requires c =
    let w = (goal.at.object_length-requires c).After-trim-w in
    rw (c.fixed_words-fixed.ensures, c.is_some.ensures) (lent_few (bytes w) (scan_view (Ok c.args.scanned)) c.requires refl (short w) _ (trimmed_is w))

pub returns : goal.returns
returns c =
    let w = (goal.at.returns c).After-trim-w in
    lent_given (bytes w) (scan_view (Ok c.args.scanned)) c.requires refl (short w) _ (trimmed_is w) _
    (c.object_length.ensures ∙ ap₂ (λ (n : ℕ) (b : Bool). n + rest_words (trimmed w) b) c.fixed_words-fixed.ensures c.is_some.ensures)

pub slice_bounds-object_length-count : goal.slice_bounds-object_length-count
slice_bounds-object_length-count c = c.trim-w.ensures.1.ordered

pub slice_bounds-object_length-start : goal.slice_bounds-object_length-start
slice_bounds-object_length-start c = c.trim-w.ensures.1.ordered

pub slice_bounds-object_length-end : goal.slice_bounds-object_length-end
slice_bounds-object_length-end c = c.trim-w.ensures.1.inside
