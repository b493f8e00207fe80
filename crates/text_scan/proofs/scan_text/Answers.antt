-- 20, and then the file trimmed. Assumes nothing.
use native.Mathlib.Omega.{arith}
use mathlib.Core.Path.{refl, sym, ◌∙◌, subst}
use lib.ListN.{take}
use lib.Seq.{length-take-le}
use Rattle.format.specs.Basics.{Outcome}
use Rattle.format.specs.ObjectFile.{ObjectFile}
use Rattle.format.specs.TextReader.{text_object}
use Rattle.text_scan.specs.Scan.{scan_view, Scans}
use Rattle.text_scan.proofs.ScanLaws.{scan_bytes, scan_file, scans_no, scans_end}
use Rattle.text_scan.proofs.scan_text.Goals as goal

pub returns-then-not-is_utf8 : goal.returns-then-not-is_utf8
returns-then-not-is_utf8 c = scans_no _ _ 20 _ (scan_bytes _ (sym c.is_utf8.ensures ∙ c.if-not-is_utf8.true)) (omega arith) refl

pub slice_bounds-scan_trimmed-end : goal.slice_bounds-scan_trimmed-end
slice_bounds-scan_trimmed-end c = sym (length-take-le _ _ c.trim-c.ensures.1.inside)

pub returns : goal.returns
returns c =
    let r = scan_view c.scan_trimmed.result in
    let file = scan_file c.args.s.now c.trim-c.result.start c.trim-c.result.end (sym c.is_utf8.ensures ∙ c.if-not-is_utf8.false) c.trim-c.ensures.1 in
    scans_end c.args.s.now c.trim-c.result.end (text_object c.args.s.now) r c.trim-c.ensures.1.inside
    (subst (λ (o : Outcome ObjectFile). Scans (take c.trim-c.result.end c.args.s.now) o r) (sym file) c.scan_trimmed.ensures)
