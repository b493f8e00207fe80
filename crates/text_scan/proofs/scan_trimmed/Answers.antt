-- The first line, and the groups. Assumes nothing.
use native.Mathlib.Omega.{arith}
use mathlib.Core.Path.{refl, sym, ◌∙◌}
use Rattle.format.specs.Basics.{ascii}
use Rattle.text_scan.specs.Scan.{scan_view}
use Rattle.text_scan.proofs.ScanLaws.{magic-none, magic_no, scan_magic, scans_no}
use Rattle.text_scan.proofs.scan_trimmed.Goals as goal

pub returns-in_default : goal.returns-in_default
returns-in_default c = scans_no _ _ 21 _ (magic-none _ _ c.in_default.ensures) (omega arith) refl

pub returns-then-not-equals : goal.returns-then-not-equals
unfolding ascii
returns-then-not-equals c =
    scans_no _ _ 21 _ (magic_no _ _ _ _ _ c.in-Some.ensures (sym c.equals.ensures ∙ c.if-not-equals.true)) (omega arith) refl

pub returns : goal.returns
unfolding ascii
returns c =
    scan_magic _ _ _ _ _ c.in-Some.ensures (sym c.equals.ensures ∙ c.if-not-equals.false) (scan_view c.scan_groups.result) c.scan_groups.ensures
