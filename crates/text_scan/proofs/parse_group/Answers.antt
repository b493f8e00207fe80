-- By its kind. Assumes nothing.
use mathlib.Core.Path.{◌≡◌, ap, ◌∙◌}
use native.Mathlib.Omega.{arith}
use Rattle.std.specs.Prelude.{Ok, Err}
use Rattle.std.proofs.lemmas.Result.{err_from_is_err_and}
use Rattle.units.specs.declared.refusal.Refusal.{Refusal}
use Rattle.units.specs.Refusal.{number_of}
use Rattle.units.proofs.RefusalLaws.{number_of-above}
use Rattle.text_lines.specs.Groups.{number_of_kind}
use Rattle.text_blocks.specs.Blocks.{text_view}
use Rattle.text_scan.specs.Walk.{walk_view}
use Rattle.text_scan.proofs.WalkLaws.{group_debug, group_lines, group_no, lines-text, lines-symbol, lines-linker, lines_unknown}
use Rattle.text_scan.proofs.parse_group.Goals as goal

some : (r : Refusal) → number_of r ≡ 0 → ⊥
some r z = omega (arith, z, number_of-above r)

pub returns-in_ok-text-in-Text : goal.returns-in_ok-text-in-Text
returns-in_ok-text-in-Text c =
    let a = c.args in
    group_lines _ _ _ _ _ _ _ _ _ (text_view a.at (Ok c.in_ok-text-in-Text.text))
    (lines-text _ _ _ _ _ _ (text_view a.at (Ok c.in_ok-text-in-Text.text)) (ap number_of_kind c.in-Text.is) c.requires c.in_ok-text-in-Text.ensures)

pub returns-in_err-text-in-Text : goal.returns-in_err-text-in-Text
returns-in_err-text-in-Text c =
    let a = c.args in
    let w = err_from_is_err_and c.from_residual.result c.from_residual.ensures.1 in
    let r = c.in_err-text-in-Text.field-0.0 in
    rw (w.1 ∙ ap Err w.2)
    (group_no a.t.now _ a.at _ _ _ a.w.words a.seen.now _ (text_view a.at (Err r))
    (lines-text _ _ _ _ _ _ (text_view a.at (Err r)) (ap number_of_kind c.in-Text.is) c.requires c.in_err-text-in-Text.ensures) (some r))

pub returns-in-Debug : goal.returns-in-Debug
returns-in-Debug c =
    let a = c.args in
    group_debug _ _ _ _ _ _ _ _ (walk_view a.at a.w.words c.parse_debug_group.result) (ap number_of_kind c.in-Debug.is) c.parse_debug_group.ensures

pub returns-in-Unknown : goal.returns-in-Unknown
returns-in-Unknown c =
    let k = ap number_of_kind c.in-Unknown.is in
    group_no _ _ _ _ _ _ _ _ _ _
    (lines_unknown _ _ _ _ _ (λ z. omega (arith, k, z)) (λ z. omega (arith, k, z)) (λ z. omega (arith, k, z)) (λ z. omega (arith, k, z)))
    (λ z. omega (arith, z))

pub returns-in_ok-next-in-Symbols : goal.returns-in_ok-next-in-Symbols
returns-in_ok-next-in-Symbols c =
    group_lines _ _ _ _ _ _ _ _ _ _ (lines-symbol _ _ _ _ _ 0 c.in_ok-next-in-Symbols.next (ap number_of_kind c.in-Symbols.is) c.in_ok-next-in-Symbols.ensures)

pub returns-in_err-next-in-Symbols : goal.returns-in_err-next-in-Symbols
returns-in_err-next-in-Symbols c =
    let a = c.args in
    let w = err_from_is_err_and c.from_residual-in_err-next-in-Symbols.result c.from_residual-in_err-next-in-Symbols.ensures.1 in
    let r = c.in_err-next-in-Symbols.field-0.0 in
    rw (w.1 ∙ ap Err w.2)
    (group_no a.t.now _ a.at _ _ _ a.w.words a.seen.now _ _
    (lines-symbol _ _ _ _ _ (number_of r) a.at (ap number_of_kind c.in-Symbols.is) c.in_err-next-in-Symbols.ensures) (some r))

pub returns-in_ok-next-in-Linker : goal.returns-in_ok-next-in-Linker
returns-in_ok-next-in-Linker c =
    group_lines _ _ _ _ _ _ _ _ _ _ (lines-linker _ _ _ _ _ 0 c.in_ok-next-in-Linker.next (ap number_of_kind c.in-Linker.is) c.in_ok-next-in-Linker.ensures)

pub returns-in_err-next-in-Linker : goal.returns-in_err-next-in-Linker
returns-in_err-next-in-Linker c =
    let a = c.args in
    let w = err_from_is_err_and c.from_residual-in_err-next-in-Linker.result c.from_residual-in_err-next-in-Linker.ensures.1 in
    let r = c.in_err-next-in-Linker.field-0.0 in
    rw (w.1 ∙ ap Err w.2)
    (group_no a.t.now _ a.at _ _ _ a.w.words a.seen.now _ _
    (lines-linker _ _ _ _ _ (number_of r) a.at (ap number_of_kind c.in-Linker.is) c.in_err-next-in-Linker.ensures) (some r))
