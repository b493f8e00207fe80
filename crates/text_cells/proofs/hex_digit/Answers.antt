-- The table's values are the digits' values. Assumes nothing.
use native.Mathlib.Omega.{arith}
use mathlib.Core.Path.{refl}
use Rattle.text_cells.specs.Cells.{digit_or16}
use Rattle.text_cells.proofs.TableLaws.{one, two, no_digit}
use Rattle.text_cells.proofs.hex_digit.Goals as goal

pub returns-in-48 : goal.returns-in-48
unfolding digit_or16
returns-in-48 c = one 48 _ c.in-48.is (omega arith)

pub returns-in-49 : goal.returns-in-49
unfolding digit_or16
returns-in-49 c = one 49 _ c.in-49.is (omega arith)

pub returns-in-50 : goal.returns-in-50
unfolding digit_or16
returns-in-50 c = one 50 _ c.in-50.is (omega arith)

pub returns-in-51 : goal.returns-in-51
unfolding digit_or16
returns-in-51 c = one 51 _ c.in-51.is (omega arith)

pub returns-in-52 : goal.returns-in-52
unfolding digit_or16
returns-in-52 c = one 52 _ c.in-52.is (omega arith)

pub returns-in-53 : goal.returns-in-53
unfolding digit_or16
returns-in-53 c = one 53 _ c.in-53.is (omega arith)

pub returns-in-54 : goal.returns-in-54
unfolding digit_or16
returns-in-54 c = one 54 _ c.in-54.is (omega arith)

pub returns-in-55 : goal.returns-in-55
unfolding digit_or16
returns-in-55 c = one 55 _ c.in-55.is (omega arith)

pub returns-in-56 : goal.returns-in-56
unfolding digit_or16
returns-in-56 c = one 56 _ c.in-56.is (omega arith)

pub returns-in-57 : goal.returns-in-57
unfolding digit_or16
returns-in-57 c = one 57 _ c.in-57.is (omega arith)

pub returns-in-65 : goal.returns-in-65
unfolding digit_or16
returns-in-65 c = two 65 97 _ c.in-65.is refl (omega arith)

pub returns-in-66 : goal.returns-in-66
unfolding digit_or16
returns-in-66 c = two 66 98 _ c.in-66.is refl (omega arith)

pub returns-in-67 : goal.returns-in-67
unfolding digit_or16
returns-in-67 c = two 67 99 _ c.in-67.is refl (omega arith)

pub returns-in-68 : goal.returns-in-68
unfolding digit_or16
returns-in-68 c = two 68 100 _ c.in-68.is refl (omega arith)

pub returns-in-69 : goal.returns-in-69
unfolding digit_or16
returns-in-69 c = two 69 101 _ c.in-69.is refl (omega arith)

pub returns-in-70 : goal.returns-in-70
unfolding digit_or16
returns-in-70 c = two 70 102 _ c.in-70.is refl (omega arith)

pub returns-in_default : goal.returns-in_default
returns-in_default c =
    let r = c.in_default.in_default-own.rest in
    (no_digit _ r.0.0.0.0.0.0.0.0.0.0.0.0.0.0.0.1 r.0.0.0.0.0.0.0.0.0.0.0.0.0.0.1 r.0.0.0.0.0.0.0.0.0.0.0.0.0.1 r.0.0.0.0.0.0.0.0.0.0.0.0.1 r.0.0.0.0.0.0.0.0.0.0.0.1 r.0.0.0.0.0.0.0.0.0.0.1 r.0.0.0.0.0.0.0.0.0.1 r.0.0.0.0.0.0.0.0.1 r.0.0.0.0.0.0.0.1 r.0.0.0.0.0.0.1 r.0.0.0.0.0.1 r.0.0.0.0.1 r.0.0.0.1 r.0.0.1 r.0.1 r.1, omega arith)
