-- What `char_at` found, and whether that is White_Space. Assumes nothing.
use native.Mathlib.Omega.{arith}
use mathlib.Core.Path.{sym, ap, ◌∙◌}
use lib.ListN.{drop}
use Rattle.utf8.specs.Chars.{char_of}
use Rattle.trim.proofs.TrimLaws.{white_yes, white_small}
use Rattle.trim.proofs.find_white.Goals as goal

pub overflow_add-result : goal.overflow_add-result
overflow_add-result c =
    let args = c.args in
    let bs = drop args.at args.s.now in
    let e = white_yes bs _ _ (sym (ap char_of c.in-Some.is) ∙
    c.char_at.ensures) (sym c.is_white_space.ensures ∙ c.if-is_white_space.true) in
    omega (arith, e, white_small bs)
