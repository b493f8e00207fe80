-- Spaces to the front. Assumes nothing.
use mathlib.Core.Path.{◌≡◌, sym, ap, ◌∙◌}
use mathlib.Core.List.{List, ◌++◌}
use Prim.Native.Nat.{ℕ, ◌≤◌}
use native.Mathlib.Omega.{arith}
use lib.ListN.{length, drop}
use lib.Seq.{length-take-le}
use Rattle.format.specs.TextWriter.{spaces}
use Rattle.writing.proofs.WriteLaws.{too_short, filled-fits, written-fits}
use Rattle.text_numerals.proofs.DigitLaws.{spaces-length}
use Rattle.text_numerals.proofs.put_spaces.Goals as goal

pub returns-then-out-n : goal.returns-then-out-n
returns-then-out-n c = too_short _ _ _ (spaces-length _) c.if-out-n.true

pub returns : goal.returns
returns c =
    let n = c.args.n in
    let room = c.args.out.now in
    let l = spaces-length n in
    let h : length (spaces n) ≤ length room = omega (arith, l, c.if-out-n.false) in
    let e : c.fill.new.self ≡ spaces n = c.fill.ensures.after (λ y k. k) ∙ ap spaces (length-take-le n room c.if-out-n.false) in (
      sym l ∙ sym (filled-fits (spaces n) room h),
      ap (λ (x : List ℕ). x ++ drop n room) e ∙ ap (λ (k : ℕ). spaces n ++ drop k room) (sym l) ∙ sym (written-fits (spaces n) room h),
    )
