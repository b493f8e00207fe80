-- The digits left, after those that gave the value, say what all of them do, while none is bad. Assumes nothing.
use native.Mathlib.Omega.{arith}
use mathlib.Core.Path.{◌≡◌, sym, ap, ◌∙◌}
use Prim.Native.Nat.{ℕ, ◌+◌, ◌*◌, ◌^◌, ◌≤◌, ◌<◌}
use lib.ListN.{length, drop, get_or}
use lib.Dec.{eqb}
use borrow.Author.Tests.{eqb-true, eqb-false}
use Rattle.format.specs.TextReader.{digits_from}
use Rattle.text_lines.proofs.TestLaws.{by_test}
use Rattle.text_cells.specs.Cells.{digit_or16}
use Rattle.text_cells.proofs.NumberLaws.{hex_no, hex_bad, hex_small_on, hex_room-on, hex_four, from_on, from-bad}
use Rattle.text_cells.proofs.hex2u16.Goals as goal
use Rattle.text_cells.proofs.hex2u16.Goals.{Then-bad-lt-FIRST_BAD}

pub loop-b-preserved : goal.loop-b-preserved
loop-b-preserved c =
    let l = c.loop-b in
    let i = l.b-index in
    let s = c.args.s.now in
    let d = c.hex_digit-d.result in
    let q : d ≡ digit_or16 (get_or s i 0) = c.hex_digit-d.ensures.0 in
    let t = c.loop-b-test.true in
    let n : length s ≡ 4 = c.if-s-ne-HEX_DIGITS.false in (
      omega (arith, l.invariant.0, c.hex_digit-d.ensures.1),
      hex_room-on i l.v d l.invariant.1 c.hex_digit-d.ensures.1,
      λ e.
          let z : l.bad ≡ 0 = omega arith in
          let h : d < 16 = omega arith in
          let p = l.invariant.2 z in (
            hex_small_on i l.v d p.0 h,
            ap (λ (x : ℕ). digits_from 16 (l.v * 16 + x) (drop (i + 1) s)) q
                ∙ sym (from_on 16 l.v s i (omega (arith, t)) (omega (arith, q))) ∙ p.1,
          ),
      λ e.
          by_test (eqb l.bad 0)
          (λ z. let h : 16 ≤ d = omega (arith, eqb-true l.bad 0 z) in
          sym (l.invariant.2 (eqb-true l.bad 0 z)).1 ∙ from-bad 16 l.v s i (omega (arith, t)) (omega (arith, q)))
          (λ z. l.invariant.3 (let c = eqb-false l.bad 0 z in omega arith)),
    )

-- no digit was bad
good : (c : Then-bad-lt-FIRST_BAD) → let l = c.loop-b in (l.v < 16 ^ 4) × (digits_from 16 l.v (drop 4 c.args.s.now) ≡ digits_from 16 0 c.args.s.now)
good c =
    let l = c.loop-b in
    let e : l.b-index ≡ 4 = omega (arith, l.auto.b-index-end, c.loop-b-test.false, c.if-s-ne-HEX_DIGITS.false) in
    rw e at (l.invariant.2 (omega (arith, c.if-bad-lt-FIRST_BAD.true)))

pub overflow_cast-result : goal.overflow_cast-result
overflow_cast-result c = record { fits = (good (goal.at.overflow_cast-result c).Then-bad-lt-FIRST_BAD).0 }

pub returns-then-bad-lt-FIRST_BAD : goal.returns-then-bad-lt-FIRST_BAD
returns-then-bad-lt-FIRST_BAD c =
    let p = good (goal.at.returns-then-bad-lt-FIRST_BAD c).Then-bad-lt-FIRST_BAD in
    hex_four c.args.s.now c.loop-b.v c.if-s-ne-HEX_DIGITS.false p.0 p.1

pub returns : goal.returns
returns c =
    hex_bad _ c.if-s-ne-HEX_DIGITS.false (c.loop-b.invariant.3 (omega (arith, c.if-bad-lt-FIRST_BAD.false)))

pub returns-then-s-ne-HEX_DIGITS : goal.returns-then-s-ne-HEX_DIGITS
returns-then-s-ne-HEX_DIGITS c = hex_no _ c.if-s-ne-HEX_DIGITS.true
