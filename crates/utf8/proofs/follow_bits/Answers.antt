-- What is left to follow after k bytes gives what all of them give. Assumes nothing.
use native.Mathlib.Omega.{arith}
use mathlib.Core.Path.{◌≡◌, ◌∙◌}
use mathlib.Core.Logic.{inl, inr}
use Prim.Native.Nat.{◌+◌, ◌-◌, ◌*◌, ◌≤◌, ◌<◌}
use lib.ListN.{get_or}
use Rattle.utf8.proofs.CharLaws.{room, room-more, room_small, follow-short, follow-none, follow-more, follow-all}
use Rattle.utf8.proofs.follow_bits.Goals as goal
use Rattle.utf8.proofs.follow_bits.Goals.{Else-b-gt191}

-- the byte's bits, and the room for one byte more
more_bits : (c : Else-b-gt191) → (c.loop-k.bits * 64 +
    (get_or c.args.s.now
    (c.args.at + c.loop-k.k) 0 - 0x80) < room
    (c.loop-k.k + 1)) × (room (c.loop-k.k + 1) ≤ 8388608)
more_bits c =
    let loop = c.loop-k in
    let args = c.args in (
      room-more loop.k loop.bits (get_or args.s.now (args.at + loop.k) 0 - 0x80) loop.invariant.0 (omega arith),
      room_small
          (loop.k + 1) (omega arith),
    )

pub loop-k-init : goal.loop-k-init
unfolding room
loop-k-init c =
    let n : c.args.n - 0 ≡ c.args.n = omega arith in
    let at : c.args.at + 0 ≡ c.args.at = omega arith in
    (c.requires.2, rw (n, at))

pub returns-then-s-i : goal.returns-then-s-i
returns-then-s-i c = follow-short _ _ _ _ _ c.loop-k-test.true c.if-s-i.true ∙ c.loop-k.invariant.1

pub returns-then-b-lt128 : goal.returns-then-b-lt128
returns-then-b-lt128 c = follow-none _ _ _ _ _ c.loop-k-test.true c.if-s-i.false (inl c.if-b-lt128.true) ∙
    c.loop-k.invariant.1

pub returns-then-b-gt191 : goal.returns-then-b-gt191
returns-then-b-gt191 c = follow-none _ _ _ _ _ c.loop-k-test.true c.if-s-i.false
    (inr c.if-b-gt191.true) ∙ c.loop-k.invariant.1

pub overflow_mul-bits : goal.overflow_mul-bits
overflow_mul-bits c = omega (arith, (more_bits c).0, (more_bits c).1)

pub overflow_add-bits : goal.overflow_add-bits
overflow_add-bits c = omega (arith, (more_bits c).0, (more_bits c).1)

pub loop-k-preserved : goal.loop-k-preserved
loop-k-preserved c = (
  (more_bits c).0,
  follow-more _ _ _ _ _ c.loop-k-test.true
      c.if-s-i.false c.if-b-lt128.false c.if-b-gt191.false
      ∙ c.loop-k.invariant.1,
)

pub returns : goal.returns
returns c = follow-all _ _ _ _ _ c.loop-k-test.false ∙ c.loop-k.invariant.1
