use mathlib.Core.Path.{◌≡◌, sym, ap, subst, ◌∙◌}
use mathlib.Core.List.{[], ◌∷◌}
use Prim.Native.Nat.{ℕ, ◌≤◌}
use native.Mathlib.Omega.{arith}
use lib.ListN.{length, length-set}
use lib.Seq.{sets}
use Rattle.format.specs.Digits.{digits_of}
use Rattle.format.proofs.Laws.{digits_length}
use Rattle.writing.specs.Written.{Put}
use Rattle.writing.proofs.WriteLaws.{stored}
use Rattle.binary_measure.specs.Measured.{text_of}
use Rattle.binary_measure.proofs.TextLaws.{count, last_some, last-bytes}
use Rattle.binary_write.proofs.put_last.Goals as goal
use Rattle.binary_write.proofs.put_last.Goals.{Start}

abbrev n : (s : Start) → ℕ
n s = count s.args.w s.requires.0

room_for_lem : (s : Start) → (n s) ≤ length s.args.out.now
room_for_lem s =
    let e = ap length (last-bytes s.args.w s.requires.0) ∙ digits_length 8 (n s) s.args.w in omega (arith, e, s.requires.1)

some : (s : Start) → 1 ≤ (n s)
some s = last_some s.args.w s.requires.0

put : (s : Start) → (k : ℕ) → (n s) ≡ k → Put (text_of (s.args.w ∷ [])) s.args.out.now k (sets s.args.out.now 0 (digits_of 8 k s.args.w))
put s k e =
    let w = s.args.w in
    let bytes : digits_of 8 k w ≡ text_of (w ∷ []) = ap (λ m. digits_of 8 m w) (sym e) ∙ sym (last-bytes w s.requires.0) in
    subst (λ part. Put part s.args.out.now k (sets s.args.out.now 0 (digits_of 8 k w))) bytes
    (stored (digits_of 8 k w) s.args.out.now k (digits_length 8 k w) (omega (arith, e, (room_for_lem s))))

pub bounds-out-0 : goal.bounds-out-0
bounds-out-0 c = omega (arith, room_for_lem c, some c)

pub returns-then-n-eq1 : goal.returns-then-n-eq1
unfolding digits_of
returns-then-n-eq1 c = put (goal.at.returns-then-n-eq1 c).Start 1 c.if-n-eq1.true

pub bounds-out-1 : goal.bounds-out-1
bounds-out-1 c = simp length-set (omega (arith, room_for_lem (goal.at.bounds-out-1 c).Start, some (goal.at.bounds-out-1 c).Start, c.if-n-eq1.false))

pub returns-then-n-eq2 : goal.returns-then-n-eq2
unfolding digits_of
returns-then-n-eq2 c = put (goal.at.returns-then-n-eq2 c).Start 2 c.if-n-eq2.true

pub bounds-out-2 : goal.bounds-out-2
bounds-out-2 c =
    simp length-set (omega (arith, room_for_lem (goal.at.bounds-out-2 c).Start, some (goal.at.bounds-out-2 c).Start, c.if-n-eq1.false, c.if-n-eq2.false))

pub returns : goal.returns
unfolding digits_of
returns c =
    put (goal.at.returns c).Start 3 (omega (arith, some (goal.at.returns c).Start, c.if-n-eq1.false, c.if-n-eq2.false))
