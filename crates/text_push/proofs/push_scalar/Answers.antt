use native.Mathlib.Omega.{arith}
use mathlib.Core.Path.{refl, subst}
use mathlib.Core.List.{List}
use Prim.Native.Nat.{ℕ}
use Rattle.text_push.specs.Pushes.{state_of, Pushes}
use Rattle.text_push.proofs.PushLaws.{scalar-count, scalar-bytes}
use Rattle.text_push.proofs.push_scalar.Goals as goal

pub slice_bounds-push_bytes-end : goal.slice_bounds-push_bytes-end
slice_bounds-push_bytes-end c =
    omega (arith, scalar-count _ _ _ _ refl c.encode_scalar-n.ensures, c.encode_scalar-n.auto.out)

pub returns : goal.returns
returns c =
    subst (λ (bs : List ℕ). Pushes bs (state_of c.args.h) c.args.out.now (state_of c.push_bytes.result) c.push_bytes.new.out)
    (scalar-bytes _ _ _ _ refl c.encode_scalar-n.ensures) c.push_bytes.ensures
