-- All bytes of a short text, or as many as make three. Assumes nothing.
use mathlib.Core.Path.{◌≡◌, sym, ap, ◌∙◌}
use mathlib.Core.List.{List, ◌++◌}
use Prim.Native.Nat.{ℕ, ◌-◌, ◌≤◌, ◌<◌}
use native.Mathlib.Omega.{arith}
use lib.ListN.{length, take, drop, length-take}
use lib.Seq.{take_all}
use Rattle.binary_emit.proofs.ChunkLaws.{topped}
use Rattle.binary_emit.proofs.top_up.Goals as goal

pub returns-then-s-k : goal.returns-then-s-k
returns-then-s-k c =
    let held = c.args.held.now in
    let s = c.args.s.now in
    let n = c.args.n in
    let r = c.put_bytes.result in
    let h : length s < 3 - n = c.if-s-k.true in
    let t = topped held s n (omega (arith, c.requires.0)) c.put_bytes.ensures in
    let e : r ≡ length s = t.0 in
    (omega arith, t.1 ∙ ap (λ (z : List ℕ). take n held ++ z) (sym (take_all r s (omega arith))))

pub returns : goal.returns
returns c =
    let held = c.args.held.now in
    let s = c.args.s.now in
    let n = c.args.n in
    let r = c.put_bytes-2.result in
    let h : 3 - n ≤ length s = c.if-s-k.false in
    let part = take (3 - n - 0) (drop 0 s) in
    let l : length part ≡ 3 - n = omega (arith, length-take (3 - n - 0) s) in
    let t = topped held part n (omega (arith, c.requires.0, c.requires.1)) c.put_bytes-2.ensures in
    let e : 3 - n - 0 ≡ r = omega (arith, t.0) in
    (omega (arith, t.0), t.1 ∙ ap (λ (j : ℕ). take n held ++ take j s) e)
