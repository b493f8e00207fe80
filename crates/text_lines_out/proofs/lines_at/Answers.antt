-- By the record's kind. Assumes nothing.
use borrow.Author.Tests.{leb-true, leb-false}
use native.Mathlib.Omega.{arith}
use mathlib.Core.Path.{◌≡◌, refl, sym, ap}
use mathlib.Core.List.{List}
use Prim.Native.Nat.{ℕ, ◌+◌, ◌≤◌, ◌<◌}
use lib.ListN.{length}
use lib.Dec.{leb}
use Rattle.format.proofs.ListLaws.{by_test}
use Rattle.object.specs.Bodies.{body_at}
use Rattle.object.proofs.BodyLaws.{body_fits, body_out}
use borrow.Author.Tests.{not-false}
use Rattle.object.specs.declared.Kind.TheVariants as kind
use Rattle.object.proofs.KindLaws.{number_is}
use Rattle.text_lines_out.proofs.lines_at.Goals as goal

place-fits : (ws : List ℕ) (at : ℕ) → at < length ws → at + 1 + 3 + length (body_at ws (at + 1 + 3)) ≤ length ws + 4
place-fits ws at h =
    by_test (leb (at + 1 + 3) (length ws))
    (λ t. let w = leb-true (at + 1 + 3) (length ws) t in omega (arith, body_fits ws (at + 1 + 3) w))
    (λ t. let w = leb-false (at + 1 + 3) (length ws) t in
    let z : length (body_at ws (at + 1 + 3)) ≡ 0 = ap length (body_out ws (at + 1 + 3) (let y : length ws ≤ at + 1 + 3 = omega arith in y)) in
    omega arith)

pub returns : goal.returns
returns c =
    let a = c.args in
    record {
      other = λ n. absurd (n (number_is c.of.result kind.LineBlock _ c.of.ensures (sym (not-false _ (sym c.if-ne.ensures)))));
      block = λ k. (c.number_at-first.ensures, c.body_len-count.ensures, refl);
      fits = omega (arith, c.body_len-count.ensures, place-fits a.ws.now a.at c.if-ws-at.false);
    }
