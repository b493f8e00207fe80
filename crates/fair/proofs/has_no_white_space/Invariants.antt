use mathlib.Core.Path.{◌≡◌}
use mathlib.Core.Bool.{true}
use Prim.Native.Nat.{◌-◌}
use lib.ListN.{drop}
use Rattle.format.specs.Utf8.{is_utf8}
use Rattle.format.specs.Fair.{no_white_space}
use Rattle.object.specs.Texts.{text_bytes}
use Rattle.fair.proofs.has_no_white_space.Given as goal

abbrev pub invariant-loop-c : goal.invariant-loop-c
invariant-loop-c l = (is_utf8 (drop l.p (text_bytes l.ws l.at l.n)) ≡ true) × (no_white_space (drop l.p (text_bytes l.ws l.at l.n)) ≡ no_white_space (text_bytes l.ws l.at l.n))

abbrev pub decreases-loop-c : goal.decreases-loop-c
decreases-loop-c l = l.n - l.p
