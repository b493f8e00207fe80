use Rattle.std.proofs.Common.{◌≡◌, ◌+◌, ◌^◌, ◌<◌, length}
use Rattle.object.specs.Bodies.{body_at, good_addresses}
use Rattle.object.proofs.WordLaws.{addresses_on}
use Rattle.word_checks.proofs.addresses_end.Given as goal

abbrev pub invariant-loop-i : goal.invariant-loop-i
invariant-loop-i l = (l.i + length (body_at l.ws l.i) ≡ l.at + length (body_at l.ws l.at)) × (addresses_on l.last (body_at l.ws l.i) ≡ good_addresses (body_at l.ws l.at))
    × (l.last < 2 ^ 16)
