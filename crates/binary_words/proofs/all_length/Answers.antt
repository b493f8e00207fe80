-- What is left to count, from each place. Assumes nothing.
use mathlib.Core.Path.{◌≡◌, ap, ◌∙◌}
use mathlib.Core.List.{List}
use Prim.Native.Nat.{ℕ, ◌+◌}
use native.Mathlib.Omega.{arith}
use lib.ListN.{length}
use Rattle.gather.specs.Places.{places_from, places_of}
use Rattle.gather.proofs.OrderLaws.{found-next, found_none}
use Rattle.binary_words.specs.RecordAt.{words_at}
use Rattle.binary_words.proofs.LengthLaws.{total, total_cons, total_none, records_few}
use Rattle.binary_words.proofs.all_length.Goals as goal
use Rattle.gather.specs.Kinds.{byte_of}
use Rattle.binary_words.proofs.all_length.Goals.{After-words_at-all}

abbrev s : (c : After-words_at-all) → List ℕ
s c = c.args.s.now

abbrev kind : (c : After-words_at-all) → ℕ
kind c = (byte_of c.args.kind)

abbrev p : (c : After-words_at-all) → ℕ
p c = c.in-Some.p

abbrev next : (c : After-words_at-all) → ℕ
next c = c.in-Some.next

here : (c : After-words_at-all) → total (kind c) (s c) (places_from (kind c) (s c) c.loop-p.at) ≡ length (words_at (kind c) (s c) (p c)) + total (kind c) (s c) (places_from (kind c) (s c) (next c))
here c =
    ap (total (kind c) (s c)) (found-next (kind c) (s c) c.loop-p.at c.next_place.result c.next_place.ensures.0 (p c, next c)
    c.in-Some.is) ∙ total_cons (kind c) (s c) (p c) (places_from (kind c) (s c) (next c))

pub loop-p-init : goal.loop-p-init
unfolding places_of
loop-p-init c = omega arith

pub returns : goal.returns
returns c =
    let l = c.loop-p in
    let a = c.args in
    let s = a.s.now in
    let t = ap (total (byte_of a.kind) s)
    (found_none (byte_of a.kind) s l.at c.next_place.result c.next_place.ensures.0 c.in_default.is) ∙ total_none (byte_of a.kind) s in
    omega (arith, l.invariant)

pub overflow_add-all : goal.overflow_add-all
overflow_add-all c = omega (arith, c.loop-p.invariant, here c, c.words_at-all.ensures, records_few (kind c) (s c))

pub loop-p-preserved : goal.loop-p-preserved
loop-p-preserved c = omega (arith, c.loop-p.invariant, here c, c.words_at-all.ensures)
