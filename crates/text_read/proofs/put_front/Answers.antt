-- Two parts, each of which may be left out. Assumes nothing.
use borrow.Author.Rules.{rules}
use native.Mathlib.Omega.{arith}
use mathlib.Core.Path.{◌≡◌, refl, sym, subst}
use mathlib.Core.List.{List, [], append-nil}
use Prim.Native.Nat.{ℕ, ◌+◌, ◌-◌}
use lib.ListN.{length}
use borrow.Rule.Slice.PartMut.{mid_of, put_mid}
use Rattle.text_words.specs.Written.{PutEach}
use Rattle.text_words.proofs.PutLaws.{Puts, puts_begin, puts_on, puts_end}
use Rattle.known_labels.specs.Known.{label_parts}
use Rattle.known_labels.proofs.KnownLaws.{held-put}
use Rattle.text_read.specs.Parts.{row_parts, front_parts}
use Rattle.text_read.proofs.put_front.Goals as goal
use Rattle.text_read.proofs.put_front.Goals.{After-put_rows-at}

abbrev out1 : (c : After-put_rows-at) → List ℕ
out1 c = put_mid 0 (length c.args.out.now - 0) c.args.out.now c.put_rows-at.new.out

abbrev at : (c : After-put_rows-at) → ℕ
at c = 0 + c.put_rows-at.result

puts1 : (c : After-put_rows-at) → Puts (label_parts c.args.u.now) (front_parts c.args.u.now) c.args.out.now (out1 c) (at c)
puts1 c = puts_on (row_parts 0 c.args.u.now) (label_parts c.args.u.now) _ _ _ _ _ _ _ (puts_begin (front_parts c.args.u.now) _) refl c.put_rows-at.ensures

-- and after the labels
puts2 : (c : After-put_rows-at) → (r : ℕ) (ys : List ℕ) → PutEach (label_parts c.args.u.now) (mid_of (at c) (length (out1 c) - (at c)) (out1 c)) r ys
    → Puts [] (front_parts c.args.u.now) c.args.out.now (put_mid (at c) (length (out1 c) - (at c)) (out1 c) ys) ((at c) + r)
puts2 c r ys w = puts_on _ [] _ _ _ _ _ _ _ (puts1 c) (sym (append-nil _)) w

pub returns-then-at-eq0 : goal.returns-then-at-eq0
returns-then-at-eq0 c =
    let f = (goal.at.returns-then-at-eq0 c).After-put_rows-at in
    let r = c.put_labels.result in
    let z : at f + r ≡ r = omega (arith, c.if-at-eq0.true) in
    subst (λ (n : ℕ). PutEach (front_parts c.args.u.now) c.args.out.now n (put_mid (at f) (length (out1 f) - at f) (out1 f) c.put_labels.new.out)) z
    (puts_end _ _ _ _ _ (puts2 f _ _ c.put_labels.ensures) refl)

pub offset_bounds-out-at-in-Some : goal.offset_bounds-out-at-in-Some
offset_bounds-out-at-in-Some c = let h = (puts1 (goal.at.offset_bounds-out-at-in-Some c).After-put_rows-at).inside in search rules

pub slice_bounds-put_cached-count : goal.slice_bounds-put_cached-count
slice_bounds-put_cached-count c = (puts1 (goal.at.slice_bounds-put_cached-count c).After-put_rows-at).inside

pub slice_bounds-put_cached-start : goal.slice_bounds-put_cached-start
slice_bounds-put_cached-start c = (puts1 (goal.at.slice_bounds-put_cached-start c).After-put_rows-at).inside

pub overflow_add-result : goal.overflow_add-result
overflow_add-result c =
    let f = (goal.at.overflow_add-result c).After-put_rows-at in
    let q = puts2 f _ _ (held-put _ c.args.items.now _ (rw c.in-Some.is at c.requires) _ _ _ c.put_cached.ensures) in
    record { fits = omega (arith, q.inside, q.long) }

pub returns-in-Some : goal.returns-in-Some
returns-in-Some c =
    let f = (goal.at.returns-in-Some c).After-put_rows-at in
    puts_end _ _ _ _ _ (puts2 f _ _ (held-put _ c.args.items.now _ (rw c.in-Some.is at c.requires) _ _ _ c.put_cached.ensures)) refl

pub offset_bounds-out-at-then-at-eq0 : goal.offset_bounds-out-at-then-at-eq0
offset_bounds-out-at-then-at-eq0 c = let h = (puts1 (goal.at.offset_bounds-out-at-then-at-eq0 c).After-put_rows-at).inside in search rules

pub slice_bounds-put_labels-count : goal.slice_bounds-put_labels-count
slice_bounds-put_labels-count c = (puts1 (goal.at.slice_bounds-put_labels-count c).After-put_rows-at).inside

pub slice_bounds-put_labels-start : goal.slice_bounds-put_labels-start
slice_bounds-put_labels-start c = (puts1 (goal.at.slice_bounds-put_labels-start c).After-put_rows-at).inside

pub offset_bounds-out-at-2 : goal.offset_bounds-out-at-2
offset_bounds-out-at-2 c = let h = (puts1 (goal.at.offset_bounds-out-at-2 c).After-put_rows-at).inside in search rules

pub slice_bounds-put_labels-count-2 : goal.slice_bounds-put_labels-count-2
slice_bounds-put_labels-count-2 c = (puts1 (goal.at.slice_bounds-put_labels-count-2 c).After-put_rows-at).inside

pub slice_bounds-put_labels-start-2 : goal.slice_bounds-put_labels-start-2
slice_bounds-put_labels-start-2 c = (puts1 (goal.at.slice_bounds-put_labels-start-2 c).After-put_rows-at).inside

pub overflow_add-result-2 : goal.overflow_add-result-2
overflow_add-result-2 c =
    let q = puts2 (goal.at.overflow_add-result-2 c).After-put_rows-at _ _ c.put_labels-2.ensures in record { fits = omega (arith, q.inside, q.long) }

pub returns : goal.returns
returns c = puts_end _ _ _ _ _ (puts2 (goal.at.returns c).After-put_rows-at _ _ c.put_labels-2.ensures) refl
