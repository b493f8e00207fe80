-- A window a turn: the words of the places that are left are what is left to emit. Assumes nothing.
use mathlib.Core.Path.{◌≡◌, refl, ap, subst, sym, ◌∙◌}
use mathlib.Core.List.{List, ◌++◌, flat_map}
use Prim.Native.Nat.{ℕ}
use native.Mathlib.Omega.{arith}
use lib.ListN.{take}
use Rattle.writing.proofs.Parts.{Emits, after, begin, emit, emitted, within, same}
use Rattle.gather.specs.Order.{HandsOut}
use Rattle.sorting.specs.Left.{left}
use Rattle.binary_words.specs.RecordAt.{words_at, part_words}
use Rattle.binary_words.proofs.LengthLaws.{handed_long, handed_joined, handed_none, handed_less}
use Rattle.record_words.proofs.RecordLaws.{room_for_lem, windows_next, windows_over}
use Rattle.binary_emit.proofs.put_windows.Goals as goal
use Rattle.gather.specs.Kinds.{byte_of}
use Rattle.binary_emit.proofs.put_windows.Goals.{After-put_places-at}

-- the words of a window, and of the places that are left then
next : (kind : ℕ) (s found handed ps rest : List ℕ) (n : ℕ) → HandsOut ps found handed n rest
    → flat_map (words_at kind s) ps ≡ flat_map (words_at kind s) (take n handed) ++ flat_map (words_at kind s) rest
next kind s found handed ps rest n h =
    windows_next (words_at kind s) (take n handed) rest ps (handed_joined kind s found handed ps rest n h)

emits : (c : After-put_places-at) →
    Emits (part_words (byte_of c.args.kind) c.args.s.now) c.args.out.now
    (flat_map (words_at (byte_of c.args.kind) c.args.s.now) (left c.args.s.now c.next_window-n.new.self))
    (after (record { at = c.loop-win.at; out = c.loop-win.out }) c.put_places-at.result c.put_places-at.new.out)
emits c =
    emit c.loop-win.invariant.1 _ _ (next (byte_of c.args.kind) c.args.s.now _ _ _ _ _ c.next_window-n.ensures) c.put_places-at.ensures

pub loop-win-init : goal.loop-win-init
loop-win-init c =
    let f : List ℕ → List ℕ = flat_map (words_at (byte_of c.args.kind) c.args.s.now) in (
      refl,
      subst
          (λ (z : List ℕ). Emits (part_words (byte_of c.args.kind) c.args.s.now) c.args.out.now z
          (record { at = 0; out = c.args.out.now })) (ap f (sym c.new-sorting.ensures)) (begin _ _ c.requires.1),
    )

pub put_places-at-requires : goal.put_places-at-requires
put_places-at-requires c =
    room_for_lem c.loop-win.invariant.1 _ _ (next (byte_of c.args.kind) c.args.s.now _ _ _ _ _ c.next_window-n.ensures)

pub returns-then-n-win : goal.returns-then-n-win
returns-then-n-win c =
    let kind = (byte_of c.args.kind) in
    let s = c.args.s.now in
    let h = c.next_window-n.ensures in
    let none_left = handed_none kind s _ _ _ _ _ h (omega (arith, c.if-n-win.true, handed_long kind s _ _ _ _ _ h)) in
    emitted (emits (goal.at.returns-then-n-win c).After-put_places-at)
    (windows_over (words_at kind s) (left s c.next_window-n.new.self) none_left)

pub loop-win-smaller : goal.loop-win-smaller
loop-win-smaller c =
    let kind = (byte_of c.args.kind) in
    let s = c.args.s.now in
    let h = c.next_window-n.ensures in
    handed_less kind s _ _ _ _ _ h
    (omega (arith, c.if-n-win.false, handed_long kind s _ _ _ _ _ h, c.loop-win.invariant.0, c.requires.0))

pub offset_bounds-out-at : goal.offset_bounds-out-at
offset_bounds-out-at c = let e = c.loop-win.invariant.1 in omega (arith, within e, same e)

pub slice_bounds-put_places-count : goal.slice_bounds-put_places-count
slice_bounds-put_places-count c = within c.loop-win.invariant.1

pub slice_bounds-put_places-start : goal.slice_bounds-put_places-start
slice_bounds-put_places-start c = within c.loop-win.invariant.1

pub overflow_add-at : goal.overflow_add-at
overflow_add-at c = let e = emits (goal.at.overflow_add-at c).After-put_places-at in omega (arith, within e, same e)

pub shape_of-out-then-n-win : goal.shape_of-out-then-n-win
shape_of-out-then-n-win c = same (emits (goal.at.shape_of-out-then-n-win c).After-put_places-at)

pub shape_of-win-then-n-win : goal.shape_of-win-then-n-win
shape_of-win-then-n-win c = handed_long (byte_of c.args.kind) c.args.s.now _ _ _ _ _ c.next_window-n.ensures
    ∙ c.loop-win.invariant.0

pub loop-win-preserved : goal.loop-win-preserved
loop-win-preserved c = (
  handed_long (byte_of c.args.kind) c.args.s.now _ _ _ _ _ c.next_window-n.ensures
      ∙ c.loop-win.invariant.0,
  emits
      (goal.at.loop-win-preserved c).After-put_places-at,
)
