-- The two parts of the groups, if there are any. Assumes nothing.
use borrow.Author.Rules.{rules}
use native.Mathlib.Omega.{arith}
use mathlib.Core.Path.{◌≡◌, refl, sym, ap, subst}
use mathlib.Core.List.{List, [], ◌++◌, append-nil}
use Prim.Native.Nat.{ℕ}
use lib.ListN.{length, length-append}
use Rattle.format.specs.TextWriter.{text_line}
use Rattle.writing.specs.Written.{Put}
use Rattle.writing.proofs.Parts.{Emits, emit, emitted, within, small}
use Rattle.measuring.proofs.FittingLaws.{first-put, lent_room}
use Rattle.text_write.specs.Tables.{object_in}
use Rattle.text_write.specs.Layouts.{Planned, PlanOf}
use Rattle.text_write.specs.Groups.{names_text, debug_text, rest_text}
use Rattle.text_write.proofs.GroupLaws.{groups_none, groups_some}
use Rattle.text_write.proofs.put_rest.Goals as goal
use Rattle.text_write.proofs.put_rest.Goals.{In-Some, After-put_names-n}

planned : (c : In-Some) → Planned c.args.ws.now c.in-Some.p
planned c = subst (PlanOf c.args.ws.now) c.in-Some.is c.requires.2

whole : (c : In-Some) → rest_text c.args.ws.now ≡ names_text c.args.ws.now ++ debug_text c.args.ws.now
whole c = ap (λ (l : List ℕ). text_line [] ++ l) (groups_some (object_in c.args.ws.now) (sym (planned c).only))

emits1 : (c : After-put_names-n) → rest_text c.args.ws.now ≡ names_text c.args.ws.now ++ debug_text c.args.ws.now
    → Emits (rest_text c.args.ws.now) c.args.out.now (debug_text c.args.ws.now) (record { at = c.put_names-n.result; out = c.put_names-n.new.out })
emits1 c e =
    first-put (names_text c.args.ws.now) (debug_text c.args.ws.now) c.args.out.now e c.requires.1 c.put_names-n.ensures

pub returns-in_default : goal.returns-in_default
returns-in_default c =
    let e = groups_none (object_in c.args.ws.now) (sym (subst (PlanOf c.args.ws.now) c.in_default.is c.requires.2)) in
    subst (λ (l : List ℕ). Put l c.args.out.now c.put_u8.result c.put_u8.new.out) (ap (λ (l : List ℕ). text_line [] ++ l) (sym e))
    c.put_u8.ensures

pub put_names-n-requires : goal.put_names-n-requires
put_names-n-requires c =
    let i = (goal.at.put_names-n-requires c).In-Some in
    let ws = c.args.ws.now in (
      c.requires.0,
      omega (arith, c.requires.1, ap length (whole i), length-append (names_text ws) (debug_text ws)),
      (planned i).linked,
    )

pub put_debug-requires : goal.put_debug-requires
put_debug-requires c =
    let g = goal.at.put_debug-requires c in
    let group = debug_text c.args.ws.now in
    (c.requires.0, lent_room (emits1 g.After-put_names-n (whole g.In-Some)) group [] (sym (append-nil group)), planned g.In-Some)

pub slice_bounds-put_debug-count : goal.slice_bounds-put_debug-count
slice_bounds-put_debug-count c =
    let g = goal.at.slice_bounds-put_debug-count c in within (emits1 g.After-put_names-n (whole g.In-Some))

pub slice_bounds-put_debug-start : goal.slice_bounds-put_debug-start
slice_bounds-put_debug-start c =
    let g = goal.at.slice_bounds-put_debug-start c in within (emits1 g.After-put_names-n (whole g.In-Some))

pub overflow_add-result : goal.overflow_add-result
overflow_add-result c =
    let g = goal.at.overflow_add-result c in
    small (emit (emits1 g.After-put_names-n (whole g.In-Some)) (debug_text c.args.ws.now) [] (sym (append-nil _)) c.put_debug.ensures)
    (search rules)

pub returns : goal.returns
returns c =
    let g = goal.at.returns c in
    emitted (emit (emits1 g.After-put_names-n (whole g.In-Some)) (debug_text c.args.ws.now) [] (sym (append-nil _)) c.put_debug.ensures)
    refl
