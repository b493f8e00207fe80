-- Three parts. Assumes nothing.
use borrow.Author.Rules.{rules}
use mathlib.Core.Path.{refl, sym, subst}
use mathlib.Core.List.{List, [], ◌++◌, append-nil}
use Prim.Native.Nat.{ℕ, ◌-◌}
use Rattle.writing.specs.Written.{Put}
use Rattle.writing.proofs.WriteLaws.{too_short}
use Rattle.writing.proofs.Parts.{State, Emits, rest, after, emit, emitted, within, small}
use Rattle.measuring.proofs.RoomLaws.{roomy, roomless}
use Rattle.measuring.proofs.FittingLaws.{first-put}
use Rattle.format.specs.Basics.{ascii}
use Rattle.format.specs.TextWriter.{spaces, text_line, line_header}
use Rattle.text_lines_out.proofs.LineLaws.{after_name, header-parts}
use Rattle.text_lines_out.proofs.put_line_header.Goals as goal
use Rattle.text_lines_out.proofs.put_line_header.Goals.{After-put_bytes-k, After-put_spaces-k}

abbrev state1 : After-put_bytes-k → State ℕ
state1 c = record { at = c.put_bytes-k.result; out = c.put_bytes-k.new.out }

emits1 : (c : After-put_bytes-k)
    → Emits (text_line (line_header c.args.width)) c.args.out.now (spaces (c.args.width - 4) ++ after_name) (state1 c)
unfolding ascii
emits1 c =
    first-put (ascii "LINE") (spaces (c.args.width - 4) ++ after_name) c.args.out.now (header-parts c.args.width)
    (roomy _ _ _ c.measure_line_header.ensures c.if-is_none.ensures) c.put_bytes-k.ensures

-- the spaces, and the rest of the header, into what is left
second : (c : After-put_spaces-k) {whole room : List ℕ} {s : State ℕ} → Emits whole room (spaces (c.args.width - 4) ++ after_name) s
    → {r : ℕ} {ys : List ℕ} → Put (spaces c.saturating_sub-fill.result) (rest s) r ys → Emits whole room after_name (after s r ys)
second c {s = s} f {r} {ys} p =
    emit f (spaces (c.args.width - 4)) after_name refl (subst (λ (n : ℕ). Put (spaces n) (rest s) r ys) c.saturating_sub-fill.ensures p)

last : {whole room : List ℕ} {s : State ℕ} → Emits whole room after_name s
    → {r : ℕ} {ys : List ℕ} → Put after_name (rest s) r ys → Emits whole room [] (after s r ys)
last f p = emit f after_name [] (sym (append-nil after_name)) p

pub returns-then-is_none : goal.returns-then-is_none
returns-then-is_none c =
    too_short (text_line (line_header c.args.width)) _ _ refl (roomless _ _ _ c.measure_line_header.ensures c.if-is_none.ensures)

pub slice_bounds-put_spaces-count : goal.slice_bounds-put_spaces-count
slice_bounds-put_spaces-count c = within (emits1 (goal.at.slice_bounds-put_spaces-count c).After-put_bytes-k)

pub slice_bounds-put_spaces-start : goal.slice_bounds-put_spaces-start
slice_bounds-put_spaces-start c = within (emits1 (goal.at.slice_bounds-put_spaces-start c).After-put_bytes-k)

pub overflow_add-k : goal.overflow_add-k
overflow_add-k c =
    let g = goal.at.overflow_add-k c in
    small (second g.After-put_spaces-k (emits1 g.After-put_bytes-k) c.put_spaces-k.ensures) (search rules)

pub slice_bounds-put_bytes-count : goal.slice_bounds-put_bytes-count
slice_bounds-put_bytes-count c =
    let g = goal.at.slice_bounds-put_bytes-count c in
    within (second g.After-put_spaces-k (emits1 g.After-put_bytes-k) c.put_spaces-k.ensures)

pub slice_bounds-put_bytes-start : goal.slice_bounds-put_bytes-start
slice_bounds-put_bytes-start c =
    let g = goal.at.slice_bounds-put_bytes-start c in
    within (second g.After-put_spaces-k (emits1 g.After-put_bytes-k) c.put_spaces-k.ensures)

pub overflow_add-result : goal.overflow_add-result
unfolding ascii
overflow_add-result c =
    let g = goal.at.overflow_add-result c in
    small (last (second g.After-put_spaces-k (emits1 g.After-put_bytes-k) c.put_spaces-k.ensures) c.put_bytes.ensures) (search rules)

pub returns : goal.returns
unfolding ascii
returns c =
    let g = goal.at.returns c in
    emitted (last (second g.After-put_spaces-k (emits1 g.After-put_bytes-k) c.put_spaces-k.ensures) c.put_bytes.ensures) refl
