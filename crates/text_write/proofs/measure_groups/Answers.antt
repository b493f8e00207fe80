-- The fixed lines, then table by table. Assumes nothing.
use mathlib.Core.Path.{◌≡◌, refl, sym, ap, subst, ◌∙◌}
use mathlib.Core.List.{List, ◌++◌}
use Prim.Native.Nat.{ℕ}
use mathlib.Core.Option.{Option}
use Rattle.format.specs.Basics.{ascii}
use Rattle.format.specs.TextWriter.{symbol_table, linker_table, label_table}
use Rattle.measuring.specs.Room.{less, less_part}
use Rattle.measuring.proofs.RoomLaws.{less-nothing, part-fits, part-short}
use Rattle.text_lines_out.specs.Walk.{source_table}
use Rattle.label_tables.proofs.TableLaws.{symbols_room, labels-room}
use Rattle.std.specs.Prelude as prelude
use Rattle.std.specs.Prelude.{Some}
use Rattle.text_write.specs.declared.lines.Plan.{Plan}
use Rattle.text_write.specs.Layouts.{Planned, PlanOf}
use Rattle.text_write.specs.Tables.{object_in}
use Rattle.text_write.specs.Groups.{source_part, groups_text}
use Rattle.text_write.proofs.GroupLaws.{fixed_lines, groups_none, groups-measured}
use Rattle.text_write.proofs.measure_groups.Goals as goal
use Rattle.text_write.proofs.measure_groups.Goals.{In_ok-a, In_ok-b, In_ok-c}

abbrev symbols : List ℕ → List ℕ
symbols ws = symbol_table (object_in ws).labels

abbrev linker : List ℕ → List ℕ
linker ws = linker_table (object_in ws).relocations

abbrev labels : List ℕ → List ℕ
labels ws = label_table (object_in ws).labels

abbrev source : List ℕ → List ℕ
source ws = source_part (object_in ws)

taken : {o : Option ℕ} (room : ℕ) → o ≡ less room 81 → o ≡ less_part room fixed_lines
unfolding ascii
taken room e = e

planned : (ws : List ℕ) {plan : prelude.Option Plan} (p : Plan) → plan ≡ Some p → PlanOf ws plan → Planned ws p
planned ws p e s = subst (PlanOf ws) e s

-- what is left after the fixed lines, the symbol table, and the linker table
fits1 : (c : In_ok-a)
    → less_part c.in_ok-a.a (symbols c.args.ws.now ++ (linker c.args.ws.now ++ (labels c.args.ws.now ++ source c.args.ws.now)))
    ≡ less_part c.args.room (groups_text c.args.ws.now)
fits1 c =
    let ws = c.args.ws.now in
    part-fits c.args.room fixed_lines (symbols ws ++ (linker ws ++ (labels ws ++ source ws))) refl
    (taken c.args.room c.in_ok-a.ensures)
    ∙ groups-measured (object_in ws) c.args.room (sym (planned c.args.ws.now c.in-Some.p c.in-Some.is c.requires.1).only)

fits2 : (c : In_ok-b) (whole : List ℕ)
    → less_part c.in_ok-a.a (symbols c.args.ws.now ++ (linker c.args.ws.now ++ (labels c.args.ws.now ++ source c.args.ws.now))) ≡ less_part c.args.room whole
    → less_part c.in_ok-b.b (linker c.args.ws.now ++ (labels c.args.ws.now ++ source c.args.ws.now)) ≡ less_part c.args.room whole
fits2 c whole f =
    let ws = c.args.ws.now in
    part-fits c.in_ok-a.a (symbols ws) (linker ws ++ (labels ws ++ source ws)) refl
    (symbols_room ws c.requires.0 c.in_ok-a.a c.in_ok-b.ensures) ∙ f

fits3 : (c : In_ok-c) (whole : List ℕ)
    → less_part c.in_ok-b.b (linker c.args.ws.now ++ (labels c.args.ws.now ++ source c.args.ws.now)) ≡ less_part c.args.room whole
    → less_part c.in_ok-c.c (labels c.args.ws.now ++ source c.args.ws.now) ≡ less_part c.args.room whole
fits3 c whole f =
    let ws = c.args.ws.now in
    part-fits c.in_ok-b.b (linker ws) (labels ws ++ source ws) refl
    c.in_ok-c.ensures ∙ f

pub returns-in_default : goal.returns-in_default
returns-in_default c =
    less-nothing c.args.room
    ∙ ap (less_part c.args.room) (sym (groups_none (object_in c.args.ws.now) (sym (subst (PlanOf c.args.ws.now) c.in_default.is c.requires.1))))

pub returns-in_err-a : goal.returns-in_err-a
returns-in_err-a c =
    let ws = c.args.ws.now in
    rw c.from_residual.ensures (part-short c.args.room fixed_lines (symbols ws ++ (linker ws ++ (labels ws ++ source ws))) refl
    (taken c.args.room c.in_err-a.ensures)
    ∙ groups-measured (object_in ws) c.args.room (sym (planned c.args.ws.now c.in-Some.p c.in-Some.is c.requires.1).only))

pub returns-in_err-b : goal.returns-in_err-b
returns-in_err-b c =
    let ws = c.args.ws.now in
    rw c.from_residual-in_err-b.ensures (part-short c.in_ok-a.a (symbols ws) (linker ws ++ (labels ws ++ source ws)) refl
    (symbols_room ws c.requires.0 c.in_ok-a.a c.in_err-b.ensures)
    ∙ fits1 (goal.at.returns-in_err-b c).In_ok-a)

pub measure_linker-requires : goal.measure_linker-requires
measure_linker-requires c = (planned c.args.ws.now c.in-Some.p c.in-Some.is c.requires.1).linked

pub returns-in_err-c : goal.returns-in_err-c
returns-in_err-c c =
    let ws = c.args.ws.now in
    let g = goal.at.returns-in_err-c c in
    rw c.from_residual-in_err-c.ensures (part-short c.in_ok-b.b (linker ws) (labels ws ++ source ws) refl
    c.in_err-c.ensures
    ∙ fits2 g.In_ok-b (groups_text ws) (fits1 g.In_ok-a))

pub returns-in_err-d : goal.returns-in_err-d
returns-in_err-d c =
    let ws = c.args.ws.now in
    let g = goal.at.returns-in_err-d c in
    let left = c.in_ok-c.c in
    rw c.from_residual-in_err-d.ensures (part-short left (labels ws) (source ws) refl
    (labels-room ws c.requires.0 c.in-Some.p.widths.names c.in-Some.p.widths.indices left (planned c.args.ws.now c.in-Some.p c.in-Some.is c.requires.1).wide c.in_err-d.ensures)
    ∙ fits3 g.In_ok-c (groups_text ws) (fits2 g.In_ok-b (groups_text ws) (fits1 g.In_ok-a)))

pub measure_source-requires : goal.measure_source-requires
measure_source-requires c = (c.requires.0, (planned c.args.ws.now c.in-Some.p c.in-Some.is c.requires.1).source)

pub returns : goal.returns
unfolding source_table
returns c =
    let ws = c.args.ws.now in
    let g = goal.at.returns c in
    let left = c.in_ok-c.c in
    c.measure_source.ensures
    ∙ part-fits left (labels ws) (source ws) refl
    (labels-room ws c.requires.0 c.in-Some.p.widths.names c.in-Some.p.widths.indices left (planned c.args.ws.now c.in-Some.p c.in-Some.is c.requires.1).wide c.in_ok-d.ensures)
    ∙ fits3 g.In_ok-c (groups_text ws) (fits2 g.In_ok-b (groups_text ws) (fits1 g.In_ok-a))
