use Rattle.std.proofs.Common.{◌≡◌, ℕ, List, [], ◌++◌, length, refl, sym, arith}
use Rattle.std.proofs.lemmas.Result.{err_from_is_err_and}
use mathlib.Core.List.{append-nil}
use Rattle.format.specs.Calls.{checked}
use Rattle.units.specs.Refusal.{number_of}
use Rattle.well_formed.proofs.NumberLaws.{number_some}
use Rattle.writing.specs.Written.{Put}
use Rattle.writing.proofs.Parts.{Emits, after, begun, emit, emitted, within, small}
use Rattle.binary_measure.specs.Measured.{bytes_in, write_number}
use Rattle.binary_write.proofs.RoomLaws.{lent}
use Rattle.binary_write.proofs.FileLaws.{refused-number, is_formed, is_measured, enough, written_file}
use Rattle.binary_write.proofs.write_file.Goals as goal
use Rattle.binary_write.proofs.write_file.Goals.{After-put_bytes-at, After-put_records}

-- with the front written
module _ (front ws room : List ℕ) (e : 0 ≡ write_number ws (length front) (length room)) where
  formed : checked ws ≡ 0
  formed = is_formed front ws room 0 e refl

  opened : {n : ℕ} {out : List ℕ} → Put front room n out
      → Emits (front ++ bytes_in ws) room (bytes_in ws) (record { at = n; out = out })
  opened p = begun front _ refl (enough front ws room formed 0 (is_measured front ws room 0 e refl) refl) p

pub returns-in_err-check_write : goal.returns-in_err-check_write
returns-in_err-check_write c =
    let r = c.in_err-check_write.field-0.0 in
    let p = err_from_is_err_and c.from_residual.result c.from_residual.ensures.1 in
    rw (p.1, p.2)
    (refused-number c.args.front.now c.args.object.now c.args.out.now (number_of r) c.in_err-check_write.ensures
    (λ z. let h = number_some r in omega arith))

-- and the records
opens : (c : After-put_bytes-at) → Emits (c.args.front.now ++ bytes_in c.args.object.now) c.args.out.now (bytes_in c.args.object.now)
    (record { at = c.put_bytes-at.result; out = c.put_bytes-at.new.out })
opens c = opened c.args.front.now c.args.object.now c.args.out.now c.in_ok-check_write.ensures c.put_bytes-at.ensures

closes : (c : After-put_records) → Emits (c.args.front.now ++ bytes_in c.args.object.now) c.args.out.now []
    (after (record { at = c.put_bytes-at.result; out = c.put_bytes-at.new.out }) c.put_records.result c.put_records.new.out)
closes c =
    emit (opened c.args.front.now c.args.object.now c.args.out.now c.in_ok-check_write.ensures c.put_bytes-at.ensures) _ []
    (sym (append-nil _)) c.put_records.ensures

pub slice_bounds-put_records-count : goal.slice_bounds-put_records-count
slice_bounds-put_records-count c = within (opens (goal.at.slice_bounds-put_records-count c).After-put_bytes-at)

pub slice_bounds-put_records-start : goal.slice_bounds-put_records-start
slice_bounds-put_records-start c = within (opens (goal.at.slice_bounds-put_records-start c).After-put_bytes-at)

pub put_records-requires : goal.put_records-requires
put_records-requires c = (
  formed c.args.front.now c.args.object.now c.args.out.now c.in_ok-check_write.ensures,
  lent (opens (goal.at.put_records-requires c).After-put_bytes-at),
)

pub overflow_add-result : goal.overflow_add-result
overflow_add-result c = small (closes (goal.at.overflow_add-result c).After-put_records) c.well_formed.1.1.0.0

pub returns : goal.returns
returns c =
    let e = c.in_ok-check_write.ensures in
    let f = c.args.front.now in
    let ws = c.args.object.now in
    let room = c.args.out.now in
    written_file f ws room (formed f ws room e) 0 (is_measured f ws room 0 e refl) refl _ _
    (emitted (closes (goal.at.returns c).After-put_records) refl)
