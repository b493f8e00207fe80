use native.Mathlib.Omega.{arith}
use mathlib.Core.Path.{◌≡◌, refl}
use Prim.Native.Nat.{min}
use Rattle.std.specs.Prelude.{Ok, Err}
use Rattle.round_trips.proofs.RunLaws.{ran_one, front_put, part_length}
use Rattle.round_trips.proofs.next.Goals as goal

pub returns-in_default-clause-ran : goal.returns-in_default-clause-ran
returns-in_default-clause-ran c =
    let b : c.min-b.result ≡ min c.args.trip_row.bytes 1024 = omega arith in
    let w : c.min-w.result ≡ min c.args.trip_row.words 64 = omega arith in
    ran_one c.args.trip_row _ _ _ (Err c.in_default.field-0) _ _ c.in_default.ensures.step
    (part_length c.min-b.result 1024 _ c.used_bytes-bytes.result c.used_bytes-bytes.ensures (omega arith) b)
    (part_length c.min-w.result 64 _ c.used_words-words.result c.used_words-words.ensures (omega arith) w) refl

pub returns-clause-ran : goal.returns-clause-ran
returns-clause-ran c =
    let b : c.min-b.result ≡ min c.args.trip_row.bytes 1024 = omega arith in
    let w : c.min-w.result ≡ min c.args.trip_row.words 64 = omega arith in
    ran_one c.args.trip_row _ _ _ (Ok c.in-Ok.len) _ _ c.in-Ok.ensures.step
    (part_length c.min-b.result 1024 _ c.used_bytes-bytes.result c.used_bytes-bytes.ensures (omega arith) b)
    (part_length c.min-w.result 64 _ c.used_words-words.result c.used_words-words.ensures (omega arith) w)
    (front_put c.in-Ok.len c.trip-r.new.words _ c.put_front.new.to c.in-Ok.ensures.prefix_len.0 c.put_front.ensures.0)
