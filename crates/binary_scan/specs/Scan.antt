-- What the questions 12 to 14 ask of a binary record, for all kinds alike: so many bytes that every record of the kind has, then a body
-- whose length a number among them tells, then one question of the body. Assumes nothing.
use Rattle.std.specs.Prelude.{List, ℕ, ◌+◌, ◌*◌, drop, eqb, if◌then◌else◌}
use Rattle.format.specs.Utf8.{is_utf8}
use Rattle.format.specs.ObjectFile.{strictly_rise}
use Rattle.format.specs.Binary.{number_at, has_bytes, addresses_from}
use Rattle.cursor.specs.Taken.{TakenBytes, no_bytes, take_bytes}

-- the bytes after the kind byte that every record of the kind has
unfoldable pub fixed_bytes : ℕ → ℕ
fixed_bytes k = if eqb k 0 then 4 else if eqb k 1 then 19 else if eqb k 3 then 8 else 10

-- the length of its body: memory words, a name, addresses or a chunk of the source
unfoldable pub body_bytes : ℕ → List ℕ → ℕ
body_bytes k bs =
    if eqb k 0 then 3 * number_at 2 2 bs
    else if eqb k 1 then number_at 11 8 bs
    else if eqb k 2 then 2 * number_at 8 2 bs
    else if eqb k 3 then number_at 0 8 bs
    else number_at 2 8 bs

-- "All its bytes there? 12": where the body of the record whose kind byte stands before `at` starts and ends
unfoldable pub take_record : ℕ → List ℕ → ℕ → TakenBytes
take_record k s at = if has_bytes (at + fixed_bytes k) s then take_bytes (body_bytes k (drop at s)) s (at + fixed_bytes k) else no_bytes

-- "Name or source chunk UTF-8? 13", "Line addresses strictly rising? 14": the number that a body gives, 0 where it is in order
unfoldable pub body_number : ℕ → List ℕ → ℕ
body_number k body =
    if eqb k 0 then 0
    else if eqb k 2 then (if strictly_rise (addresses_from body) then 0 else 14)
    else (if is_utf8 body then 0 else 13)
