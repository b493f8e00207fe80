-- The length of a binary file is the same in every record order. Assumes nothing.
use mathlib.Core.Path.{◌≡◌}
use mathlib.Core.List.{List, ◌++◌, map, flat_map}
use Prim.Native.Nat.{◌+◌}
use native.Mathlib.Omega.{arith}
use lib.ListN.{length, length-append}
use Rattle.format.specs.ObjectFile.{Label, Relocation, ObjectFile}
use Rattle.format.specs.Records.{Record, block, label, line_block, relocation, records_of, source_records}
use Rattle.format.specs.Binary.{header, record_bytes, binary_file}
use Rattle.format.specs.Calls.{Reordered, in_order}
use Rattle.format.proofs.ListLaws.{flat_map-length, flat_map_reordered, reordered_map}

pub binary-order :
    (h : ObjectFile) (ls : List Label) (rs : List Relocation) → Reordered h.labels ls → Reordered h.relocations rs → length (binary_file (in_order h ls rs)) ≡ length (binary_file h)
unfolding binary_file records_of
binary-order h ls rs p q =
    let size = flat_map-length record_bytes in
    let bs : List Record = map block h.blocks in
    let ms : List Record = map line_block h.line_blocks in
    let ss : List Record = source_records h.source in
    let sum : (xs ys : List Record) → length (flat_map record_bytes (bs ++ xs ++ ms ++ ss ++ ys)) ≡ length (flat_map record_bytes bs) + length (flat_map record_bytes xs) + length (flat_map record_bytes ms) + length (flat_map record_bytes ss) + length (flat_map record_bytes ys) =
    λ xs ys. omega (arith, size (bs ++ xs ++ ms ++ ss) ys, size (bs ++ xs ++ ms) ss, size (bs ++ xs) ms, size bs xs) in
    omega
    (arith, length-append header (flat_map record_bytes (records_of (in_order h ls rs))), length-append header (flat_map record_bytes (records_of h)), sum (map label ls) (map relocation rs), sum (map label h.labels) (map relocation h.relocations), flat_map_reordered record_bytes (reordered_map label p), flat_map_reordered record_bytes (reordered_map relocation q))
