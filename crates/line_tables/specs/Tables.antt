-- Line blocks asked by line and by address: what the calls hand back, and what their parts say of the records. Assumes nothing.
use Rattle.std.specs.Prelude.{◌≡◌, List, ℕ, ◌+◌, ◌-◌, ◌%◌, ◌^◌, ◌≤◌, ◌<◌, length, ltb, if◌then◌else◌, Some, None, Result, Ok, Err}
use Rattle.std.specs.Prelude as std
use Rattle.std.proofs.Math.Option.{Option, none, some}
use Rattle.std.proofs.Math.ListN.{get_elem?}
use Rattle.format.specs.Basics.{given, need, and_then}
use Rattle.format.specs.ObjectFile.{ObjectFile, LineBlock}
use Rattle.format.specs.Words.{object_of}
use Rattle.format.specs.Source.{last_starting, offset_of, find_line}
use Rattle.format.specs.Calls.{Value, value_answer}
use Rattle.units.specs.Refusal.{number_of}
use Rattle.units.specs.declared.refusal.Refusal.{Refusal}
use Rattle.units.specs.declared.Line.{Line}
use Rattle.units.specs.declared.Address.{Address}
use Rattle.object.specs.Bodies.{number_at}
use Rattle.object.specs.Access.{line_block_at}

-- THE ANSWERS: document 01's number and value of what is handed back: the value is 0 on a refusal
abbrev pub line_answer : Result Line Refusal → Value
line_answer (Ok line) = record { number = 0; value = line.0 }
line_answer (Err r) = record { number = number_of r; value = 0 }

abbrev pub address_answer : Result Address Refusal → Value
address_answer (Ok a) = record { number = 0; value = a.0 }
address_answer (Err r) = record { number = number_of r; value = 0 }

-- THE PARTS
abbrev pub offset_in : std.Option ℕ → Option ℕ
offset_in (Some i) = some i
offset_in None = none

abbrev pub line_found : std.Option Line → Option ℕ
line_found (Some line) = some line.0
line_found None = none

abbrev pub address_found : std.Option Address → Option ℕ
address_found (Some a) = some a.0
address_found None = none

-- the line of an address by one block
abbrev pub line_by : LineBlock → ℕ → Option ℕ
line_by l a = and_then (offset_of a l.addresses) λ i. some ((l.first + i) % 2 ^ 64)

-- the address of a line by one block, if there is one
abbrev pub address_by : Option LineBlock → ℕ → Option ℕ
address_by b line = and_then b λ l. get_elem? l.addresses (line - l.first)

-- the line block at a place of the object, none past it
unfoldable pub block_in : List ℕ → ℕ → Option LineBlock
block_in ws at = if ltb at (length ws) then some (line_block_at ws at) else none

-- a line block stands at a place that begins at or before a line
abbrev pub Begins : List ℕ → ℕ → ℕ → Type 0
Begins ws at line = (at < length ws) × (number_at ws (at + 1) ≤ line)

abbrev pub FoundIn : List ℕ → ℕ → Result Line Refusal → Type 0
FoundIn ws a r = (h : ObjectFile) → object_of ws ≡ given h → line_answer r ≡ value_answer (need 6 (find_line h.line_blocks a))

-- the block at a place, if there is one
abbrev pub placed_in : List ℕ → std.Option ℕ → Option LineBlock
placed_in ws (Some at) = block_in ws at
placed_in ws None = none

abbrev pub BeginsIn : List ℕ → ℕ → std.Option ℕ → Type 0
BeginsIn ws line (Some at) = Begins ws at line
BeginsIn ws line None = Unit {0}

abbrev pub LastIn : List ℕ → ℕ → std.Option ℕ → Type 0
LastIn ws line r = ((h : ObjectFile) → object_of ws ≡ given h → placed_in ws r ≡ last_starting line h.line_blocks) × BeginsIn ws line r
