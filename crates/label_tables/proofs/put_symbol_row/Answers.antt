-- Four parts, one after the other. Assumes nothing.
use borrow.Author.Rules.{rules}
use native.Mathlib.Omega.{arith}
use mathlib.Core.Path.{◌≡◌, refl, sym}
use mathlib.Core.List.{List, [], ◌∷◌, ◌++◌}
use Prim.Native.Nat.{ℕ, ◌+◌, ◌%◌, ◌^◌, ◌<◌}
use lib.ListN.{length, set}
use Rattle.format.specs.TextWriter.{hex4}
use Rattle.writing.proofs.WriteLaws.{too_short}
use Rattle.writing.proofs.Parts.{State, Emits, after, begun, emit, emit_one, room-one, emitted, within, small}
use Rattle.object.specs.Texts.{text_bytes}
use Rattle.label_tables.specs.Rows.{symbol_line}
use Rattle.label_tables.proofs.RowLaws.{ext_cell, symbol-parts, symbol-size}
use Rattle.label_tables.proofs.put_symbol_row.Lts as lts
use Rattle.label_tables.proofs.put_symbol_row.Reads as reads
use Rattle.label_tables.proofs.put_symbol_row.Tie as tie
use Rattle.label_tables.proofs.put_symbol_row.Goals as goal

abbrev After-put_text : Type 0
After-put_text = lts.After-put_text tie.the-claims reads.Pre reads.Post

abbrev After-put_bytes : Type 0
After-put_bytes = lts.After-put_bytes tie.the-claims reads.Pre reads.Post

abbrev After-put_hex4 : Type 0
After-put_hex4 = lts.After-put_hex4 tie.the-claims reads.Pre reads.Post

abbrev After-ext_digit : Type 0
After-ext_digit = lts.After-ext_digit tie.the-claims reads.Pre reads.Post

abbrev After-name_of : Type 0
After-name_of = lts.After-name_of tie.the-claims reads.Pre reads.Post

-- how long the row is
long : (c : After-name_of) → let a = c.args in
    length (symbol_line a.ws.now a.p) ≡ c.name_of-name.result.len + 14
long c =
    let a = c.args in
    symbol-size a.ws.now a.p c.name_of-name.result.at c.name_of-name.result.len c.name_of-name.ensures.0

abbrev room : (b : After-ext_digit) → List ℕ
room b = b.args.out.now

abbrev word : (b : After-ext_digit) → ℕ
word b = b.head_at-w.result

abbrev left2 : (b : After-ext_digit) → List ℕ
left2 b = text_bytes b.args.ws.now b.name_of-name.result.at b.name_of-name.result.len ++ (0x0A ∷ [])

abbrev left1 : (b : After-ext_digit) → List ℕ
left1 b = ext_cell b.ext_digit-ext.result ++ (left2 b)

abbrev line : (b : After-ext_digit) → List ℕ
line b = symbol_line b.args.ws.now b.args.p

parts : (b : After-ext_digit) → (line b) ≡ hex4 ((word b) % 2 ^ 16) ++ (left1 b)
parts b = sym (symbol-parts b.args.ws.now b.args.p (word b) b.ext_digit-ext.result _
    b.head_at-w.ensures b.ext_digit-ext.ensures b.name_of-name.ensures.0)

tight : (b : After-ext_digit) → length (room b) < 2 ^ 64
tight b = search rules

abbrev state1 : (c : After-put_hex4) → State ℕ
state1 c = record { at = c.put_hex4-k.result; out = c.put_hex4-k.new.out }

emits1 : (c : After-put_hex4) → Emits (line c.before.before) (room c.before.before) (left1 c.before.before) (state1 c)
emits1 c = begun _ (left1 c.before.before) (parts c.before.before) (omega (arith, long c.before.before.before.before.before.before, c.if-out-name.false)) c.put_hex4-k.ensures

abbrev state2 : (c : After-put_bytes) → State ℕ
state2 c = after (state1 c.before.before.before.before.before) c.put_bytes-k.result c.put_bytes-k.new.out

emits2 : (c : After-put_bytes) → Emits (line c.before.before.before.before.before.before.before) (room c.before.before.before.before.before.before.before) (left2 c.before.before.before.before.before.before.before) (state2 c)
emits2 c = emit (emits1 c.before.before.before.before.before) _ (left2 c.before.before.before.before.before.before.before) refl c.put_bytes-k.ensures

emits3 : (c : After-put_text) → Emits (line c.before.before.before.before.before.before.before.before.before.before.before) (room c.before.before.before.before.before.before.before.before.before.before.before) (0x0A ∷ []) (after (state2 c.before.before.before.before) c.put_text-k.result c.put_text-k.new.out)
emits3 c = emit (emits2 c.before.before.before.before) _ (0x0A ∷ []) refl c.put_text-k.ensures

abbrev end : (c : After-put_text) → State ℕ
end c = after (state2 c.before.before.before.before) c.put_text-k.result c.put_text-k.new.out

emits4 : (c : After-put_text) → Emits (line c.before.before.before.before.before.before.before.before.before.before.before) (room c.before.before.before.before.before.before.before.before.before.before.before) [] (record { at = (end c).at + 1; out = set (end c).out (end c).at 0x0A })
emits4 c = emit_one (emits3 c) 0x0A [] refl

pub returns-then-out-name : goal.returns-then-out-name
returns-then-out-name c = too_short _ _ _ (long c.before.before.before) c.if-out-name.true

pub slice_bounds-put_bytes-count : goal.slice_bounds-put_bytes-count
slice_bounds-put_bytes-count c = within (emits1 c.before.before.before)

pub slice_bounds-put_bytes-start : goal.slice_bounds-put_bytes-start
slice_bounds-put_bytes-start c = within (emits1 c.before.before.before)

pub overflow_add-k : goal.overflow_add-k
overflow_add-k c = small (emits2 c.before.before.before) (tight c.before.before.before.before.before.before.before.before.before.before)

pub slice_bounds-put_text-count : goal.slice_bounds-put_text-count
slice_bounds-put_text-count c = within (emits2 c.before.before.before)

pub slice_bounds-put_text-start : goal.slice_bounds-put_text-start
slice_bounds-put_text-start c = within (emits2 c.before.before.before)

pub overflow_add-k-2 : goal.overflow_add-k-2
overflow_add-k-2 c = small (emits3 c.before.before.before) (tight c.before.before.before.before.before.before.before.before.before.before.before.before.before.before)

pub bounds-out-k : goal.bounds-out-k
bounds-out-k c = room-one (emits3 c.before.before.before) 0x0A [] refl

pub overflow_add-result : goal.overflow_add-result
overflow_add-result c = small (emits4 c.before.before.before) (tight c.before.before.before.before.before.before.before.before.before.before.before.before.before.before)

pub returns : goal.returns
returns c = emitted (emits4 c.before.before.before) refl
