-- The lines of the tables are ordinary, and those of the label tables no bars. Assumes nothing.
use mathlib.Core.Path.{◌≡◌, refl}
use mathlib.Core.Bool.{false}
use mathlib.Core.List.{List, [], ◌∷◌, flat_map}
use Prim.Native.Nat.{ℕ}
use native.Mathlib.Omega.{arith}
use lib.ListN.{length}
use Rattle.format.specs.Basics.{ascii, begins_with, is_empty, every, All}
use Rattle.format.specs.Utf8.{open-Utf8}
use Rattle.format.specs.ObjectFile.{Block, Label, Relocation}
use Rattle.format.specs.TextWriter.{to_left, decimal, hex4, memory_text, symbol_row, linker_row, label_row, by_address, by_start, symbol_header, linker_header, label_width, index_width, label_header}
use Rattle.format.specs.TextReader.{is_bar}
use Rattle.format.proofs.ListLaws.{all_map, all_images}
use Rattle.format.proofs.ListFacts.{all_of, all-flat_map}
use Rattle.format.proofs.NumeralBack.{Numeric, Full, hex_numeric, decimal_numeric, entry_numeric}
use Rattle.format.proofs.LineLaws.{printable_line}
use Rattle.format.proofs.RowLaws.{Ordinary, Starts, row_ordinary, printable_text, symbol_ordinary, linker_ordinary, index_ordinary, index_no_bar, entry-full, hex_full}
use Rattle.format.proofs.BlockTrip.{TextBlock, block_rows}
use Rattle.format.proofs.LabelTrip.{TextLabel, TextRelocation, symbol_lines, linker_lines, index_lines, LABEL_visible, INDEX_visible}
use Rattle.format.proofs.DebugTrip.{left_printable}
use Rattle.format.proofs.FileLaws.{printable_by, EndsVisible}

symbol-header : Ordinary symbol_header
unfolding open-Utf8 is_empty ascii begins_with every
symbol-header = let p = printable_by symbol_header refl in (printable_line symbol_header p, printable_text symbol_header p, refl, refl)

linker-header : Ordinary linker_header
unfolding open-Utf8 is_empty ascii begins_with every
linker-header = let p = printable_by linker_header refl in (printable_line linker_header p, printable_text linker_header p, refl, refl)

LABEL-starts : (w : ℕ) → Starts (to_left w (ascii "LABEL"))
unfolding ascii
LABEL-starts w = (λ e. omega arith, λ e. omega arith)

index_header : (names indices : ℕ) → Ordinary (label_header names indices)
index_header names indices =
    let a : List ℕ = to_left names (ascii "LABEL") in
    let b : List ℕ = to_left indices (ascii "INDEX") in
    let p = left_printable names (ascii "LABEL") LABEL_visible in
    let q = left_printable indices (ascii "INDEX") INDEX_visible in
    row_ordinary a b (LABEL-starts names) (printable_line a p) (printable_line b q) (printable_text a p) (printable_text b q)

header_no_bar : (names indices : ℕ) → is_bar (label_header names indices) ≡ false
unfolding ascii begins_with
header_no_bar names indices = refl

pub symbols_ordinary : (ls : List Label) → All TextLabel (by_address ls) → All Ordinary (symbol_lines ls)
symbols_ordinary [] h = tt
symbols_ordinary (l ∷ ls) h = (symbol-header, all_images Ordinary symbol_row (by_address (l ∷ ls)) (all_map (λ m i. symbol_ordinary m i.2) (by_address (l ∷ ls)) h))

pub linkers_ordinary : (rs : List Relocation) → All TextRelocation rs → All Ordinary (linker_lines rs)
linkers_ordinary [] h = tt
linkers_ordinary (q ∷ rs) h = (linker-header, all_images Ordinary linker_row (q ∷ rs) (all_map (λ m i. linker_ordinary m i.1) (q ∷ rs) h))

pub indices_ordinary : (ls : List Label) → All TextLabel (by_start ls) → All Ordinary (index_lines ls)
indices_ordinary [] h = tt
indices_ordinary (l ∷ ls) h =
    let n : ℕ = label_width (l ∷ ls) in
    let w : ℕ = index_width (l ∷ ls) in
    (index_header n w, all_images Ordinary (label_row n w) (by_start (l ∷ ls)) (all_map (λ m i. index_ordinary n w m i.1 i.2) (by_start (l ∷ ls)) h))

pub indices_no_bars : (ls : List Label) → All TextLabel (by_start ls) → All (λ l. is_bar l ≡ false) (index_lines ls)
indices_no_bars [] h = tt
indices_no_bars (l ∷ ls) h =
    let n : ℕ = label_width (l ∷ ls) in
    let w : ℕ = index_width (l ∷ ls) in
    (header_no_bar n w, all_images (λ r. is_bar r ≡ false) (label_row n w) (by_start (l ∷ ls)) (all_map (λ m i. index_no_bar n w m i.2) (by_start (l ∷ ls)) h))

-- the last byte of a block's row is visible
numeric_ends : (t : List ℕ) → All Numeric t → Full t → EndsVisible t
numeric_ends [] h f = absurd f
numeric_ends (b ∷ []) h f = ([], b, refl, (omega (arith, h.0.0), omega (arith, h.0.1)))
numeric_ends (b ∷ c ∷ bs) h f =
    let r = numeric_ends (c ∷ bs) h.1 tt in
    (b ∷ r.0, r.1, mathlib.Core.Path.ap (λ (x : List ℕ). b ∷ x) r.2, r.3)

pub blocks_end : (bs : List Block) → All TextBlock bs → All EndsVisible (flat_map block_rows bs)
blocks_end bs h = all-flat_map EndsVisible block_rows bs (all_map one bs h)
  where
    one : (b : Block) → TextBlock b → All EndsVisible (block_rows b)
    one b i =
        let d = decimal_numeric (length b.words) (omega (arith, i.1)) in
        (numeric_ends (hex4 b.address) (hex_numeric b.address) (hex_full b.address), (numeric_ends (decimal (length b.words)) d.0 d.1, all_images EndsVisible memory_text b.words (all_of (λ w. numeric_ends (memory_text w) (entry_numeric w) (entry-full w)) b.words)))
