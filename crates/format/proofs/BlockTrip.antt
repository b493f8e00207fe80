-- The .TEXT group gives the blocks back. Assumes nothing.
use mathlib.Core.Path.{◌≡◌, refl, sym, ◌∙◌, ap}
use mathlib.Core.Bool.{true}
use mathlib.Core.List.{List, [], ◌∷◌, ◌++◌, map, append_assoc, flat_map}
use mathlib.Core.Option.{Option, none, some}
use Prim.Native.Nat.{ℕ, zero, suc, ◌^◌, ◌<◌}
use native.Mathlib.Omega.{arith}
use lib.ListN.{length, take, drop, length-append, length-map}
use lib.Seq.{take_at, drop_at}
use lib.Dec.{leb}
use borrow.Author.Tests.{le-leb}
use Rattle.format.specs.Basics.{Outcome, given, all_some, All, is_some}
use Rattle.format.specs.Tokens.{scan_tokens}
use Rattle.format.specs.Sorted.{upsert, at_key, upsert_all}
use Rattle.format.proofs.SortedLaws.{Rises}
use Rattle.format.specs.ObjectFile.{Block, ObjectFile, block_key}
use Rattle.format.specs.Records.{block, put_record, with_blocks}
use Rattle.format.specs.TextWriter.{text_line, hex4, decimal, memory_text, block_lines}
use Rattle.format.specs.TextReader.{hex2u16, parse_decimal, maybe_hex2u16, block_at, parse_text_group}
use Rattle.format.proofs.ListLaws.{all_map, all_images, flat_map-map}
use Rattle.format.proofs.ListFacts.{all_some_lem, all-flat_map, flat_map-flat_map, flat_map_ext}
use Rattle.format.proofs.NumeralBack.{hex_back, decimal-back, decimal_numeric, entry-back, entry_numeric}
use Rattle.format.proofs.Ranges.{Word16}
use Rattle.format.proofs.RowLaws.{Ordinary, numeric_ordinary, hex_ordinary, entry-full}
use Rattle.format.proofs.OrderLaws.{absent_upsert}

-- what the text form asks of a block: numbers and a count that fit
abbrev pub TextBlock : Block → Type 0
TextBlock b = (b.address < 2 ^ 16) × (length b.words < 2 ^ 16) × All Word16 b.words

abbrev pub block_rows : Block → List (List ℕ)
block_rows b = hex4 b.address ∷ decimal (length b.words) ∷ map memory_text b.words

block_path :
    (h : ObjectFile) (l c : List ℕ) (ls : List (List ℕ)) (a n : ℕ) (ws : List (Option ℕ)) → hex2u16 l ≡ some a → parse_decimal (2 ^ 16) c ≡ some n → leb n (length ls) ≡ true
    → all_some maybe_hex2u16 (take n ls) ≡ some ws → at_key block_key (a ∷ []) h.blocks ≡ none
    → block_at h (l ∷ c ∷ ls) ≡ given (put_record h (block (record { address = a; words = ws })), suc n)
unfolding block_at is_some
block_path h l c ls a n ws h1 h2 h3 h4 h5 = rw (h1, h2, h3, h4, h5)

pub block_at_lem :
    (h : ObjectFile) (b : Block) (rest : List (List ℕ)) → TextBlock b → at_key block_key (b.address ∷ []) h.blocks ≡ none
    → block_at h (block_rows b ++ rest) ≡ given (put_record h (block b), suc (length b.words))
block_at_lem h b rest r f =
    let n : length b.words < 2 ^ 64 = omega (arith, r.1) in
    let m = length-map b.words memory_text in
    let k = length-append (map memory_text b.words) rest in
    block_path h (hex4 b.address) (decimal (length b.words)) (map memory_text b.words ++ rest) b.address (length b.words) b.words (hex_back b.address r.0)
    (decimal-back (2 ^ 16) (length b.words) n r.1) (le-leb (length b.words) (length (map memory_text b.words ++ rest)) (omega arith))
    (ap (all_some maybe_hex2u16) (take_at (map memory_text b.words) rest (length b.words) m) ∙ all_some_lem maybe_hex2u16 memory_text b.words (all_map entry-back b.words r.2)) f

scan_drop : {A S : Type 0} (one : S → List A → Outcome (S × ℕ)) (s : S) (k : ℕ) (xs : List A) → scan_tokens one s k xs ≡ scan_tokens one s 0 (drop k xs)
unfolding scan_tokens
scan_drop one s zero [] = refl
scan_drop one s (suc k) [] = refl
scan_drop one s zero (x ∷ xs) = refl
scan_drop one s (suc k) (x ∷ xs) = scan_drop one s k xs

pub blocks-back :
    (h : ObjectFile) (bs : List Block) → Rises block_key bs → All TextBlock bs → All (λ b. at_key block_key (block_key b) h.blocks ≡ none) bs
    → parse_text_group h (flat_map block_rows bs) ≡ given (with_blocks h (upsert_all block_key bs h.blocks))
unfolding parse_text_group scan_tokens flat_map upsert_all put_record
blocks-back h [] r i f = refl
blocks-back h (b ∷ bs) r i f =
    let rest : List (List ℕ) = flat_map block_rows bs in
    let e = block_at_lem h b rest i.0 f.0 in
    let m = length-map b.words memory_text in
    let d : drop (length b.words) (map memory_text b.words ++ rest) ≡ rest = drop_at (map memory_text b.words) rest (length b.words) m in
    rw (e, scan_drop block_at (with_blocks h (upsert block_key b h.blocks)) (length b.words) (map memory_text b.words ++ rest), d)
    (blocks-back (with_blocks h (upsert block_key b h.blocks)) bs r.1 i.1 (absent_upsert block_key b bs h.blocks r.0 f.1))

pub blocks_ordinary : (bs : List Block) → All TextBlock bs → All Ordinary (flat_map block_rows bs)
blocks_ordinary bs h = all-flat_map Ordinary block_rows bs (all_map one bs h)
  where
    one : (b : Block) → TextBlock b → All Ordinary (block_rows b)
    one b i =
        let n : length b.words < 2 ^ 64 = omega (arith, i.1) in
        let d = decimal_numeric (length b.words) n in
        (hex_ordinary b.address, (numeric_ordinary (decimal (length b.words)) d.0 d.1, all_images Ordinary memory_text b.words (all_map (λ w p. numeric_ordinary (memory_text w) (entry_numeric w) (entry-full w)) b.words i.2)))

pub blocks-lines : (bs : List Block) → flat_map block_lines bs ≡ flat_map text_line (flat_map block_rows bs)
unfolding block_lines
blocks-lines bs = flat_map_ext block_lines (λ b. flat_map text_line (block_rows b)) one bs ∙ sym (flat_map-flat_map text_line block_rows bs)
  where
    one : (b : Block) → text_line (hex4 b.address) ++ text_line (decimal (length b.words)) ++ flat_map (λ w. text_line (memory_text w)) b.words ≡ flat_map text_line (block_rows b)
    one b = unfold flat_map in append_assoc (text_line (hex4 b.address)) (text_line (decimal (length b.words))) (flat_map (λ w. text_line (memory_text w)) b.words)
        ∙ ap (λ (r : List ℕ). text_line (hex4 b.address) ++ (text_line (decimal (length b.words)) ++ r)) (sym (flat_map-map text_line memory_text b.words))
