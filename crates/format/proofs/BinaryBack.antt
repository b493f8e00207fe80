-- Every record that the binary writer writes, the binary reader reads as itself. Assumes nothing.
use mathlib.Core.Path.{◌≡◌, refl, ◌∙◌, ap}
use mathlib.Core.Bool.{Bool, true, false, not}
use mathlib.Core.List.{List, [], ◌∷◌, ◌++◌, flat_map}
use mathlib.Core.Option.{Option, none, some}
use Prim.Native.Nat.{ℕ, suc, ◌+◌, ◌*◌, ◌<◌}
use native.Mathlib.Omega.{arith}
use lib.ListN.{length, drop, length-append}
use lib.Seq.{take-append_seam, take_at, drop_at}
use lib.Dec.{leb, eqb}
use borrow.Author.Tests.{le-leb}
use Rattle.format.specs.Basics.{given, ◌>>=◌, All}
use Rattle.format.specs.Digits.{value_of, digits_of}
use Rattle.format.specs.Tokens.{tokens}
use Rattle.format.specs.Utf8.{is_utf8}
use Rattle.format.specs.ObjectFile.{strictly_rise}
use Rattle.format.specs.Records.{Record, block, label, line_block, source, relocation}
use Rattle.format.specs.Words.{flag_bit}
use Rattle.format.specs.Binary.{record_bytes, record_at, block_from, label_from, lines_from, relocation_from, memories_from, addresses_from, number_at, bytes_at, number_bytes, memory_bytes}
use Rattle.format.proofs.Ranges.{In16, In64, Word16}
use Rattle.format.proofs.Laws.{value_digits, source-from, tokens-step}

abbrev pub Text64 : List ℕ → Type 0
Text64 t = In64 (length t) × (is_utf8 t ≡ true)

-- the record's numbers, counts and lengths fit their fields in a binary file, and its texts are UTF-8
abbrev pub Writable : Record → Type 0
Writable (block b) = In16 b.address × In16 (length b.words) × All Word16 b.words
Writable (label l) = In16 l.address × In64 l.start × Text64 l.name
Writable (line_block l) = In64 l.first × In16 (length l.addresses) × All In16 l.addresses × (strictly_rise l.addresses ≡ true)
Writable (source s) = Text64 s
Writable (relocation r) = In16 r.address × Text64 r.name

cells_length : (ws : List (Option ℕ)) → length (flat_map memory_bytes ws) ≡ 3 * length ws
unfolding flat_map digits_of
cells_length [] = refl
cells_length (none ∷ ws) = let ih = cells_length ws in omega arith
cells_length (some v ∷ ws) = let ih = cells_length ws in omega arith

cells_back : (ws : List (Option ℕ)) → All Word16 ws → memories_from (flat_map memory_bytes ws) ≡ ws
unfolding flat_map digits_of memories_from
cells_back [] h = refl
cells_back (none ∷ ws) h = rw (cells_back ws h.1)
cells_back (some v ∷ ws) h = rw (value_digits 8 2 v h.0, cells_back ws h.1)

pairs_length : (xs : List ℕ) → length (flat_map (number_bytes 2) xs) ≡ 2 * length xs
unfolding flat_map digits_of
pairs_length [] = refl
pairs_length (x ∷ xs) = let ih = pairs_length xs in omega arith

pairs_back : (xs : List ℕ) → All In16 xs → addresses_from (flat_map (number_bytes 2) xs) ≡ xs
unfolding flat_map digits_of addresses_from
pairs_back [] h = refl
pairs_back (x ∷ xs) h = rw (value_digits 8 2 x h.0, pairs_back xs h.1)

module _ (bs name : List ℕ) (n : ℕ) where
  pub label-from :
      (a s : ℕ) (e : Bool) → leb 19 (length bs) ≡ true → number_at 11 8 bs ≡ n → leb (19 + n) (length bs) ≡ true → bytes_at 19 n bs ≡ name → is_utf8 name ≡ true
      → number_at 0 2 bs ≡ a → not (eqb (number_at 2 1 bs) 0) ≡ e → number_at 3 8 bs ≡ s
      → label_from bs ≡ given (label (record { name = name; address = a; external = e; start = s }), 19 + n)
  unfolding label_from
  label-from a s e h1 h2 h3 h4 h5 h6 h7 h8 = rw (h1, h2, h3, h4, h5, h6, h7, h8)

bit_back : (e : Bool) → not (eqb (value_of 8 (digits_of 8 1 (flag_bit e))) 0) ≡ e
unfolding value_of digits_of
bit_back true = refl
bit_back false = refl

module _ (bs : List ℕ) (n : ℕ) where
  pub block-from :
      (a : ℕ) (ws : List (Option ℕ)) → leb 4 (length bs) ≡ true → number_at 2 2 bs ≡ n → leb (4 + 3 * n) (length bs) ≡ true → number_at 0 2 bs ≡ a
      → memories_from (bytes_at 4 (3 * n) bs) ≡ ws → block_from bs ≡ given (block (record { address = a; words = ws }), 4 + 3 * n)
  unfolding block_from
  block-from a ws h1 h2 h3 h4 h5 = rw (h1, h2, h3, h4, h5)

  pub lines-from :
      (f : ℕ) (xs : List ℕ) → leb 10 (length bs) ≡ true → number_at 8 2 bs ≡ n → leb (10 + 2 * n) (length bs) ≡ true → number_at 0 8 bs ≡ f
      → addresses_from (bytes_at 10 (2 * n) bs) ≡ xs → strictly_rise xs ≡ true → lines_from bs ≡ given (line_block (record { first = f; addresses = xs }), 10 + 2 * n)
  unfolding lines_from
  lines-from f xs h1 h2 h3 h4 h5 h6 = rw (h1, h2, h3, h4, h5, h6)

  pub relocation-from :
      (a : ℕ) (name : List ℕ) → leb 10 (length bs) ≡ true → number_at 2 8 bs ≡ n → leb (10 + n) (length bs) ≡ true → number_at 0 2 bs ≡ a → bytes_at 10 n bs ≡ name
      → is_utf8 name ≡ true → relocation_from bs ≡ given (relocation (record { address = a; name = name }), 10 + n)
  unfolding relocation_from
  relocation-from a name h1 h2 h3 h4 h5 h6 = rw (h1, h2, h3, h4, h5, h6)

-- how many bytes a record has after its kind byte
unfoldable pub size_of : Record → ℕ
size_of (block b) = 4 + 3 * length b.words
size_of (label l) = 19 + length l.name
size_of (line_block l) = 10 + 2 * length l.addresses
size_of (source s) = 8 + length s
size_of (relocation r) = 10 + length r.name

pub size-bytes : (r : Record) → length (record_bytes r) ≡ suc (size_of r)
unfolding record_bytes size_of digits_of
size-bytes (block b) = let e = cells_length b.words in omega arith
size-bytes (label l) = omega arith
size-bytes (line_block l) = let e = pairs_length l.addresses in omega arith
size-bytes (source s) = omega arith
size-bytes (relocation r) = omega arith

pub record_back : (r : Record) (rest : List ℕ) → Writable r → record_at (record_bytes r ++ rest) ≡ given (r, size_of r)
unfolding record_bytes record_at size_of digits_of
record_back (block b) rest h =
    let bs : List ℕ = drop 1 (record_bytes (block b) ++ rest) in
    let e = cells_length b.words in
    let f = length-append (flat_map memory_bytes b.words) rest in
    block-from bs (length b.words) b.address b.words (le-leb (4) (length bs) (omega arith)) (value_digits 8 2 (length b.words) h.1) (le-leb (4 + 3 * length b.words) (length bs) (omega arith))
    (value_digits 8 2 b.address h.0)
    (ap memories_from (take_at (flat_map memory_bytes b.words) rest (3 * length b.words) e) ∙ cells_back b.words h.2)
record_back (label l) rest h =
    let bs : List ℕ = drop 1 (record_bytes (label l) ++ rest) in
    let f = length-append l.name rest in
    label-from bs l.name (length l.name) l.address l.start l.external (le-leb (19) (length bs) (omega arith)) (value_digits 8 8 (length l.name) h.2.0)
    (le-leb (19 + length l.name) (length bs) (omega arith)) (take-append_seam l.name rest) h.2.1 (value_digits 8 2 l.address h.0) (bit_back l.external) (value_digits 8 8 l.start h.1)
record_back (line_block l) rest h =
    let bs : List ℕ = drop 1 (record_bytes (line_block l) ++ rest) in
    let e = pairs_length l.addresses in
    let f = length-append (flat_map (number_bytes 2) l.addresses) rest in
    lines-from bs (length l.addresses) l.first l.addresses (le-leb (10) (length bs) (omega arith)) (value_digits 8 2 (length l.addresses) h.1)
    (le-leb (10 + 2 * length l.addresses) (length bs) (omega arith)) (value_digits 8 8 l.first h.0)
    (ap addresses_from (take_at (flat_map (number_bytes 2) l.addresses) rest (2 * length l.addresses) e) ∙ pairs_back l.addresses h.2) h.3
record_back (source s) rest h =
    let bs : List ℕ = drop 1 (record_bytes (source s) ++ rest) in
    let f = length-append s rest in
    source-from bs s (length s) (le-leb (8) (length bs) (omega arith)) (value_digits 8 8 (length s) h.0) (le-leb (8 + length s) (length bs) (omega arith)) (take-append_seam s rest) h.1
record_back (relocation r) rest h =
    let bs : List ℕ = drop 1 (record_bytes (relocation r) ++ rest) in
    let f = length-append r.name rest in
    relocation-from bs (length r.name) r.address r.name (le-leb (10) (length bs) (omega arith)) (value_digits 8 8 (length r.name) h.1.0)
    (le-leb (10 + length r.name) (length bs) (omega arith)) (value_digits 8 2 r.address h.0) (take-append_seam r.name rest) h.1.1

-- a token at the front of a list that is not empty
token_step :
    (xs : List ℕ) (r : Record) (n : ℕ) → 0 < length xs → record_at xs ≡ given (r, n)
    → tokens record_at 0 xs ≡ (tokens record_at 0 (drop (suc n) xs) >>= λ ts. given (r ∷ ts))
token_step [] r n h e = absurd (omega arith)
token_step (x ∷ xs) r n h e = tokens-step record_at x xs r n e

-- the records of a file are read in the order in which they were written
pub records_back : (rs : List Record) → All Writable rs → tokens record_at 0 (flat_map record_bytes rs) ≡ given rs
unfolding flat_map tokens
records_back [] h = refl
records_back (r ∷ rs) h =
    let size : length (record_bytes r) ≡ suc (size_of r) = size-bytes r in
    let all = length-append (record_bytes r) (flat_map record_bytes rs) in
    token_step (record_bytes r ++ flat_map record_bytes rs) r (size_of r) (omega arith) (record_back r (flat_map record_bytes rs) h.0)
    ∙ rw (drop_at (record_bytes r) (flat_map record_bytes rs) (suc (size_of r)) size, records_back rs h.1)
