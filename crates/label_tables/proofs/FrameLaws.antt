-- A table's header and its rows. Assumes nothing.
use mathlib.Core.Path.{◌≡◌, refl, sym, ap, ◌∙◌}
use mathlib.Core.List.{List, [], ◌∷◌, ◌++◌, append_assoc, flat_map}
use Prim.Native.Nat.{ℕ, ◌+◌, ◌-◌}
use native.Mathlib.Omega.{arith}
use lib.ListN.{length, length-append}
use Rattle.std.specs.Prelude.{if◌then◌else◌}
use Rattle.format.specs.Basics.{is_empty, ascii}
use Rattle.format.specs.TextWriter.{text_line, spaces, symbol_header, label_header}
use Rattle.format.specs.Utf8.{characters}
use Rattle.text_numerals.proofs.DigitLaws.{spaces-length}
use Rattle.writing.specs.Written.{Put}
use Rattle.writing.proofs.Parts.{begin, emitted}
use Rattle.label_tables.specs.Tables.{table_of}

module _ (header : List ℕ) (line : ℕ → List ℕ) (ps order : List ℕ) where
  abbrev rows : List ℕ → List ℕ
  rows qs = if is_empty qs then [] else text_line header ++ flat_map line order

  pub table_none : ps ≡ [] → table_of header line ps order ≡ []
  unfolding table_of is_empty
  table_none e = ap rows e

  pub table_some : (p : ℕ) (qs : List ℕ) → ps ≡ p ∷ qs → table_of header line ps order ≡ text_line header ++ flat_map line order
  unfolding table_of is_empty
  table_some p qs e = ap rows e

  pub table_size : (n p : ℕ) (qs : List ℕ) → ps ≡ p ∷ qs → length (text_line header) ≡ n
      → length (table_of header line ps order) ≡ n + length (flat_map line order)
  table_size n p qs e l =
      ap length (table_some p qs e) ∙ length-append (text_line header) (flat_map line order) ∙ ap (λ k. k + length (flat_map line order)) l

-- .SYMBOL's header, as its writer has it
abbrev pub symbol_bytes : List ℕ
symbol_bytes =
    0x41 ∷ 0x44 ∷ 0x44 ∷ 0x52 ∷ 0x20 ∷ 0x7C ∷ 0x20 ∷ 0x45 ∷ 0x58 ∷ 0x54 ∷ 0x20 ∷ 0x7C ∷ 0x20 ∷ 0x4C ∷ 0x41 ∷ 0x42 ∷ 0x45 ∷ 0x4C ∷ 0x0A ∷ []

pub symbol-header : symbol_bytes ≡ text_line symbol_header
unfolding ascii
symbol-header = refl

-- the label table's header, in the parts that its writer puts together
abbrev pub label_bytes : List ℕ
label_bytes = 0x4C ∷ 0x41 ∷ 0x42 ∷ 0x45 ∷ 0x4C ∷ []

abbrev pub index_bytes : List ℕ
index_bytes = 0x20 ∷ 0x7C ∷ 0x20 ∷ 0x49 ∷ 0x4E ∷ 0x44 ∷ 0x45 ∷ 0x58 ∷ []

abbrev pub header_parts : ℕ → ℕ → List ℕ
header_parts names indices = label_bytes ++ (spaces names ++ (index_bytes ++ (spaces indices ++ (0x0A ∷ []))))

regroup : (a s d b t z : List ℕ) → a ++ s ++ d ++ (b ++ t) ++ z ≡ a ++ (s ++ (d ++ (b ++ (t ++ z))))
regroup a s d b t z =
    append_assoc (a ++ s ++ d) (b ++ t) z ∙ ap (λ l. a ++ s ++ d ++ l) (append_assoc b t z) ∙ append_assoc (a ++ s) d (b ++ (t ++ z))
    ∙ append_assoc a s (d ++ (b ++ (t ++ z)))

pub label-header : (names indices : ℕ) → header_parts (names - 5) (indices - 5) ≡ text_line (label_header names indices)
unfolding ascii characters
label-header names indices =
    sym (regroup label_bytes (spaces (names - 5)) (0x20 ∷ 0x7C ∷ 0x20 ∷ []) (0x49 ∷ 0x4E ∷ 0x44 ∷ 0x45 ∷ 0x58 ∷ []) (spaces (indices - 5))
    (0x0A ∷ []))

header-length : (a b : ℕ) → length (header_parts a b) ≡ 14 + a + b
header-length a b =
    let x = length-append (spaces b) (0x0A ∷ []) in
    let y = length-append (spaces a) (index_bytes ++ (spaces b ++ (0x0A ∷ []))) in
    omega (arith, spaces-length a, spaces-length b)

pub label-header-size : (names indices a b : ℕ) → a ≡ names - 5 → b ≡ indices - 5
    → length (text_line (label_header names indices)) ≡ 14 + a + b
label-header-size names indices a b e f =
    ap length (sym (label-header names indices)) ∙ header-length (names - 5) (indices - 5) ∙ omega arith

-- AN EMPTY PART
pub put-nothing : (space : List ℕ) → Put [] space 0 space
put-nothing space = emitted (begin [] space (omega arith)) refl
