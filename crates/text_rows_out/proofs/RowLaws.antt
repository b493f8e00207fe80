-- The lengths of rows, and their parts. Assumes nothing.
use mathlib.Core.Path.{◌≡◌, refl, ap, ◌∙◌}
use mathlib.Core.Bool.{Bool, not}
use mathlib.Core.List.{List, [], ◌∷◌, ◌++◌, append_assoc}
use Prim.Native.Nat.{ℕ, ◌+◌, ◌%◌, ◌^◌}
use native.Mathlib.Omega.{arith}
use lib.ListN.{length, length-append}
use lib.Dec.{eqb}
use Rattle.format.specs.Basics.{ascii}
use Rattle.format.specs.Digits.{digits_of}
use Rattle.format.specs.TextWriter.{hex4, memory_text, text_line, table_div}
use Rattle.format.proofs.ListLaws.{by_test}
use Rattle.std.specs.Bool.{then_some}
use Rattle.text_numerals.specs.Memory.{word_of}
use Rattle.object.specs.Access.{memory_in}
use Rattle.text_rows_out.specs.Rows.{linker_line}

pub hex4-length : (v : ℕ) → length (hex4 v) ≡ 4
unfolding hex4 digits_of
hex4-length v = refl

pub line-length : (t : List ℕ) → length (text_line t) ≡ length t + 1
line-length t = length-append t (0x0A ∷ [])

pub address-length : (v : ℕ) → length (text_line (hex4 v)) ≡ 5
address-length v = line-length (hex4 v) ∙ ap (λ (n : ℕ). n + 1) (hex4-length v)

pub memory_length : (w : ℕ) → length (text_line (memory_text (memory_in w))) ≡ 5
unfolding memory_in ascii
memory_length w = by_test (eqb (w % 2 ^ 29) 0) (λ t. rw t) (λ t. rw t (address-length (w % 2 ^ 16)))

-- the word as the code takes it apart
pub memory_known : (w : ℕ) (t : Bool) → t ≡ not (eqb (w % 2 ^ 29) 0) → word_of (then_some t (w % 2 ^ 16)) ≡ memory_in w
unfolding memory_in
memory_known w t e = by_test (eqb (w % 2 ^ 29) 0) (λ q. rw (e, q)) (λ q. rw (e, q))

-- three cells and a newline
pub row-parts : (a b c : List ℕ) → text_line (a ++ b ++ c) ≡ a ++ (b ++ text_line c)
row-parts a b c = append_assoc (a ++ b) c (0x0A ∷ []) ∙ append_assoc a b (text_line c)

pub linker-length : (address : ℕ) (name : List ℕ) → length (linker_line address name) ≡ 8 + length name
unfolding ascii
linker-length address name =
    line-length (hex4 address ++ table_div ++ name)
    ∙ omega (arith, length-append (hex4 address ++ table_div) name, hex4-length address, length-append (hex4 address) table_div)
