-- The parts of a row, and how long it is. Assumes nothing.
use mathlib.Core.Path.{◌≡◌, refl, sym, ap, ◌∙◌}
use mathlib.Core.Bool.{Bool, true, false}
use mathlib.Core.List.{List, [], ◌∷◌, ◌++◌, append_assoc}
use Prim.Native.Nat.{ℕ, ◌+◌, ◌-◌, ◌*◌, ◌/◌, ◌%◌, ◌^◌, ◌≤◌}
use native.Mathlib.Omega.{arith}
use lib.ListN.{length, length-append, get_or}
use lib.Dec.{leb, ltb}
use borrow.Author.Tests.{ltb-true, ltb-false, leb-true, leb-false}
use Rattle.format.specs.Basics.{ascii}
use Rattle.format.specs.Digits.{digits_of}
use Rattle.format.specs.TextWriter.{hex4, numeral, decimal, spaces, to_right}
use Rattle.format.specs.Utf8.{characters}
use Rattle.format.specs.Words.{flag_bit}
use Rattle.format.proofs.ListLaws.{by_test}
use Rattle.text_numerals.proofs.DigitLaws.{spaces-length}
use Rattle.object.specs.Bodies.{body_at, number_at}
use Rattle.object.specs.Texts.{text_len, text_bytes, bytes_from}
use Rattle.object.proofs.BodyLaws.{body_out}
use Rattle.object.proofs.ByteLaws.{bytes-length, len-none, len_out, len_some}
use Rattle.object.proofs.NumberLaws.{number-few}
use Rattle.label_tables.specs.Rows.{bytes_at, name_at, symbol_line, label_line}

-- A NAME
pub text-few : (ws : List ℕ) (at end : ℕ) → text_len ws at end ≤ 3 * length ws
text-few ws at end =
    by_test (ltb at end)
    (λ s. let h = ltb-true at end s in
    by_test (leb end (length ws))
    (λ t. let k = leb-true end (length ws) t in
    let w = get_or ws (end - 1) 0 / 2 ^ 24 in
    let m : w % 4 ≤ 3 = omega arith in
    omega (arith, len_some ws at end h k))
    (λ t. omega (arith, len_out ws at end h (leb-false end (length ws) t))))
    (λ s. omega (arith, len-none ws at end (ltb-false at end s)))

pub name-none : (ws : List ℕ) (p : ℕ) → length ws ≤ p → text_bytes ws 0 0 ≡ name_at ws p
unfolding bytes_at bytes_from
name-none ws p h =
    let at = p + 1 + 3 in
    let e : length (body_at ws at) ≡ 0 = ap length (body_out ws at (omega arith)) in
    let f : text_len ws at (at + length (body_at ws at)) ≡ 0 = sym (len-none ws at (at + length (body_at ws at)) (omega arith)) in
    sym (ap (text_bytes ws at) f)

pub start_none : (ws : List ℕ) (p : ℕ) → length ws ≤ p → 0 ≡ number_at ws (p + 1)
unfolding number_at
start_none ws p h = rw (number-few ws (p + 1) (omega arith)) refl

-- A ROW OF .SYMBOL
five : (a b c d e z : List ℕ) → a ++ b ++ c ++ d ++ e ++ z ≡ a ++ ((b ++ (c ++ d)) ++ (e ++ z))
five a b c d e z = simp append_assoc

-- the parts that its writer puts together
abbrev pub div : List ℕ
div = 0x20 ∷ 0x7C ∷ 0x20 ∷ []

-- EXT between its dividers, by its digit
abbrev pub ext_cell : ℕ → List ℕ
ext_cell digit = 0x20 ∷ 0x7C ∷ 0x20 ∷ 0x20 ∷ 0x20 ∷ digit ∷ 0x20 ∷ 0x7C ∷ 0x20 ∷ []

ext_cell_lem : (b : Bool) → ext_cell (0x30 + flag_bit b) ≡ div ++ (to_right 3 (decimal (flag_bit b)) ++ div)
unfolding decimal numeral
ext_cell_lem true = refl
ext_cell_lem false = refl

abbrev pub symbol_parts : ℕ → ℕ → List ℕ → List ℕ
symbol_parts w digit name = hex4 (w % 2 ^ 16) ++ (ext_cell digit ++ (name ++ (0x0A ∷ [])))

pub symbol-parts : (ws : List ℕ) (p : ℕ) (w digit : ℕ) (name : List ℕ) → w ≡ get_or ws p 0
    → digit ≡ 0x30 + flag_bit (leb (2 ^ 16) (w % 2 ^ 29)) → name ≡ name_at ws p → symbol_parts w digit name ≡ symbol_line ws p
unfolding symbol_line ascii
symbol-parts ws p w digit name e f g =
    let b = leb (2 ^ 16) (get_or ws p 0 % 2 ^ 29) in
    let address = hex4 (get_or ws p 0 % 2 ^ 16) in
    rw (g, f, e) (ap (λ l. address ++ (l ++ (name_at ws p ++ (0x0A ∷ [])))) (ext_cell_lem b)
    ∙ sym (five address div (to_right 3 (decimal (flag_bit b))) div (name_at ws p) (0x0A ∷ [])))

parts-length : (w digit : ℕ) (name : List ℕ) → length (symbol_parts w digit name) ≡ length name + 14
unfolding hex4 digits_of
parts-length w digit name = omega (arith, length-append name (0x0A ∷ []))

pub symbol-length : (ws : List ℕ) (p : ℕ) → length (symbol_line ws p) ≡ length (name_at ws p) + 14
symbol-length ws p =
    let w = get_or ws p 0 in
    let digit = 0x30 + flag_bit (leb (2 ^ 16) (w % 2 ^ 29)) in
    ap length (sym (symbol-parts ws p w digit (name_at ws p) refl refl refl)) ∙ parts-length w digit (name_at ws p)

-- A ROW OF THE LABEL TABLE
four : (a b c d z : List ℕ) → a ++ b ++ c ++ d ++ z ≡ a ++ (b ++ (c ++ (d ++ z)))
four a b c d z = append_assoc (a ++ b ++ c) d z ∙ append_assoc (a ++ b) c (d ++ z) ∙ append_assoc a b (c ++ (d ++ z))

abbrev pub label_parts : List ℕ → ℕ → ℕ → ℕ → List ℕ
label_parts name fill indices start = name ++ (spaces fill ++ (div ++ (to_right indices (decimal start) ++ (0x0A ∷ []))))

pub label-parts : (ws : List ℕ) (p names indices fill start : ℕ) (name : List ℕ) → name ≡ name_at ws p → fill ≡ names - characters name
    → start ≡ number_at ws (p + 1) → label_parts name fill indices start ≡ label_line names indices ws p
unfolding label_line ascii
label-parts ws p names indices fill start name e f g =
    rw (f, e, g) (sym (four (name_at ws p) (spaces (names - characters (name_at ws p))) div (to_right indices (decimal (number_at ws (p + 1))))
    (0x0A ∷ [])))

pub label-length : (name : List ℕ) (fill indices start : ℕ) → length (label_parts name fill indices start)
    ≡ length name + 4 + fill + length (to_right indices (decimal start))
label-length name fill indices start =
    let r = to_right indices (decimal start) in
    let x = length-append r (0x0A ∷ []) in
    let y = length-append (spaces fill) (div ++ (r ++ (0x0A ∷ []))) in
    let z = length-append name (spaces fill ++ (div ++ (r ++ (0x0A ∷ [])))) in
    omega (arith, spaces-length fill)

-- HOW LONG ROWS ARE, by what the code has of a name
module _ (ws : List ℕ) (p at n : ℕ) (named : text_bytes ws at n ≡ name_at ws p) where
  pub name-size : n ≡ length (name_at ws p)
  name-size = sym (bytes-length ws at 0 n) ∙ ap length named

  pub symbol-size : length (symbol_line ws p) ≡ n + 14
  symbol-size = omega (arith, symbol-length ws p, name-size)

  pub label-size : (names indices fill start right : ℕ) → fill ≡ names - characters (text_bytes ws at n) → start ≡ number_at ws (p + 1)
      → right ≡ length (to_right indices (decimal start)) → length (label_line names indices ws p) ≡ n + 4 + fill + right
  label-size names indices fill start right f s r =
      omega (
        arith,
        ap length (label-parts ws p names indices fill start (text_bytes ws at n) named f s),
        label-length (text_bytes ws at n) fill indices start,
        bytes-length ws at 0 n,
      )
