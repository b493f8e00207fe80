-- The parts of each record. Assumes nothing.
use mathlib.Core.Path.{◌≡◌, refl, sym, ap, ◌∙◌}
use mathlib.Core.Bool.{Bool}
use mathlib.Core.List.{List, [], ◌∷◌, ◌++◌, flat_map}
use Prim.Native.Nat.{ℕ, zero, suc, ◌+◌, ◌*◌, ◌/◌, ◌%◌, ◌≤◌}
use native.Mathlib.Omega.{arith}
use lib.ListN.{length, get_or, length-append}
use lib.Dec.{ltb}
use borrow.Author.Tests.{eq-eqb, ne_eqb}
use Rattle.std.specs.Prelude.{if◌then◌else◌}
use Rattle.format.specs.TextWriter.{hex4, lower_digit, numeral, decimal, memory_text, text_line}
use Rattle.format.proofs.ListLaws.{by_test}
use Rattle.writing.specs.Written.{Put}
use Rattle.writing.proofs.EachLaws.{length-flat_map}
use Rattle.writing.proofs.Parts.{begin, emitted}
use Rattle.object.specs.Bodies.{body_at}
use Rattle.object.specs.Texts.{text_len, text_bytes}
use Rattle.object.specs.Access.{memory_in, address_in, kind_at}
use Rattle.text_rows_out.specs.Rows.{linker_line}
use Rattle.text_rows_out.proofs.RowLaws.{address-length, line-length, memory_length}
use Rattle.text_parts_out.specs.Parts.{memory_lines, block_text, link_text}

numeral-short : (k base n : ℕ) (ds : List ℕ) → length (numeral k base n ds) ≤ suc k + length ds
unfolding numeral
numeral-short zero base n ds = omega arith
numeral-short (suc k) base n ds =
    by_test (ltb n base) (λ t. rw t (omega arith))
    (λ t. rw t (omega (arith, numeral-short k base (n / base) (lower_digit (n % base) ∷ ds))))

pub decimal-short : (n : ℕ) → length (decimal n) ≤ 20
unfolding decimal
decimal-short n = numeral-short 19 10 n []

-- MEMORY WORDS
pub memory_next : (w : ℕ) (ws : List ℕ) → memory_lines (w ∷ ws) ≡ text_line (memory_text (memory_in w)) ++ memory_lines ws
unfolding memory_lines flat_map
memory_next w ws = refl

pub memory_none : memory_lines [] ≡ []
unfolding memory_lines flat_map
memory_none = refl

-- A BLOCK
module _ (ws : List ℕ) (at : ℕ) where
  abbrev body : List ℕ
  body = body_at ws (at + 1)

  abbrev pub block_head : List ℕ
  block_head = text_line (hex4 (address_in (get_or ws at 0))) ++ text_line (decimal (length body))

  pub block-parts : block_text ws at ≡ block_head ++ memory_lines body
  unfolding block_text
  block-parts = refl

  pub block_size : length (block_text ws at) ≡ length (decimal (length body)) + 6 + 5 * length body
  unfolding memory_lines
  block_size =
      let a = text_line (hex4 (address_in (get_or ws at 0))) in
      let b = text_line (decimal (length body)) in
      let m : length (memory_lines body) ≡ 5 * length body =
      length-flat_map (λ w. text_line (memory_text (memory_in w))) 5 memory_length body in
      omega (
        arith,
        ap length block-parts,
        length-append (a ++ b) (memory_lines body),
        length-append a b,
        m,
        address-length (address_in (get_or ws at 0)),
        line-length (decimal (length body)),
      )

  -- A RELOCATION
  pub link_other : (kind_at ws at ≡ 5 → ⊥) → link_text ws at ≡ []
  unfolding link_text
  link_other n = rw (ne_eqb (kind_at ws at) 5 n)

  pub link_row : (end n : ℕ) → kind_at ws at ≡ 5 → end ≡ at + 1 + length body → n ≡ text_len ws (at + 1) end
      → linker_line (address_in (get_or ws at 0)) (text_bytes ws (at + 1) n) ≡ link_text ws at
  unfolding link_text
  link_row end n e q m =
      let row : ℕ → List ℕ = λ (k : ℕ). linker_line (address_in (get_or ws at 0)) (text_bytes ws (at + 1) k) in
      ap row (m ∙ ap (text_len ws (at + 1)) q)
      ∙ sym (ap (λ (b : Bool). if b then row (text_len ws (at + 1) (at + 1 + length body)) else []) (eq-eqb (kind_at ws at) 5 e))

pub nothing_put : {part : List ℕ} (room : List ℕ) → part ≡ [] → Put part room 0 room
nothing_put {part} room e = ap_put (sym e)
  where
    ap_put : [] ≡ part → Put part room 0 room
    ap_put q = rw (sym q) (emitted (begin [] room (omega arith)) refl)
