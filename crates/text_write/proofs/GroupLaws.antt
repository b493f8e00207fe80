-- The groups of the text form and their lengths, part by part. Assumes nothing.
use mathlib.Core.Path.{◌≡◌, refl, sym, ap, ◌∙◌}
use mathlib.Core.Bool.{true, false}
use mathlib.Core.List.{List, [], ◌∷◌, ◌++◌, flat_map, append_assoc}
use mathlib.Core.Option.{none, some}
use Prim.Native.Nat.{ℕ, ◌+◌}
use native.Mathlib.Omega.{arith}
use lib.ListN.{length, length-append}
use borrow.Author.Tests.{eq-eqb}
use Rattle.format.specs.Basics.{ascii, is_empty}
use Rattle.format.specs.Digits.{digits_of}
use Rattle.format.specs.ObjectFile.{Relocation, ObjectFile}
use Rattle.format.specs.TextWriter.{hex4, text_line, symbol_table, linker_header, linker_row, linker_table, label_table, bar_line, blocks_only}
use Rattle.format.specs.TextWriter.{symbol_groups, text_file}
use Rattle.object.specs.Access.{kind_at}
use Rattle.measuring.specs.Room.{less, less_part}
use Rattle.measuring.proofs.RoomLaws.{fits, short, less_none, less-nothing, part-fits}
use Rattle.text_write.specs.Tables.{block_table, relocation_part}
use Rattle.text_write.specs.Groups.{head_lines, linker_lines, debug_lines, source_part, name_groups, debug_group, groups}

-- THE LINKER TABLE
abbrev rows_of : List Relocation → List ℕ
rows_of rs = flat_map (λ q. text_line (linker_row q)) rs

pub linker-none : (rs : List Relocation) → is_empty (rows_of rs) ≡ true → linker_table rs ≡ []
unfolding linker_table flat_map is_empty hex4 digits_of
linker-none [] e = refl
linker-none (r ∷ rs) e = let z : false ≡ true = e in let y : ◌≡◌ {A = ℕ} 0 1 = cc in absurd (omega arith)

pub linker_some : (rs : List Relocation) → is_empty (rows_of rs) ≡ false → linker_table rs ≡ text_line linker_header ++ rows_of rs
unfolding linker_table flat_map is_empty
linker_some [] e = let z : true ≡ false = e in let y : ◌≡◌ {A = ℕ} 0 1 = cc in absurd (omega arith)
linker_some (r ∷ rs) e = refl

-- a relocation has a row
pub row-there : (ws : List ℕ) (at : ℕ) (past : List ℕ) → kind_at ws at ≡ 5 → is_empty (relocation_part ws at ++ past) ≡ false
unfolding relocation_part is_empty hex4 digits_of
row-there ws at past e = rw (eq-eqb (kind_at ws at) 5 e)

-- by the length of its rows
empty-length : (xs : List ℕ) → length xs ≡ 0 → is_empty xs ≡ true
unfolding is_empty
empty-length [] e = refl
empty-length (x ∷ xs) e = absurd (omega (arith, e))

some_length : (xs : List ℕ) → (length xs ≡ 0 → ⊥) → is_empty xs ≡ false
unfolding is_empty
some_length [] n = absurd (n refl)
some_length (x ∷ xs) n = refl

module _ (rs : List Relocation) (room left : ℕ) (e : some left ≡ less_part room (rows_of rs)) where
  pub linker-nothing : left ≡ room → some room ≡ less_part room (linker_table rs)
  linker-nothing q =
      let f = fits room (length (rows_of rs)) e in
      less-nothing room ∙ ap (less_part room) (sym (linker-none rs (empty-length (rows_of rs) (omega (arith, f.0, f.1, q)))))

  pub linker-left : (left ≡ room → ⊥) → less left 13 ≡ less_part room (linker_table rs)
  unfolding ascii
  linker-left n =
      let f = fits room (length (rows_of rs)) e in
      let t = linker_some rs (some_length (rows_of rs) (λ z. n (omega (arith, f.1, z)))) in
      part-fits room (rows_of rs) (text_line linker_header) refl e
      ∙ ap (less room) (length-append (rows_of rs) (text_line linker_header)
      ∙ (let y : length (rows_of rs) + length (text_line linker_header) ≡ length (text_line linker_header) + length (rows_of rs) = omega arith
      in y)
      ∙ sym (length-append (text_line linker_header) (rows_of rs)) ∙ ap length (sym t))

pub linker-short : (rs : List Relocation) (room : ℕ) → none ≡ less_part room (rows_of rs) → none ≡ less_part room (linker_table rs)
unfolding linker_table flat_map
linker-short [] room e = e
linker-short (r ∷ rs) room e =
    let rows = rows_of (r ∷ rs) in
    less_none room (length (text_line linker_header ++ rows))
    (omega (arith, short room (length rows) e, length-append (text_line linker_header) rows))

-- THE GROUPS, in the order that they are written
regroup :
    (a s e b l d c t bar p : List ℕ)
    → a ++ s ++ e ++ b ++ l ++ e ++ d ++ c ++ e ++ t ++ bar ++ p
    ≡ (a ++ (s ++ ((e ++ b) ++ l))) ++ ((e ++ d ++ c ++ e) ++ (t ++ (bar ++ p)))
regroup a s e b l d c t bar p = simp append_assoc

-- with the fixed lines first, which makes no difference to the length
sizes :
    (a s b l d t bar p : List ℕ)
    → length ((a ++ b ++ d ++ bar) ++ (s ++ (l ++ (t ++ p)))) ≡ length ((a ++ (s ++ (b ++ l))) ++ (d ++ (t ++ (bar ++ p))))
sizes a s b l d t bar p = simp length-append (omega arith)

abbrev pub fixed_lines : List ℕ
fixed_lines = text_line (ascii ".SYMBOL") ++ linker_lines ++ debug_lines ++ bar_line

module _ (h : ObjectFile) where
  groups-parts : symbol_groups h ≡ name_groups h ++ debug_group h
  unfolding symbol_groups name_groups debug_group
  groups-parts =
      regroup (text_line (ascii ".SYMBOL")) (symbol_table h.labels) (text_line []) (text_line (ascii ".LINKER_INFO"))
      (linker_table h.relocations) (text_line (ascii ".DEBUG")) (text_line (ascii "# DEBUG SYMBOLS FOR LC3TOOLS"))
      (label_table h.labels) bar_line (source_part h)

  pub groups_none : blocks_only h ≡ true → groups h ≡ []
  unfolding groups
  groups_none e = rw e

  pub groups_some : blocks_only h ≡ false → groups h ≡ name_groups h ++ debug_group h
  unfolding groups
  groups_some e = rw e groups-parts

  pub groups-measured : (room : ℕ) → blocks_only h ≡ false
      → less_part room
      (fixed_lines ++ (symbol_table h.labels ++ (linker_table h.relocations ++ (label_table h.labels ++ source_part h))))
      ≡ less_part room (groups h)
  unfolding name_groups debug_group
  groups-measured room e =
      ap (less room) (sizes (text_line (ascii ".SYMBOL")) (symbol_table h.labels) linker_lines (linker_table h.relocations) debug_lines
      (label_table h.labels) bar_line (source_part h) ∙ ap length (sym (groups_some e)))

  -- THE FILE
  pub file_parts : text_file h ≡ head_lines ++ (block_table h ++ (text_line [] ++ groups h))
  unfolding text_file block_table groups
  file_parts = file_order head_lines (block_table h) (text_line []) (groups h)
    where
      file_order : (a b c d : List ℕ) → a ++ b ++ c ++ d ≡ a ++ (b ++ (c ++ d))
      file_order a b c d = simp append_assoc

  pub file_measured : (room : ℕ) → less_part room ((head_lines ++ text_line []) ++ (block_table h ++ groups h)) ≡ less_part room (text_file h)
  file_measured room = ap (less room) (file_sizes head_lines (block_table h) (text_line []) (groups h) ∙ ap length (sym file_parts))
    where
      file_sizes : (a b c d : List ℕ) → length ((a ++ c) ++ (b ++ d)) ≡ length (a ++ (b ++ (c ++ d)))
      file_sizes a b c d = simp length-append (omega arith)
