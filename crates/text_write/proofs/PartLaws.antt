-- The parts of each record. Assumes nothing.
use mathlib.Core.Path.{◌≡◌, refl, sym, ap, ◌∙◌}
use mathlib.Core.Bool.{Bool, true}
use mathlib.Core.List.{List, [], ◌∷◌, ◌++◌, map, flat_map}
use Prim.Native.Nat.{ℕ, ◌+◌, ◌<◌}
use native.Mathlib.Omega.{arith}
use lib.ListN.{length, get_or, length-map}
use lib.Dec.{eqb}
use borrow.Author.Tests.{eq-eqb, ne_eqb, eqb-true, eqb-false}
use Rattle.std.specs.Prelude.{if◌then◌else◌}
use Rattle.format.specs.ObjectFile.{ObjectFile}
use Rattle.format.specs.Records.{Record, placed, empty_object}
use Rattle.format.specs.Words.{is_head}
use Rattle.format.specs.TextWriter.{hex4, decimal, memory_text, text_line, block_lines, linker_row}
use Rattle.format.proofs.ListLaws.{by_test, flat_map-map}
use Rattle.object.specs.Bodies.{body_at, Text}
use Rattle.object.specs.Texts.{text_len, text_bytes}
use Rattle.object.proofs.ByteLaws.{text-len, text-bytes}
use Rattle.object.proofs.WordLaws.{head-kind}
use Rattle.object.proofs.AccessLaws as access
use Rattle.source_info.proofs.RecordLaws.{Left, here}
use Rattle.text_rows_out.specs.Rows.{linker_line}
use Rattle.object.specs.Access.{memory_in, address_in, kind_at, block_at, relocation_at, record_at}
use Rattle.text_parts_out.specs.Parts.{memory_lines, block_text, link_text}
use Rattle.text_parts_out.proofs.PartLaws.{link_other, link_row}
use Rattle.text_write.specs.Tables.{block_table, block_part, relocation_rows, relocation_part}
use Rattle.text_write.proofs.WalkLaws.{Table}

-- .TEXT
module _ (ws : List ℕ) (at : ℕ) (rs : List Record) where
  abbrev k : ℕ
  k = kind_at ws at

  block_more : block_table (placed (record_at ws at ∷ rs)) ≡ block_part ws at ++ block_table (placed rs)
  unfolding block_table block_part record_at placed flat_map
  block_more =
      by_test (eqb k 0) (λ t. simp t)
      (λ t. by_test (eqb k 2) (λ t2. simp (t, t2)) (λ t2. by_test (eqb k 3) (λ t3. simp (t, t2, t3))
      (λ t3. by_test (eqb k 4) (λ t4. simp (t, t2, t3, t4)) (λ t4. simp (t, t2, t3, t4)))))

pub blocks-walk : Table block_table block_part
unfolding block_table empty_object flat_map
blocks-walk = record { none = refl; more = λ ws at rs h. block_more ws at rs }

module _ (ws : List ℕ) (at : ℕ) where
  abbrev body : List ℕ
  body = body_at ws (at + 1)

  -- the lines of a block by its words
  pub block_is : kind_at ws at ≡ 0 → block_part ws at ≡ block_text ws at
  unfolding block_part block_lines block_text memory_lines
  block_is e =
      let a = text_line (hex4 (address_in (get_or ws at 0))) in
      let count : length (map memory_in body) ≡ length body = length-map body memory_in in
      ap (λ (t : Bool). if t then block_lines (block_at ws at) else []) (eq-eqb (kind_at ws at) 0 e)
      ∙ ap (λ (n : ℕ). a ++ text_line (decimal n) ++ flat_map (λ w. text_line (memory_text w)) (map memory_in body)) count
      ∙ ap (λ (r : List ℕ). a ++ text_line (decimal (length body)) ++ r) (flat_map-map (λ w. text_line (memory_text w)) memory_in body)

-- .LINKER_INFO
module _ (ws : List ℕ) (at : ℕ) (rs : List Record) where
  abbrev kind : ℕ
  kind = kind_at ws at

  relocation-more : is_head (get_or ws at 0) ≡ true
      → relocation_rows (placed (record_at ws at ∷ rs)) ≡ relocation_part ws at ++ relocation_rows (placed rs)
  unfolding relocation_rows relocation_part record_at placed flat_map
  relocation-more h =
      by_test (eqb kind 0) (λ t. let e = eqb-true kind 0 t in simp (t, ne_eqb kind 5 (λ z. omega arith)))
      (λ t. by_test (eqb kind 2) (λ t2. let e = eqb-true kind 2 t2 in simp (t, t2, ne_eqb kind 5 (λ z. omega arith)))
      (λ t2. by_test (eqb kind 3) (λ t3. let e = eqb-true kind 3 t3 in simp (t, t2, t3, ne_eqb kind 5 (λ z. omega arith)))
      (λ t3. by_test (eqb kind 4) (λ t4. let e = eqb-true kind 4 t4 in simp (t, t2, t3, t4, ne_eqb kind 5 (λ z. omega arith)))
      (λ t4. let five =
      head-kind (get_or ws at 0) h (eqb-false kind 0 t) (eqb-false kind 2 t2) (eqb-false kind 3 t3) (eqb-false kind 4 t4) in
      simp (t, t2, t3, t4, eq-eqb kind 5 five)))))

pub relocations-walk : Table relocation_rows relocation_part
unfolding relocation_rows empty_object flat_map
relocations-walk = record { none = refl; more = relocation-more }

-- the row of a record that is no relocation, or one whose name is a text, by its words
pub relocation_is :
    (ws : List ℕ) (at : ℕ) → (kind_at ws at ≡ 5 → Text (body_at ws (at + 1))) → link_text ws at ≡ relocation_part ws at
unfolding relocation_part
relocation_is ws at f =
    by_test (eqb (kind_at ws at) 5)
    (λ t. let e = eqb-true (kind_at ws at) 5 t in
    let end : ℕ = at + 1 + length (body_at ws (at + 1)) in
    sym (link_row ws at end (text_len ws (at + 1) end) e refl refl)
    ∙ ap (λ (k : ℕ). linker_line (address_in (get_or ws at 0)) (text_bytes ws (at + 1) k)) (text-len ws (at + 1) (f e))
    ∙ ap (linker_line (address_in (get_or ws at 0))) (text-bytes ws (at + 1) (f e))
    ∙ sym (ap (λ (b : Bool). if b then text_line (linker_row (relocation_at ws at)) else []) t))
    (λ t. link_other ws at (eqb-false (kind_at ws at) 5 t)
    ∙ sym (ap (λ (b : Bool). if b then text_line (linker_row (relocation_at ws at)) else []) t))

-- the name of a relocation is a text
pub relocation-name : {A : Type 0} (ws : List ℕ) (F : ObjectFile → A) (at : ℕ) (v : A) → at < length ws → Left ws at F v
    → kind_at ws at ≡ 5
    → Text (body_at ws (at + 1))
relocation-name ws F at v h l e = (access.relocation_is ws at (record_at ws at) (here ws F at v h l).head e).1
