-- Where parts of an object begin and end: its records come in the order of their kinds. Assumes nothing.
use mathlib.Core.Path.{◌≡◌, refl, sym, ap, subst, ◌∙◌}
use mathlib.Core.Bool.{Bool, true, false, true≢false}
use mathlib.Core.List.{List, [], ◌∷◌, ◌++◌, map, flat_map}
use mathlib.Core.Option.{Option}
use Prim.Native.Nat.{ℕ, ◌+◌, ◌≤◌, ◌<◌}
use native.Mathlib.Omega.{arith}
use lib.ListN.{length, get_or}
use lib.Dec.{eqb}
use borrow.Author.Tests.{ne_eqb, eqb-false}
use Rattle.format.specs.Basics.{given, given_or, is_empty}
use Rattle.format.specs.ObjectFile.{Block, Label, LineBlock, Relocation, ObjectFile}
use Rattle.format.specs.Records.{Record, block, label, line_block, source, relocation, record_key, records_of, source_records, empty_object, placed}
use Rattle.format.specs.Words.{is_head, records_from, object_of}
use Rattle.format.specs.TextWriter.{text_line, block_lines, linker_row}
use Rattle.format.specs.Calls.{checked}
use Rattle.format.proofs.ListLaws.{by_test}
use Rattle.format.proofs.SortedLaws.{Rises}
use Rattle.format.proofs.RisesLaws.{rises_type}
use Rattle.format.proofs.RecordLaws.{records_placed}
use Rattle.format.proofs.WordsOnly.{given-same}
use Rattle.object.specs.Bodies.{body_at, groups_at}
use Rattle.object.specs.Access.{kind_at, record_at}
use Rattle.object.proofs.Formed.{formed, held}
use Rattle.object.proofs.BodyLaws.{head_at}
use Rattle.object.proofs.WordLaws.{head-kind}
use Rattle.object.proofs.AccessLaws.{next, record_is}
use Rattle.source_info.proofs.RecordLaws.{Left, start, finish, here, on, lines_other, source-here, source-other, source-text}
use Rattle.source_info.specs.Sources.{Sourced}
use Rattle.std.specs.Prelude.{Some, None}
use Rattle.text_lines_out.specs.Walk.{line_blocks_in}
use Rattle.text_lines_out.proofs.TableLaws.{blocks_start}
use Rattle.text_write.specs.Tables.{object_in, block_table, relocation_rows, relocation_part, relocations_text}
use Rattle.text_write.specs.Layouts.{Past, First, Links}
use Rattle.text_write.proofs.GroupLaws.{row-there}
use Rattle.text_write.proofs.PartLaws.{relocations-walk}
use Rattle.text_write.proofs.WalkLaws.{past, walk_end, walk-part}

abbrev links_of : ObjectFile → List Relocation
links_of h = h.relocations

abbrev source_of : ObjectFile → Option (List ℕ)
source_of h = h.source

abbrev lines_of : ObjectFile → List LineBlock
lines_of h = h.line_blocks

-- a record that is no relocation
links-other : (ws : List ℕ) (at : ℕ) (rs : List Record) → is_head (get_or ws at 0) ≡ true → (kind_at ws at ≡ 5 → ⊥)
    → (placed rs).relocations ≡ (placed (record_at ws at ∷ rs)).relocations
unfolding record_at placed
links-other ws at rs h n =
    let k = kind_at ws at in
    by_test (eqb k 0) (λ t. simp t)
    (λ t. by_test (eqb k 2) (λ t2. simp (t, t2)) (λ t2. by_test (eqb k 3) (λ t3. simp (t, t2, t3))
    (λ t3. by_test (eqb k 4) (λ t4. simp (t, t2, t3, t4))
    (λ t4. absurd (n (head-kind (get_or ws at 0) h (eqb-false k 0 t) (eqb-false k 2 t2) (eqb-false k 3 t3) (eqb-false k 4 t4)))))))

module _ (ws : List ℕ) where
  pub past-start : checked ws ≡ 0 → Past ws 0
  past-start e =
      let f = formed ws e in
      let q : (object_in ws).relocations ≡ f.object.relocations = ap (λ o. (given_or o empty_object).relocations) f.is in
      let p : (object_in ws).source ≡ f.object.source = ap (λ o. (given_or o empty_object).source) f.is in (
        (blocks_start ws e).0,
        subst (λ (v : List Relocation). Left ws 0 links_of v) (sym q) (start ws links_of f.object f.is),
        subst (λ (v : Option (List ℕ)). Left ws 0 source_of v) (sym p) (start ws source_of f.object f.is),
      )

  -- past a record
  module _ (at n : ℕ) (h : at < length ws) (e : n ≡ at + 1 + length (body_at ws (at + 1))) where
    pub linked_on : (v : List Relocation) → (kind_at ws at ≡ 5 → ⊥) → Left ws at links_of v → Left ws n links_of v
    linked_on v k l =
        let g = here ws links_of at v h l in
        on ws links_of links_of at n v g e (links-other ws at g.rest (head_at ws at h l.stops) k)

    pub sourced-on : (v : Option (List ℕ)) → (kind_at ws at ≡ 4 → ⊥) → Left ws at source_of v → Left ws n source_of v
    sourced-on v k l = let g = here ws source_of at v h l in on ws source_of source_of at n v g e (source-other ws at g.rest k)

    pub past-on : kind_at ws at ≤ 2 → Past ws at → Past ws n
    past-on k p =
        let v = line_blocks_in ws in
        let g = here ws lines_of at v h p.0 in (
          on ws lines_of lines_of at n v g e (lines_other ws at g.rest (λ z. omega (arith, k, z))),
          linked_on (object_in ws).relocations (λ z. omega (arith, k, z)) p.1,
          sourced-on (object_in ws).source (λ z. omega (arith, k, z)) p.2,
        )

  -- the source, where the first record of its kind was looked for
  module _ (at : ℕ) (f : First ws 4 at) where
    same_source : (h : ObjectFile) → object_of ws ≡ given h → h.source ≡ (object_in ws).source
    same_source h q = sym (ap (λ o. (given_or o empty_object).source) q)

    pub source-found : at < length ws → Sourced ws (Some (at + 1))
    source-found h o q =
        let a = here ws source_of at (object_in ws).source h (f.source refl) in
        (same_source o q ∙ sym a.same ∙ source-here ws at a.rest (f.there h), source-text ws source_of at (object_in ws).source a (f.there h))

    pub source_missing : length ws ≤ at → Sourced ws None
    unfolding empty_object
    source_missing h o q = same_source o q ∙ sym (finish ws source_of at (object_in ws).source h (f.source refl))

  pub first-links : (at : ℕ) → First ws 5 at → Links ws at
  first-links at f = (f.links refl, f.there)

  -- the rows of relocations
  module _ (at : ℕ) (l : Left ws at links_of (object_in ws).relocations) where
    pub links-rows : Left ws at relocation_rows (relocations_text ws)
    unfolding relocation_rows
    links-rows = record {
      records = l.records;
      stops = l.stops;
      read = l.read;
      same = ap (flat_map (λ (q : Relocation). text_line (linker_row q))) l.same;
    }

    pub links-none : length ws ≤ at → is_empty (relocations_text ws) ≡ true
    unfolding is_empty
    links-none h = ap is_empty (walk_end relocation_rows relocation_part relocations-walk ws at (relocations_text ws) h links-rows)

    pub links_some : at < length ws → kind_at ws at ≡ 5 → is_empty (relocations_text ws) ≡ false
    links_some h k =
        ap is_empty (walk-part relocation_rows relocation_part relocations-walk ws at (relocations_text ws) h links-rows)
        ∙ row-there ws at (past relocation_rows relocation_part relocations-walk ws at (relocations_text ws) h links-rows) k

-- BLOCKS COME FIRST
pub record Ordered (ws : List ℕ) (at : ℕ) : Type 0 where
  pub records : List Record
  pub read : records_from (groups_at ws at) ≡ given records
  pub rising : Rises record_key records

pub ordered-start : (ws : List ℕ) → checked ws ≡ 0 → Ordered ws 0
ordered-start ws e =
    let f = formed ws e in
    let h = held ws f.object f.is in
    record { records = h.records; read = h.read; rising = rises_type record_key h.records h.rising }

pub ordered-on : (ws : List ℕ) (at n : ℕ) → at < length ws → body_at ws at ≡ [] → n ≡ at + 1 + length (body_at ws (at + 1))
    → Ordered ws at → Ordered ws n
ordered-on ws at n h b e o =
    let k = next ws at o.records o.read h b in
    subst (Ordered ws) (sym e) (record {
      records = k.rest;
      read = k.tail;
      rising = (subst (Rises record_key) k.all o.rising).1;
    })

abbrev is_block : Record → Bool
is_block (block b) = true
is_block (label l) = false
is_block (line_block l) = false
is_block (source s) = false
is_block (relocation r) = false

abbrev first_is : List Record → Bool
first_is [] = false
first_is (r ∷ rs) = is_block r

no_blocks : (bs : List Block) (ls : List Label) (ks : List LineBlock) (s : Option (List ℕ)) (qs : List Relocation)
    → first_is (map block bs ++ map label ls ++ map line_block ks ++ source_records s ++ map relocation qs) ≡ false → bs ≡ []
no_blocks [] ls ks s qs e = refl
no_blocks (b ∷ bs) ls ks s qs e = absurd (true≢false e)

other_record : (ws : List ℕ) (at : ℕ) → (kind_at ws at ≡ 0 → ⊥) → is_block (record_at ws at) ≡ false
unfolding record_at
other_record ws at n =
    let k = kind_at ws at in
    by_test (eqb k 2) (λ t. simp (ne_eqb k 0 n, t)) (λ t. by_test (eqb k 3) (λ t2. simp (ne_eqb k 0 n, t, t2))
    (λ t2. by_test (eqb k 4) (λ t3. simp (ne_eqb k 0 n, t, t2, t3)) (λ t3. simp (ne_eqb k 0 n, t, t2, t3))))

-- from a head that is no block there are none
pub blocks-over : (ws : List ℕ) (at : ℕ) (v : List ℕ) → at < length ws → Left ws at block_table v → Ordered ws at → (kind_at ws at ≡ 0 → ⊥)
    → v ≡ []
unfolding block_table records_of flat_map
blocks-over ws at v h l o n =
    let k = next ws at l.records l.read h l.stops in
    let q = record_is ws at k.first k.head h l.stops in
    let same : o.records ≡ l.records = given-same (sym o.read ∙ l.read) in
    let rises : Rises record_key l.records = subst (Rises record_key) same o.rising in
    let first : first_is l.records ≡ false = ap first_is k.all ∙ ap is_block q ∙ other_record ws at n in
    let p = placed l.records in
    let none = no_blocks p.blocks p.labels p.line_blocks p.source p.relocations
    (ap first_is (records_placed l.records rises) ∙ first) in
    sym l.same ∙ ap (flat_map block_lines) none
