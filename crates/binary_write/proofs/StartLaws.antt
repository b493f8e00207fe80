-- A record's bytes are what it begins with and its list or text, by its kind. Assumes nothing.
use mathlib.Core.Path.{◌≡◌, refl, sym, ap, subst, ◌∙◌}
use mathlib.Core.List.{List, [], ◌∷◌, ◌++◌, map}
use Prim.Native.Nat.{ℕ, ◌+◌, ◌-◌, ◌%◌, ◌^◌}
use lib.ListN.{length, get_or}
use lib.Dec.{leb, eqb}
use borrow.Author.Tests.{eq-eqb, ne_eqb, eqb-true, eqb-false}
use borrow.Rule.Slice.PartMut.{mid_of}
use Rattle.format.specs.Digits.{digits_of}
use Rattle.format.specs.Records.{Record, block, label, line_block, source, relocation}
use Rattle.format.specs.Words.{flag_bit}
use Rattle.format.specs.Binary.{record_bytes}
use Rattle.format.proofs.ListLaws.{by_test}
use Rattle.object.specs.Bodies.{body_at, text_at, number_at}
use Rattle.object.specs.Access.{memory_in, address_in, kind_at, block_at, label_at, line_block_at, relocation_at, record_at}
use Rattle.binary_measure.specs.Measured.{Ends, Stands, text_of}
use Rattle.binary_measure.proofs.KindLaws.{block_here, label-here, line-here, source-here, relocation-here, kind_5}
use Rattle.binary_write.specs.Files.{memory_part, address_part, sized, start_bytes, content_of, content_place, Content}
use Rattle.binary_write.proofs.PlaceLaws.{slice_is, memory_is, addresses_are, flag_byte, count-bytes}

-- a record's words from a place on are its list or text, and with what it begins they make it up
pub record Parted (ws : List ℕ) (at end n from : ℕ) : Type 0 where
  pub ends : Ends ws from end
  pub splits : record_bytes (record_at ws at) ≡ start_bytes (record_at ws at) ++ content_of n (mid_of from (end - from) ws)
  pub content : Content n (mid_of from (end - from) ws)

module _ (ws : List ℕ) (at : ℕ) where
  abbrev Splits : Record → ℕ → ℕ → Type 0
  Splits r n from = record_bytes r ≡ start_bytes r ++ content_of n (body_at ws from)

  block_splits : Splits (block (block_at ws at)) 0 (at + 1)
  unfolding record_bytes start_bytes digits_of content_of
  block_splits = ap (λ xs. start_bytes (block (block_at ws at)) ++ xs) (memory_is (body_at ws (at + 1)))

  label_splits : Splits (label (label_at ws at)) 2 (at + 1 + 3)
  unfolding record_bytes start_bytes content_of sized digits_of
  label_splits =
      let l = label_at ws at in
      ap (λ d. 0x01 ∷ digits_of 8 2 l.address ++ (d ++ digits_of 8 8 l.start ++ digits_of 8 8 (length l.name) ++ l.name))
      (flag_byte l.external)

  line_splits : Splits (line_block (line_block_at ws at)) 3 (at + 1 + 3)
  unfolding record_bytes start_bytes digits_of content_of
  line_splits = ap (λ xs. start_bytes (line_block (line_block_at ws at)) ++ xs) (addresses_are (body_at ws (at + 1 + 3)))

  source_splits : Splits (source (text_at ws (at + 1))) 4 (at + 1)
  unfolding record_bytes start_bytes content_of sized
  source_splits = refl

  relocation_splits : Splits (relocation (relocation_at ws at)) 5 (at + 1)
  unfolding record_bytes start_bytes content_of sized digits_of
  relocation_splits = refl

module _ (ws : List ℕ) (at end : ℕ) (s : Stands ws at end) where
  abbrev k : ℕ
  k = kind_at ws at

  made : (n from : ℕ) (r : Record) → record_at ws at ≡ r → Splits ws at r n from → Ends ws from end → Content n (body_at ws from)
      → Parted ws at end n from
  made n from r q b e c =
      let i = slice_is ws from end e in
      record {
        ends = e;
        splits = ap record_bytes q ∙ b ∙ ap (λ x. start_bytes x ++ content_of n (body_at ws from)) (sym q)
            ∙ ap (λ xs. start_bytes (record_at ws at) ++ content_of n xs) (sym i);
        content = subst (Content n) (sym i) c;
      }

  abbrev Case : ℕ → Type 0
  Case n = k ≡ n → Parted ws at end n (content_place n at)

  case_0 : Case 0
  case_0 e = made 0 (at + 1) _ (block_here ws at end s e) (block_splits ws at) s.ends (λ z n. absurd (z refl))

  case_2 : Case 2
  case_2 e = let h = label-here ws at end s e in made 2 (at + 1 + 3) _ h.0 (label_splits ws at) h.1.1 (λ z n. h.1.0)

  case_3 : Case 3
  case_3 e = let h = line-here ws at end s e in made 3 (at + 1 + 3) _ h.0 (line_splits ws at) h.1 (λ z n. absurd (n refl))

  case_4 : Case 4
  case_4 e = let h = source-here ws at end s e in made 4 (at + 1) _ h.0 (source_splits ws at) h.1.1 (λ z n. h.1.0)

  case_5 : Case 5
  case_5 e = let h = relocation-here ws at end s e in made 5 (at + 1) _ h.0 (relocation_splits ws at) h.1.1 (λ z n. h.1.0)

  by : (n : ℕ) → Case n → k ≡ n → Parted ws at end k (content_place k at)
  by n f e = subst (λ m. Parted ws at end m (content_place m at)) (sym e) (f e)

  here : Parted ws at end k (content_place k at)
  here =
      by_test (eqb k 0) (λ t. by 0 case_0 (eqb-true k 0 t)) (λ n0.
      by_test (eqb k 2) (λ t. by 2 case_2 (eqb-true k 2 t)) (λ n2.
      by_test (eqb k 3) (λ t. by 3 case_3 (eqb-true k 3 t)) (λ n3.
      by_test (eqb k 4) (λ t. by 4 case_4 (eqb-true k 4 t)) (λ n4.
      by 5 case_5 (kind_5 ws at end s (eqb-false k 0 n0) (eqb-false k 2 n2) (eqb-false k 3 n3) (eqb-false k 4 n4))))))

  pub parted : (n from : ℕ) → n ≡ k → from ≡ content_place n at → Parted ws at end n from
  parted n from e p =
      subst (λ f. Parted ws at end n f) (sym p) (subst (λ m. Parted ws at end m (content_place m at)) (sym e) here)

  -- what each kind begins with
  abbrev head : List ℕ
  head = digits_of 8 2 (get_or ws at 0 % 2 ^ 16)

  pub block_start : k ≡ 0 → (c : ℕ) → c ≡ (end - (at + 1)) % 2 ^ 16 → start_bytes (record_at ws at) ≡ 0x00 ∷ head ++ digits_of 8 2 c
  unfolding start_bytes
  block_start e c q =
      ap start_bytes (block_here ws at end s e)
      ∙ ap (λ d. 0x00 ∷ head ++ d) (count-bytes ws (at + 1) end s.ends memory_in ∙ ap (λ x. digits_of 8 2 x) (sym q))

  pub label-start : k ≡ 2 → (x v : ℕ) → x ≡ flag_bit (leb (2 ^ 16) (get_or ws at 0 % 2 ^ 29)) → v ≡ number_at ws (at + 1)
      → start_bytes (record_at ws at) ≡ 0x01 ∷ head ++ x ∷ digits_of 8 8 v
  unfolding start_bytes
  label-start e x v p q =
      ap start_bytes (label-here ws at end s e).0
      ∙ ap (λ y. 0x01 ∷ head ++ y ∷ digits_of 8 8 (number_at ws (at + 1))) (sym p)
      ∙ ap (λ y. 0x01 ∷ head ++ x ∷ digits_of 8 8 y) (sym q)

  pub line-start : k ≡ 3 → (v c : ℕ) → v ≡ number_at ws (at + 1) → c ≡ (end - (at + 1 + 3)) % 2 ^ 16
      → start_bytes (record_at ws at) ≡ 0x02 ∷ digits_of 8 8 v ++ digits_of 8 2 c
  unfolding start_bytes
  line-start e v c p q =
      let h = line-here ws at end s e in
      ap start_bytes h.0
      ∙ ap (λ y. 0x02 ∷ digits_of 8 8 y ++ digits_of 8 2 (length (map address_in (body_at ws (at + 1 + 3))))) (sym p)
      ∙ ap (λ d. 0x02 ∷ digits_of 8 8 v ++ d)
      (count-bytes ws (at + 1 + 3) end h.1 address_in ∙ ap (λ x. digits_of 8 2 x) (sym q))

  pub source-start : k ≡ 4 → start_bytes (record_at ws at) ≡ 0x03 ∷ []
  unfolding start_bytes
  source-start e = ap start_bytes (source-here ws at end s e).0

  pub relocation-start : k ≡ 5 → start_bytes (record_at ws at) ≡ 0x04 ∷ head
  unfolding start_bytes
  relocation-start e = ap start_bytes (relocation-here ws at end s e).0

-- the list or the text, by the kind
module _ (n : ℕ) (ws : List ℕ) where
  pub content_0 : n ≡ 0 → content_of n ws ≡ memory_part ws
  unfolding content_of
  content_0 e = rw (eq-eqb n 0 e)

  pub content_3 : (n ≡ 0 → ⊥) → n ≡ 3 → content_of n ws ≡ address_part ws
  unfolding content_of
  content_3 z e = rw (ne_eqb n 0 z, eq-eqb n 3 e)

  pub content_text : (n ≡ 0 → ⊥) → (n ≡ 3 → ⊥) → content_of n ws ≡ sized (text_of ws)
  unfolding content_of
  content_text z t = rw (ne_eqb n 0 z, ne_eqb n 3 t)
