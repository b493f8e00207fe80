-- A file whose records read: they are those at its places, and what is gathered from them is the object of the places. Assumes nothing.
use mathlib.Core.Path.{◌≡◌, refl, sym, ap, subst, ◌∙◌}
use mathlib.Core.Bool.{Bool, true, false, not, ◌&&◌}
use mathlib.Core.List.{List, [], ◌∷◌, ◌++◌, map, flat_map, append_assoc, append-nil}
use mathlib.Core.Option.{Option, some}
use Prim.Native.Nat.{ℕ, zero, suc, ◌+◌, ◌*◌, ◌≤◌}
use native.Mathlib.Omega.{arith}
use lib.ListN.{take, drop}
use lib.Seq.{drop-drop}
use lib.Dec.{eqb}
use borrow.Author.Tests.{ne_eqb}
use Rattle.std.specs.Prelude.{if◌then◌else◌}
use Rattle.format.specs.Basics.{Outcome, refused, given, ◌>>=◌, is_empty}
use Rattle.format.specs.Digits.{value_of}
use Rattle.format.specs.Utf8.{is_utf8}
use Rattle.format.specs.Tokens.{tokens}
use Rattle.format.specs.Sorted.{upsert_all, sorted}
use Rattle.format.specs.ObjectFile.{Block, Label, LineBlock, Relocation, ObjectFile, block_key, label_key, line_key, relocation_key, strictly_rise, source_text}
use Rattle.format.specs.Records.{Record, block, label, line_block, source, relocation, put_record, gather_records, empty_object, placed}
use Rattle.format.specs.Binary.{bytes_at, number_at, has_bytes, memories_from, addresses_from, record_at, block_from, label_from, lines_from, source_from, relocation_from}
use Rattle.format.proofs.ListLaws.{by_test}
use Rattle.gather.specs.Places.{bytes_after, places, places_of, number_key, key_at}
use Rattle.gather.proofs.WindowLaws.{sorted-map}
use Rattle.binary_words.specs.RecordAt.{block_at, label_at, line_block_at, chunk_at, relocation_at, source_of, object_at}

-- THE RECORD AT THE FRONT: its parts, counted from the kind byte
number_front : (s : List ℕ) (at i j n : ℕ) → j ≡ at + 1 + i → number_at i n (drop (at + 1) s) ≡ number_at j n s
number_front s at i j n e = ap (λ (z : List ℕ). value_of 8 (take n z)) (drop-drop i (at + 1) s ∙ ap (λ (k : ℕ). drop k s) (sym e))

bytes_front : (s : List ℕ) (at i j n : ℕ) → j ≡ at + 1 + i → bytes_at i n (drop (at + 1) s) ≡ bytes_at j n s
bytes_front s at i j n e = ap (take n) (drop-drop i (at + 1) s ∙ ap (λ (k : ℕ). drop k s) (sym e))

-- a record, and how many bytes it has
abbrev pub record_here : ℕ → List ℕ → ℕ → Record
record_here k s p =
    if eqb k 0 then block (block_at s p)
    else if eqb k 1 then label (label_at s p)
    else if eqb k 2 then line_block (line_block_at s p)
    else if eqb k 3 then source (chunk_at s p)
    else relocation (relocation_at s p)

-- what a reader gives where it gives anything
abbrev GivesOnly : Outcome (Record × ℕ) → Record → ℕ → Type 0
GivesOnly o r n = (t : Record × ℕ) → o ≡ given t → (t.0 ≡ r) × (t.1 ≡ n)

only-refused : (k : ℕ) (r : Record) (n : ℕ) → GivesOnly (refused k) r n
only-refused k r n t e = let z : ◌≡◌ {A = ℕ} 0 1 = cc in absurd (omega arith)

only-given : (r r' : Record) (n n' : ℕ) → r ≡ r' → n ≡ n' → GivesOnly (given (r, n)) r' n'
only-given r r' n n' p q t e = let a : t.0 ≡ r = cc in let b : t.1 ≡ n = cc in (a ∙ p, b ∙ q)

module _ (s : List ℕ) (at : ℕ) where
  abbrev rest : List ℕ
  rest = drop (at + 1) s

  only-block : GivesOnly (block_from rest) (block (block_at s at)) (4 + 3 * number_at 2 2 rest)
  unfolding block_from
  only-block =
      let a = number_front s at 0 (at + 1) 2 (omega arith) in
      let n = number_front s at 2 (at + 3) 2 (omega arith) in
      let w = bytes_front s at 4 (at + 5) (3 * number_at (at + 3) 2 s) (omega arith) in
      by_test (has_bytes 4 rest)
      (λ u. rw u (by_test (has_bytes (4 + 3 * number_at 2 2 rest) rest)
      (λ v. rw v (only-given (block (record { address = number_at 0 2 rest; words = memories_from (bytes_at 4 (3 * number_at 2 2 rest) rest) })) (block (block_at s at)) (4 + 3 * number_at 2 2 rest) (4 + 3 * number_at 2 2 rest) (rw (a, n, w) refl) refl))
      (λ v. rw v (only-refused 12 (block (block_at s at)) (4 + 3 * number_at 2 2 rest)))))
      (λ u. rw u (only-refused 12 (block (block_at s at)) (4 + 3 * number_at 2 2 rest)))

  only-label : GivesOnly (label_from rest) (label (label_at s at)) (19 + number_at 11 8 rest)
  unfolding label_from
  only-label =
      let a = number_front s at 0 (at + 1) 2 (omega arith) in
      let x = number_front s at 2 (at + 3) 1 (omega arith) in
      let f = number_front s at 3 (at + 4) 8 (omega arith) in
      let n = number_front s at 11 (at + 12) 8 (omega arith) in
      let w = bytes_front s at 19 (at + 20) (number_at (at + 12) 8 s) (omega arith) in
      let r : Record = label (label_at s at) in
      let m = 19 + number_at 11 8 rest in
      by_test (has_bytes 19 rest)
      (λ u. rw u (by_test (has_bytes (19 + number_at 11 8 rest) rest)
      (λ v. rw v (by_test (is_utf8 (bytes_at 19 (number_at 11 8 rest) rest))
      (λ t. rw t (only-given (label (record { name = bytes_at 19 (number_at 11 8 rest) rest; address = number_at 0 2 rest; external = not (eqb (number_at 2 1 rest) 0); start = number_at 3 8 rest })) r m m (rw (a, x, f, n, w) refl) refl))
      (λ t. rw t (only-refused 13 r m))))
      (λ v. rw v (only-refused 12 r m))))
      (λ u. rw u (only-refused 12 r m))

  only-lines : GivesOnly (lines_from rest) (line_block (line_block_at s at)) (10 + 2 * number_at 8 2 rest)
  unfolding lines_from
  only-lines =
      let a = number_front s at 0 (at + 1) 8 (omega arith) in
      let n = number_front s at 8 (at + 9) 2 (omega arith) in
      let w = bytes_front s at 10 (at + 11) (2 * number_at (at + 9) 2 s) (omega arith) in
      let r : Record = line_block (line_block_at s at) in
      let m = 10 + 2 * number_at 8 2 rest in
      by_test (has_bytes 10 rest)
      (λ u. rw u (by_test (has_bytes (10 + 2 * number_at 8 2 rest) rest)
      (λ v. rw v (by_test (strictly_rise (addresses_from (bytes_at 10 (2 * number_at 8 2 rest) rest)))
      (λ t. rw t (only-given (line_block (record { first = number_at 0 8 rest; addresses = addresses_from (bytes_at 10 (2 * number_at 8 2 rest) rest) })) r m m (rw (a, n, w) refl) refl))
      (λ t. rw t (only-refused 14 r m))))
      (λ v. rw v (only-refused 12 r m))))
      (λ u. rw u (only-refused 12 r m))

  only-source : GivesOnly (source_from rest) (source (chunk_at s at)) (8 + number_at 0 8 rest)
  unfolding source_from
  only-source =
      let n = number_front s at 0 (at + 1) 8 (omega arith) in
      let w = bytes_front s at 8 (at + 9) (number_at (at + 1) 8 s) (omega arith) in
      let r : Record = source (chunk_at s at) in
      let m = 8 + number_at 0 8 rest in
      by_test (has_bytes 8 rest)
      (λ u. rw u (by_test (has_bytes (8 + number_at 0 8 rest) rest)
      (λ v. rw v (by_test (is_utf8 (bytes_at 8 (number_at 0 8 rest) rest))
      (λ t. rw t (only-given (source (bytes_at 8 (number_at 0 8 rest) rest)) r m m (rw (n, w) refl) refl))
      (λ t. rw t (only-refused 13 r m))))
      (λ v. rw v (only-refused 12 r m))))
      (λ u. rw u (only-refused 12 r m))

  only-relocation : GivesOnly (relocation_from rest) (relocation (relocation_at s at)) (10 + number_at 2 8 rest)
  unfolding relocation_from
  only-relocation =
      let a = number_front s at 0 (at + 1) 2 (omega arith) in
      let n = number_front s at 2 (at + 3) 8 (omega arith) in
      let w = bytes_front s at 10 (at + 11) (number_at (at + 3) 8 s) (omega arith) in
      let r : Record = relocation (relocation_at s at) in
      let m = 10 + number_at 2 8 rest in
      by_test (has_bytes 10 rest)
      (λ u. rw u (by_test (has_bytes (10 + number_at 2 8 rest) rest)
      (λ v. rw v (by_test (is_utf8 (bytes_at 10 (number_at 2 8 rest) rest))
      (λ t. rw t (only-given (relocation (record { address = number_at 0 2 rest; name = bytes_at 10 (number_at 2 8 rest) rest })) r m m (rw (a, n, w) refl) refl))
      (λ t. rw t (only-refused 13 r m))))
      (λ v. rw v (only-refused 12 r m))))
      (λ u. rw u (only-refused 12 r m))

  -- the kind is known, the record is the one at the place, and it has so many bytes
  only_here : (k : ℕ) (t : Record × ℕ) → record_at (k ∷ rest) ≡ given t → (k ≤ 4) × (t.0 ≡ record_here k s at) × (t.1 ≡ bytes_after k rest)
  unfolding record_at bytes_after
  only_here zero t e = let r = only-block t e in (omega arith, r.0, r.1)
  only_here (suc zero) t e = let r = only-label t e in (omega arith, r.0, r.1)
  only_here (suc (suc zero)) t e = let r = only-lines t e in (omega arith, r.0, r.1)
  only_here (suc (suc (suc zero))) t e = let r = only-source t e in (omega arith, r.0, r.1)
  only_here (suc (suc (suc (suc zero)))) t e = let r = only-relocation t e in (omega arith, r.0, r.1)
  only_here (suc (suc (suc (suc (suc k))))) t e =
      let n : ℕ = suc (suc (suc (suc (suc k)))) in
      let f : refused 11 ≡ given t = rw (ne_eqb n 0 (λ e. omega arith), ne_eqb n 1 (λ e. omega arith), ne_eqb n 2 (λ e. omega arith), ne_eqb n 3 (λ e. omega arith), ne_eqb n 4 (λ e. omega arith)) at e in
      let z : ◌≡◌ {A = ℕ} 0 1 = cc in absurd (omega arith)

-- THE PARTS of a list of records
unfoldable pub chunks : List Record → List (List ℕ)
chunks [] = []
chunks (block b ∷ rs) = chunks rs
chunks (label l ∷ rs) = chunks rs
chunks (line_block l ∷ rs) = chunks rs
chunks (source c ∷ rs) = c ∷ chunks rs
chunks (relocation r ∷ rs) = chunks rs

-- the records from a place on are those at its places, part by part
pub record ReadAt (s : List ℕ) (at k : ℕ) (xs : List ℕ) (rs : List Record) : Type 0 where
  pub blocks : (placed rs).blocks ≡ map (block_at s) (places 0 at k xs)
  pub labels : (placed rs).labels ≡ map (label_at s) (places 1 at k xs)
  pub lines : (placed rs).line_blocks ≡ map (line_block_at s) (places 2 at k xs)
  pub texts : chunks rs ≡ map (chunk_at s) (places 3 at k xs)
  pub relocations : (placed rs).relocations ≡ map (relocation_at s) (places 4 at k xs)

module _ (s : List ℕ) (at : ℕ) (xs : List ℕ) (ts : List Record) where
  one_more : (k : ℕ) → k ≤ 4 → ReadAt s (at + 1) (bytes_after k xs) xs ts → ReadAt s at 0 (k ∷ xs) (record_here k s at ∷ ts)
  unfolding placed places chunks empty_object
  one_more zero h r = record { blocks = ap (λ (z : List Block). block_at s at ∷ z) r.blocks; labels = r.labels; lines = r.lines; texts = r.texts; relocations = r.relocations }
  one_more (suc zero) h r = record { blocks = r.blocks; labels = ap (λ (z : List Label). label_at s at ∷ z) r.labels; lines = r.lines; texts = r.texts; relocations = r.relocations }
  one_more (suc (suc zero)) h r = record { blocks = r.blocks; labels = r.labels; lines = ap (λ (z : List LineBlock). line_block_at s at ∷ z) r.lines; texts = r.texts; relocations = r.relocations }
  one_more (suc (suc (suc zero))) h r = record { blocks = r.blocks; labels = r.labels; lines = r.lines; texts = ap (λ (z : List (List ℕ)). chunk_at s at ∷ z) r.texts; relocations = r.relocations }
  one_more (suc (suc (suc (suc zero)))) h r = record { blocks = r.blocks; labels = r.labels; lines = r.lines; texts = r.texts; relocations = ap (λ (z : List Relocation). relocation_at s at ∷ z) r.relocations }
  one_more (suc (suc (suc (suc (suc k))))) h r = absurd (let z : ⊥ = omega arith in z)

-- a bind that gives, taken apart
taken_apart : {A B : Type 0} (o : Outcome A) (f : A → Outcome B) (b : B) → (o >>= f) ≡ given b → (a : A) × (o ≡ given a) × (f a ≡ given b)
taken_apart (refused n) f b e = let z : ◌≡◌ {A = ℕ} 0 1 = cc in absurd (omega arith)
taken_apart (given a) f b e = (a, refl, e)

same-given : {A : Type 0} (a b : A) → ◌≡◌ {A = Outcome A} (given a) (given b) → a ≡ b
same-given a b e = cc

module _ (s : List ℕ) where
  read-places : (xs : List ℕ) (at k : ℕ) (rs : List Record) → drop at s ≡ xs → tokens record_at k xs ≡ given rs → ReadAt s at k xs rs
  unfolding tokens placed places chunks empty_object
  read-places [] at zero rs d e = rw (sym (same-given [] rs e)) (record { blocks = refl; labels = refl; lines = refl; texts = refl; relocations = refl })
  read-places [] at (suc k) rs d e = rw (sym (same-given [] rs e)) (record { blocks = refl; labels = refl; lines = refl; texts = refl; relocations = refl })
  read-places (b ∷ xs) at (suc k) rs d e =
      let d' : drop (at + 1) s ≡ xs = sym (drop-drop 1 at s) ∙ ap (drop 1) d in
      let r = read-places xs (at + 1) k rs d' e in
      record { blocks = r.blocks; labels = r.labels; lines = r.lines; texts = r.texts; relocations = r.relocations }
  read-places (b ∷ xs) at zero rs d e =
      let d' : drop (at + 1) s ≡ xs = sym (drop-drop 1 at s) ∙ ap (drop 1) d in
      let p = taken_apart (record_at (b ∷ xs)) (λ t. tokens record_at t.1 xs >>= λ ts. given (t.0 ∷ ts)) rs e in
      let t = p.0 in
      let q = taken_apart (tokens record_at t.1 xs) (λ ts. given (t.0 ∷ ts)) rs p.2 in
      let ts = q.0 in
      let o = only_here s at b t (ap (λ (z : List ℕ). record_at (b ∷ z)) d' ∙ p.1) in
      let n : t.1 ≡ bytes_after b xs = o.2 ∙ ap (bytes_after b) d' in
      let ih : ReadAt s (at + 1) (bytes_after b xs) xs ts = subst (λ (j : ℕ). ReadAt s (at + 1) j xs ts) n (read-places xs (at + 1) t.1 ts d' q.1) in
      let same : record_here b s at ∷ ts ≡ rs = ap (λ (r : Record). r ∷ ts) (sym o.1) ∙ same-given (t.0 ∷ ts) rs q.2 in
      subst (λ (z : List Record). ReadAt s at 0 (b ∷ xs) z) same (one_more s at xs ts b o.0 ih)

-- WHAT IS GATHERED, part by part
gathered_blocks : (h : ObjectFile) (rs : List Record) → (gather_records h rs).blocks ≡ upsert_all block_key (placed rs).blocks h.blocks
unfolding gather_records put_record placed upsert_all empty_object
gathered_blocks h [] = refl
gathered_blocks h (block b ∷ rs) = gathered_blocks (put_record h (block b)) rs
gathered_blocks h (label l ∷ rs) = gathered_blocks (put_record h (label l)) rs
gathered_blocks h (line_block l ∷ rs) = gathered_blocks (put_record h (line_block l)) rs
gathered_blocks h (source c ∷ rs) = gathered_blocks (put_record h (source c)) rs
gathered_blocks h (relocation r ∷ rs) = gathered_blocks (put_record h (relocation r)) rs

gathered_labels : (h : ObjectFile) (rs : List Record) → (gather_records h rs).labels ≡ upsert_all label_key (placed rs).labels h.labels
unfolding gather_records put_record placed upsert_all empty_object
gathered_labels h [] = refl
gathered_labels h (block b ∷ rs) = gathered_labels (put_record h (block b)) rs
gathered_labels h (label l ∷ rs) = gathered_labels (put_record h (label l)) rs
gathered_labels h (line_block l ∷ rs) = gathered_labels (put_record h (line_block l)) rs
gathered_labels h (source c ∷ rs) = gathered_labels (put_record h (source c)) rs
gathered_labels h (relocation r ∷ rs) = gathered_labels (put_record h (relocation r)) rs

gathered_lines : (h : ObjectFile) (rs : List Record) → (gather_records h rs).line_blocks ≡ upsert_all line_key (placed rs).line_blocks h.line_blocks
unfolding gather_records put_record placed upsert_all empty_object
gathered_lines h [] = refl
gathered_lines h (block b ∷ rs) = gathered_lines (put_record h (block b)) rs
gathered_lines h (label l ∷ rs) = gathered_lines (put_record h (label l)) rs
gathered_lines h (line_block l ∷ rs) = gathered_lines (put_record h (line_block l)) rs
gathered_lines h (source c ∷ rs) = gathered_lines (put_record h (source c)) rs
gathered_lines h (relocation r ∷ rs) = gathered_lines (put_record h (relocation r)) rs

gathered_relocations : (h : ObjectFile) (rs : List Record) → (gather_records h rs).relocations ≡ upsert_all relocation_key (placed rs).relocations h.relocations
unfolding gather_records put_record placed upsert_all empty_object
gathered_relocations h [] = refl
gathered_relocations h (block b ∷ rs) = gathered_relocations (put_record h (block b)) rs
gathered_relocations h (label l ∷ rs) = gathered_relocations (put_record h (label l)) rs
gathered_relocations h (line_block l ∷ rs) = gathered_relocations (put_record h (line_block l)) rs
gathered_relocations h (source c ∷ rs) = gathered_relocations (put_record h (source c)) rs
gathered_relocations h (relocation r ∷ rs) = gathered_relocations (put_record h (relocation r)) rs

-- a source after the line blocks and the chunks
unfoldable after : Option (List ℕ) → List LineBlock → List (List ℕ) → Option (List ℕ)
after o ls cs = if is_empty ls && is_empty cs then o else some (source_text o ++ flat_map (λ c. c) cs)

-- a source that is there stays, with the chunks after it
after-there : (t : List ℕ) (ls : List LineBlock) (cs : List (List ℕ)) → after (some t) ls cs ≡ some (t ++ flat_map (λ c. c) cs)
unfolding after source_text is_empty flat_map
after-there t [] [] = ap some (sym (append-nil t))
after-there t [] (c ∷ cs) = refl
after-there t (l ∷ ls) cs = refl

gathered_source : (h : ObjectFile) (rs : List Record) → (gather_records h rs).source ≡ after h.source (placed rs).line_blocks (chunks rs)
unfolding gather_records put_record placed chunks empty_object after is_empty flat_map
gathered_source h [] = refl
gathered_source h (block b ∷ rs) = gathered_source (put_record h (block b)) rs
gathered_source h (label l ∷ rs) = gathered_source (put_record h (label l)) rs
gathered_source h (line_block l ∷ rs) =
    gathered_source (put_record h (line_block l)) rs ∙ after-there (source_text h.source) (placed rs).line_blocks (chunks rs)
gathered_source h (source c ∷ rs) =
    gathered_source (put_record h (source c)) rs ∙ after-there (source_text h.source ++ c) (placed rs).line_blocks (chunks rs)
    ∙ source_more (source_text h.source) c (chunks rs) (is_empty (placed rs).line_blocks)
  where
    source_more : (t c : List ℕ) (cs : List (List ℕ)) (b : Bool) → some (t ++ c ++ flat_map (λ x. x) cs) ≡ (if b && false then h.source else some (t ++ (c ++ flat_map (λ x. x) cs)))
    source_more t c cs true = ap some (append_assoc t c (flat_map (λ x. x) cs))
    source_more t c cs false = ap some (append_assoc t c (flat_map (λ x. x) cs))
gathered_source h (relocation r ∷ rs) = gathered_source (put_record h (relocation r)) rs

-- THE OBJECT
unfoldable built : List Block → List Label → List LineBlock → Option (List ℕ) → List Relocation → ObjectFile
built bs ls ms o rs = record { blocks = bs; labels = ls; line_blocks = ms; source = o; relocations = rs }

same_object : (g h : ObjectFile) → g.blocks ≡ h.blocks → g.labels ≡ h.labels → g.line_blocks ≡ h.line_blocks → g.source ≡ h.source → g.relocations ≡ h.relocations → g ≡ h
unfolding built
same_object g h b l m c q =
    let e : built g.blocks g.labels g.line_blocks g.source g.relocations ≡ built h.blocks h.labels h.line_blocks h.source h.relocations = rw (b, l, m, c, q) refl in
    e

module _ (s : List ℕ) where
  block_keys : (p : ℕ) → block_key (block_at s p) ≡ key_at 0 s p
  unfolding key_at number_key
  block_keys p = refl

  label_keys : (p : ℕ) → label_key (label_at s p) ≡ key_at 1 s p
  unfolding key_at
  label_keys p = refl

  line_keys : (p : ℕ) → line_key (line_block_at s p) ≡ key_at 2 s p
  unfolding key_at number_key
  line_keys p = refl

  relocation_keys : (p : ℕ) → relocation_key (relocation_at s p) ≡ key_at 4 s p
  unfolding key_at number_key
  relocation_keys p = refl

  empty-map : {A : Type 0} (f : ℕ → A) (ps : List ℕ) → is_empty (map f ps) ≡ is_empty ps
  unfolding is_empty
  empty-map f [] = refl
  empty-map f (p ∷ ps) = refl

  flat_map_lem : (f : ℕ → List ℕ) (ps : List ℕ) → flat_map (λ c. c) (map f ps) ≡ flat_map f ps
  unfolding flat_map
  flat_map_lem f [] = refl
  flat_map_lem f (p ∷ ps) = ap (λ (z : List ℕ). f p ++ z) (flat_map_lem f ps)

  -- what is gathered from the records of a file is the object of its places
  pub gathered_object : (rs : List Record) → tokens record_at 0 (drop 7 s) ≡ given rs → gather_records empty_object rs ≡ object_at s
  unfolding object_at source_of places_of empty_object after source_text
  gathered_object rs e =
      let r = read-places s (drop 7 s) 7 0 rs refl e in
      let b : (gather_records empty_object rs).blocks ≡ (object_at s).blocks =
      gathered_blocks empty_object rs ∙ ap (λ (z : List Block). sorted block_key z) r.blocks ∙ sorted-map (key_at 0 s) block_key (block_at s) block_keys (places_of 0 s) in
      let l : (gather_records empty_object rs).labels ≡ (object_at s).labels =
      gathered_labels empty_object rs ∙ ap (λ (z : List Label). sorted label_key z) r.labels ∙ sorted-map (key_at 1 s) label_key (label_at s) label_keys (places_of 1 s) in
      let m : (gather_records empty_object rs).line_blocks ≡ (object_at s).line_blocks =
      gathered_lines empty_object rs ∙ ap (λ (z : List LineBlock). sorted line_key z) r.lines ∙ sorted-map (key_at 2 s) line_key (line_block_at s) line_keys (places_of 2 s) in
      let q : (gather_records empty_object rs).relocations ≡ (object_at s).relocations =
      gathered_relocations empty_object rs ∙ ap (λ (z : List Relocation). sorted relocation_key z) r.relocations ∙ sorted-map (key_at 4 s) relocation_key (relocation_at s) relocation_keys (places_of 4 s) in
      let c : (gather_records empty_object rs).source ≡ (object_at s).source =
      gathered_source empty_object rs
      ∙ rw (r.lines, r.texts, empty-map (line_block_at s) (places 2 7 0 (drop 7 s)), empty-map (chunk_at s) (places 3 7 0 (drop 7 s)), flat_map_lem (chunk_at s) (places 3 7 0 (drop 7 s))) refl in
      same_object (gather_records empty_object rs) (object_at s) b l m c q
