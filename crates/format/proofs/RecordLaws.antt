-- The order of an object's records is that of its parts, and within each part that of its keys: a well formed object's records rise,
-- and records that rise are those of the object that they are placed in. Assumes nothing.
use mathlib.Core.Path.{◌≡◌, refl, ◌∙◌, ap}
use mathlib.Core.Bool.{true}
use mathlib.Core.List.{List, [], ◌∷◌, ◌++◌, map, append_assoc}
use mathlib.Core.Option.{Option, none, some}
use Prim.Native.Nat.{ℕ, ◌≤◌, ◌<◌, compare, Ordering}
use native.Mathlib.Omega.{arith}
use Rattle.format.specs.Basics.{All}
use Rattle.format.specs.Sorted.{order, then_by}
use Rattle.format.proofs.SortedLaws.{Above, Rises, lt_of_compare, eq_of_compare, compare_of_lt}
use Rattle.format.specs.ObjectFile.{Block, Label, LineBlock, Relocation, ObjectFile, block_key, label_key, line_key, relocation_key, consistent}
use Rattle.format.specs.Records.{Record, block, label, line_block, source, relocation, record_key, records_of, source_records, empty_object, placed, with_blocks, with_labels, with_lines, with_relocations}
use Rattle.format.proofs.ListLaws.{all_map, all_append}
use Rattle.format.proofs.RisesLaws.{rises-append, rises_split}
use Rattle.format.proofs.Ranges.{WellFormed, to_parts}

-- the place of a record's part in the order
unfoldable kind_of : Record → ℕ
kind_of (block b) = 0
kind_of (label l) = 1
kind_of (line_block l) = 2
kind_of (source s) = 3
kind_of (relocation r) = 4

abbrev Below : ℕ → List Record → Type 0
Below n rs = All (λ r. kind_of r < n) rs

abbrev From : ℕ → List Record → Type 0
From n rs = All (λ r. n ≤ kind_of r) rs

unfoldable within : Record → List ℕ
within (block b) = block_key b
within (label l) = label_key l
within (line_block l) = line_key l
within (source s) = []
within (relocation r) = relocation_key r

key-parts : (r : Record) → record_key r ≡ kind_of r ∷ within r
unfolding record_key kind_of within
key-parts (block b) = refl
key-parts (label l) = refl
key-parts (line_block l) = refl
key-parts (source s) = refl
key-parts (relocation r) = refl

order_below : (r q : Record) → kind_of r < kind_of q → order (record_key r) (record_key q) ≡ Ordering.lt
unfolding order
order_below r q h = rw (key-parts r, key-parts q, compare_of_lt (kind_of r) (kind_of q) h)

below_order : (r q : Record) → order (record_key r) (record_key q) ≡ Ordering.lt → kind_of r ≤ kind_of q
unfolding order
below_order r q e = go (compare (kind_of r) (kind_of q)) refl (rw (key-parts r, key-parts q) at e)
  where
    go : (o : Ordering) → compare (kind_of r) (kind_of q) ≡ o → then_by o (order (within r) (within q)) ≡ Ordering.lt → kind_of r ≤ kind_of q
    go Ordering.lt c d = let u = lt_of_compare (kind_of r) (kind_of q) c in omega arith
    go Ordering.eq c d = let u = eq_of_compare (kind_of r) (kind_of q) c in omega arith
    go Ordering.gt c d = let z : ◌≡◌ {A = ℕ} 0 1 = cc in absurd (omega arith)

after-source : (s : List ℕ) (q : Record) → order (record_key (source s)) (record_key q) ≡ Ordering.lt → 4 ≤ kind_of q
unfolding order record_key kind_of
after-source s (block b) e = let z : ◌≡◌ {A = ℕ} 0 1 = cc in absurd (omega arith)
after-source s (label l) e = let z : ◌≡◌ {A = ℕ} 0 1 = cc in absurd (omega arith)
after-source s (line_block l) e = let z : ◌≡◌ {A = ℕ} 0 1 = cc in absurd (omega arith)
after-source s (source t) e = let z : ◌≡◌ {A = ℕ} 0 1 = cc in absurd (omega arith)
after-source s (relocation r) e = omega arith

above_all : (P : Record → Type 0) (k : List ℕ) → ((q : Record) → order k (record_key q) ≡ Ordering.lt → P q) → (rs : List Record) → Above record_key k rs → All P rs
above_all P k f rs h = all_map f rs h

all_above : (n : ℕ) (r : Record) → kind_of r < n → (rs : List Record) → From n rs → Above record_key (record_key r) rs
all_above n r h [] k = tt
all_above n r h (q ∷ rs) k = (order_below r q (let u = k.0 in omega arith), all_above n r h rs k.1)

rises-parts : (n : ℕ) (xs ys : List Record) → Rises record_key xs → Rises record_key ys → Below n xs → From n ys → Rises record_key (xs ++ ys)
rises-parts n xs ys h k u v = rises-append record_key xs ys h k (all_map (λ r w. all_above n r w ys v) xs u)

-- each part rises by its own key where its records rise
module _ {A : Type 0} (key : A → List ℕ) (f : A → Record) where
  rises_records : ((a b : A) → order (key a) (key b) ≡ Ordering.lt → order (record_key (f a)) (record_key (f b)) ≡ Ordering.lt) → (xs : List A) → Rises key xs → Rises record_key (map f xs)
  rises_records up [] h = tt
  rises_records up (x ∷ xs) h = (above x xs h.0, rises_records up xs h.1)
    where
      above : (a : A) (ys : List A) → Above key (key a) ys → Above record_key (record_key (f a)) (map f ys)
      above a [] k = tt
      above a (y ∷ ys) k = (up a y k.0, above a ys k.1)

  records_rise : ((a b : A) → order (record_key (f a)) (record_key (f b)) ≡ Ordering.lt → order (key a) (key b) ≡ Ordering.lt) → (xs : List A) → Rises record_key (map f xs) → Rises key xs
  records_rise down [] h = tt
  records_rise down (x ∷ xs) h = (above x xs h.0, records_rise down xs h.1)
    where
      above : (a : A) (ys : List A) → Above record_key (record_key (f a)) (map f ys) → Above key (key a) ys
      above a [] k = tt
      above a (y ∷ ys) k = (down a y k.0, above a ys k.1)

all_of : {A : Type 0} (P : Record → Type 0) (f : A → Record) → ((a : A) → P (f a)) → (xs : List A) → All P (map f xs)
all_of P f p [] = tt
all_of P f p (x ∷ xs) = (p x, all_of P f p xs)

weaker : (m n : ℕ) → m ≤ n → (rs : List Record) → From n rs → From m rs
weaker m n e rs k = all_map (λ r u. omega arith) rs k

source-kind : (o : Option (List ℕ)) → Below 4 (source_records o) × From 3 (source_records o) × Rises record_key (source_records o)
unfolding source_records kind_of
source-kind none = (tt, tt, tt)
source-kind (some s) = ((omega arith, tt), (omega arith, tt), (tt, tt))

-- a part in front of the later ones
in_front_lem : (k n : ℕ) (xs ys : List Record) → k ≤ n → Rises record_key xs → Below n xs → From k xs → Rises record_key ys × From n ys → Rises record_key (xs ++ ys) × From k (xs ++ ys)
in_front_lem k n xs ys l h b f r = (rises-parts n xs ys h r.0 b r.1, all_append (λ q. k ≤ kind_of q) xs ys f (weaker k n l ys r.1))

pub object-rises : (h : ObjectFile) → WellFormed h → Rises record_key (records_of h)
unfolding records_of kind_of order record_key
object-rises h w =
    let bs : List Record = map block h.blocks in
    let ls : List Record = map label h.labels in
    let ms : List Record = map line_block h.line_blocks in
    let ss : List Record = source_records h.source in
    let rs : List Record = map relocation h.relocations in
    let o = source-kind h.source in
    let p4 : Rises record_key rs × From 4 rs =
    (rises_records relocation_key relocation (λ a b e. e) h.relocations w.relocations, all_of (λ r. 4 ≤ kind_of r) relocation (λ a. omega arith) h.relocations) in
    let p3 = in_front_lem 3 4 ss rs (omega arith) o.2 o.0 o.1 p4 in
    let p2 =
    in_front_lem 2 3 ms (ss ++ rs) (omega arith) (rises_records line_key line_block (λ a b e. e) h.line_blocks w.line_blocks) (all_of (λ r. kind_of r < 3) line_block (λ a. omega arith) h.line_blocks)
    (all_of (λ r. 2 ≤ kind_of r) line_block (λ a. omega arith) h.line_blocks) p3 in
    let p1 =
    in_front_lem 1 2 ls (ms ++ (ss ++ rs)) (omega arith) (rises_records label_key label (λ a b e. e) h.labels w.labels) (all_of (λ r. kind_of r < 2) label (λ a. omega arith) h.labels)
    (all_of (λ r. 1 ≤ kind_of r) label (λ a. omega arith) h.labels) p2 in
    let p0 =
    in_front_lem 0 1 bs (ls ++ (ms ++ (ss ++ rs))) (omega arith) (rises_records block_key block (λ a b e. e) h.blocks w.blocks) (all_of (λ r. kind_of r < 1) block (λ a. omega arith) h.blocks)
    (all_of (λ r. 0 ≤ kind_of r) block (λ a. omega arith) h.blocks) p1 in
    simp append_assoc p0.0

from_first : (n : ℕ) (r : Record) → kind_of r ≡ n → (rs : List Record) → Above record_key (record_key r) rs → From n rs
from_first n r e rs h = above_all (λ q. n ≤ kind_of q) (record_key r) (λ q o. let u = below_order r q o in omega arith) rs h

kind-label : (l : Label) → kind_of (label l) ≡ 1
unfolding kind_of
kind-label l = refl

kind-line : (l : LineBlock) → kind_of (line_block l) ≡ 2
unfolding kind_of
kind-line l = refl

kind-relocation : (r : Relocation) → kind_of (relocation r) ≡ 4
unfolding kind_of
kind-relocation r = refl

block-first : (h : ObjectFile) (b : Block) → records_of (with_blocks h (b ∷ h.blocks)) ≡ block b ∷ records_of h
unfolding records_of
block-first h b = refl

nothing_records : records_of empty_object ≡ []
unfolding records_of empty_object source_records
nothing_records = refl

-- the parts of an object whose records all come from a kind on
none_below : {A : Type 0} (f : A → Record) (n : ℕ) → ((a : A) → kind_of (f a) < n) → (xs : List A) → All (λ a. n ≤ kind_of (f a)) xs → xs ≡ []
none_below f n p [] h = refl
none_below f n p (x ∷ xs) h = let u = p x in let v = h.0 in absurd (omega arith)

no_source : (o : Option (List ℕ)) → From 4 (source_records o) → o ≡ none
unfolding source_records kind_of
no_source none h = refl
no_source (some s) h = let v = h.0 in absurd (omega arith)

module _ (h : ObjectFile) where
  no_blocks : From 1 (records_of h) → h.blocks ≡ []
  unfolding kind_of
  no_blocks k = none_below block 1 (λ a. omega arith) h.blocks (to_parts (λ r. 1 ≤ kind_of r) h k).blocks

  no_labels : From 2 (records_of h) → h.labels ≡ []
  unfolding kind_of
  no_labels k = none_below label 2 (λ a. omega arith) h.labels (to_parts (λ r. 2 ≤ kind_of r) h k).labels

  no_lines_lem : From 3 (records_of h) → h.line_blocks ≡ []
  unfolding kind_of
  no_lines_lem k = none_below line_block 3 (λ a. omega arith) h.line_blocks (to_parts (λ r. 3 ≤ kind_of r) h k).line_blocks

  source_absent : From 4 (records_of h) → h.source ≡ none
  source_absent k = no_source h.source (to_parts (λ r. 4 ≤ kind_of r) h k).source

  label-first : (l : Label) → From 1 (records_of h) → records_of (with_labels h (l ∷ h.labels)) ≡ label l ∷ records_of h
  unfolding records_of
  label-first l k = rw (no_blocks k)

  line_first : (l : LineBlock) → From 2 (records_of h) → records_of (with_lines h (l ∷ h.line_blocks) h.source) ≡ line_block l ∷ records_of h
  unfolding records_of
  line_first l k = rw (no_blocks (weaker 1 2 (omega arith) (records_of h) k), no_labels k)

  source_first : (s : List ℕ) → From 4 (records_of h) → records_of (with_lines h h.line_blocks (some s)) ≡ source s ∷ records_of h
  unfolding records_of source_records
  source_first s k =
      rw (no_blocks (weaker 1 4 (omega arith) (records_of h) k), no_labels (weaker 2 4 (omega arith) (records_of h) k), no_lines_lem (weaker 3 4 (omega arith) (records_of h) k), source_absent k)

  relocation-first : (r : Relocation) → From 4 (records_of h) → records_of (with_relocations h (r ∷ h.relocations)) ≡ relocation r ∷ records_of h
  unfolding records_of source_records
  relocation-first r k =
      rw (no_blocks (weaker 1 4 (omega arith) (records_of h) k), no_labels (weaker 2 4 (omega arith) (records_of h) k), no_lines_lem (weaker 3 4 (omega arith) (records_of h) k), source_absent k)

-- records in rising order are those of the object that they are placed in
pub records_placed : (rs : List Record) → Rises record_key rs → records_of (placed rs) ≡ rs
unfolding placed
records_placed [] h = nothing_records
records_placed (block b ∷ rs) h = block-first (placed rs) b ∙ ap (λ (x : List Record). block b ∷ x) (records_placed rs h.1)
records_placed (label l ∷ rs) h =
    let ih = records_placed rs h.1 in
    label-first (placed rs) l (rw ih (from_first 1 (label l) (kind-label l) rs h.0)) ∙ ap (λ (x : List Record). label l ∷ x) ih
records_placed (line_block l ∷ rs) h =
    let ih = records_placed rs h.1 in
    line_first (placed rs) l (rw ih (from_first 2 (line_block l) (kind-line l) rs h.0)) ∙ ap (λ (x : List Record). line_block l ∷ x) ih
records_placed (source s ∷ rs) h =
    let ih = records_placed rs h.1 in
    source_first (placed rs) s (rw ih (above_all (λ q. 4 ≤ kind_of q) (record_key (source s)) (after-source s) rs h.0)) ∙ ap (λ (x : List Record). source s ∷ x) ih
records_placed (relocation r ∷ rs) h =
    let ih = records_placed rs h.1 in
    relocation-first (placed rs) r (rw ih (from_first 4 (relocation r) (kind-relocation r) rs h.0)) ∙ ap (λ (x : List Record). relocation r ∷ x) ih

-- and its parts rise
pub parts_rise : (h : ObjectFile) → Rises record_key (records_of h) → consistent h ≡ true → WellFormed h
unfolding records_of order record_key
parts_rise h k s =
    let p4 = rises_split record_key (map block h.blocks ++ map label h.labels ++ map line_block h.line_blocks ++ source_records h.source) (map relocation h.relocations) k in
    let p3 = rises_split record_key (map block h.blocks ++ map label h.labels ++ map line_block h.line_blocks) (source_records h.source) p4.0 in
    let p2 = rises_split record_key (map block h.blocks ++ map label h.labels) (map line_block h.line_blocks) p3.0 in
    let p1 = rises_split record_key (map block h.blocks) (map label h.labels) p2.0 in
    record {
      blocks = records_rise block_key block (λ a b e. e) h.blocks p1.0;
      labels = records_rise label_key label (λ a b e. e) h.labels p1.1;
      line_blocks = records_rise line_key line_block (λ a b e. e) h.line_blocks p2.1;
      relocations = records_rise relocation_key relocation (λ a b e. e) h.relocations p4.1;
      consistent = s;
    }
