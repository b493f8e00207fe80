-- Blocks of .TEXT at places.
-- Assumes nothing.
use Rattle.std.proofs.Common.{◌≡◌, ℕ, zero, suc, ◌+◌, ◌-◌, ◌/◌, ◌%◌, ◌^◌, ◌<◌, ◌≤◌, Bool, true, false, not, eqb, leb, List, [], ◌∷◌, map, length, take, drop, sym, refl, ap, ◌∙◌, subst, true≢false, arith, length-append, drop-drop, eqb-true, leb-false, leb-true}
use mathlib.Core.List.{flat_map}
use mathlib.Core.Option.{Option, none, some}
use Prim.Native.Nat.{compare, Ordering}
use lib.ListN.{length-map}
use lib.Dec.{compare_is_eq}
use borrow.Author.Tests.{eqb-false}
use Rattle.std.specs.Prelude.{if◌then◌else◌}
use Rattle.format.specs.Basics.{Outcome, refused, given, ◌>>=◌, ask, need, and_then, all_some, is_some}
use Rattle.format.specs.Tokens.{Parts, scan_tokens}
use Rattle.format.specs.Sorted.{order, by_ordering, then_by, upsert, at_key}
use Rattle.format.proofs.SortedLaws.{at_key-upsert}
use Rattle.format.specs.TextReader.{hex2u16, parse_decimal, parse_number, maybe_hex2u16, block_at, parse_text_group}
use Rattle.format.specs.ObjectFile.{ObjectFile, Block, block_key}
use Rattle.format.specs.Records.{put_record, block}
use Rattle.format.specs.Words.{memory_word, record_words}
use Rattle.trim.specs.Span.{part}
use Rattle.text_lines.specs.Groups.{parts_from, RowAt}
use Rattle.text_lines.proofs.RowLaws.{rows_on, row-groups}
use Rattle.text_blocks.specs.Blocks.{words_in, block_in, EntriesAt, BodyAt, BlockFrom, NoBlock, is_marked, marked, Seen, blocks_length, Counts, Settles}
use Rattle.text_blocks.proofs.MarkLaws.{length_marked, marked-same, marked_other}
use Rattle.text_lines.proofs.TestLaws.{by_test}

enough : (n : ℕ) (ls : List (List ℕ)) → n ≤ length ls → all_some maybe_hex2u16 (take n ls) ≡ words_in n ls
unfolding all_some words_in
enough zero ls h = refl
enough (suc n) [] h = absurd (omega arith)
enough (suc n) (l ∷ ls) h = ap (λ (o : Option (List (Option ℕ))). and_then (maybe_hex2u16 l) λ w. and_then o λ ws. some (w ∷ ws)) (enough n ls (omega arith))

none_after : {A B C : Type 0} (o : Option A) (f : A → B → C) → and_then o (λ w. and_then none λ ws. some (f w ws)) ≡ none
none_after none f = refl
none_after (some a) f = refl

short : (n : ℕ) (ls : List (List ℕ)) → length ls < n → words_in n ls ≡ none
unfolding words_in
short zero ls h = absurd (omega arith)
short (suc n) [] h = refl
short (suc n) (l ∷ ls) h = rw (short n ls (omega arith)) (none_after (maybe_hex2u16 l) (λ w ws. w ∷ ws))

-- the count's question and the entries' are one
pub words_take : {B : Type 0} (n : ℕ) (ls : List (List ℕ)) (f : List (Option ℕ) → Outcome B)
    → (ask 24 (leb n (length ls)) >>= λ _. need 24 (all_some maybe_hex2u16 (take n ls)) >>= f) ≡ (need 24 (words_in n ls) >>= f)
words_take n ls f =
    by_test (leb n (length ls))
    (λ t. rw t (ap (λ (o : Option (List (Option ℕ))). need 24 o >>= f) (enough n ls (leb-true n (length ls) t))))
    (λ t. rw (t, short n ls (leb-false n (length ls) t)))

-- a block is parsed, asked whether it is new, and put
unfoldable pub put_new : ObjectFile → Block × ℕ → Outcome (ObjectFile × ℕ)
put_new h p = ask 25 (not (is_some (at_key block_key (p.0.address ∷ []) h.blocks))) >>= λ _. given (put_record h (block p.0), suc p.1)

pub block_at_lem : (h : ObjectFile) (l : List ℕ) (ls : List (List ℕ)) → block_at h (l ∷ ls) ≡ (need 24 (block_in (l ∷ ls)) >>= λ p. put_new h p)
unfolding block_at block_in put_new
block_at_lem h l [] = refl
block_at_lem h l (c ∷ ls) = go (hex2u16 l) (parse_decimal 65536 c)
  where
    rest : ℕ → ℕ → List (Option ℕ) → Outcome (ObjectFile × ℕ)
    rest a n ws = put_new h (record { address = a; words = ws }, n)

    last : (a n : ℕ) (o : Option (List (Option ℕ))) → (need 24 o >>= rest a n) ≡ (need 24 (and_then o λ ws. some (record { address = a; words = ws }, n)) >>= λ p. put_new h p)
    last a n none = refl
    last a n (some ws) = refl

    go : (o p : Option ℕ)
        → (need 24 o >>= λ a. need 24 p >>= λ n. ask 24 (leb n (length ls)) >>= λ _. need 24 (all_some maybe_hex2u16 (take n ls)) >>= rest a n)
        ≡ (need 24 (and_then o λ a. and_then p λ n. and_then (words_in n ls) λ ws. some (record { address = a; words = ws }, n)) >>= λ p. put_new h p)
    go none p = refl
    go (some a) none = refl
    go (some a) (some n) = words_take n ls (rest a n) ∙ last a n (words_in n ls)

scan_drop : {A S : Type 0} (one : S → List A → Outcome (S × ℕ)) (s : S) (k : ℕ) (xs : List A) → scan_tokens one s k xs ≡ scan_tokens one s 0 (drop k xs)
unfolding scan_tokens
scan_drop one s zero [] = refl
scan_drop one s (suc k) [] = refl
scan_drop one s zero (a ∷ xs) = refl
scan_drop one s (suc k) (a ∷ xs) = scan_drop one s k xs

module _ (h : ObjectFile) (rows : List (List ℕ)) where
  pub text-end : rows ≡ [] → parse_text_group h rows ≡ given h
  unfolding parse_text_group scan_tokens
  text-end e = rw e

  module _ (l : List ℕ) (ls : List (List ℕ)) (r : rows ≡ l ∷ ls) where
    step : (o : Option (Block × ℕ)) → block_in rows ≡ o → parse_text_group h rows ≡ ((need 24 o >>= λ p. put_new h p) >>= λ t. scan_tokens block_at t.0 t.1 ls)
    unfolding parse_text_group scan_tokens
    step o e = ap (λ (x : List (List ℕ)). scan_tokens block_at h 0 x) r ∙ ap (λ (x : Outcome (ObjectFile × ℕ)). x >>= λ t. scan_tokens block_at t.0 t.1 ls) (block_at_lem h l ls ∙ ap (λ (x : Option (Block × ℕ)). need 24 x >>= λ p. put_new h p) (ap block_in (sym r) ∙ e))

    pub text-bad : block_in rows ≡ none → parse_text_group h rows ≡ refused 24
    text-bad e = step none e

    pub text_again : (b : Block) (n : ℕ) → block_in rows ≡ some (b, n) → is_some (at_key block_key (b.address ∷ []) h.blocks) ≡ true → parse_text_group h rows ≡ refused 25
    unfolding put_new
    text_again b n e f = step (some (b, n)) e ∙ rw f

    pub text-on : (b : Block) (n : ℕ) → block_in rows ≡ some (b, n) → is_some (at_key block_key (b.address ∷ []) h.blocks) ≡ false → parse_text_group h rows ≡ parse_text_group (put_record h (block b)) (drop (suc n) ls)
    unfolding put_new parse_text_group
    text-on b n e f = step (some (b, n)) e ∙ rw f (scan_drop block_at (put_record h (block b)) (suc n) ls)

-- marks
then_eq : (o : Ordering) → compare_is_eq (then_by o Ordering.eq) ≡ compare_is_eq o
then_eq Ordering.lt = refl
then_eq Ordering.eq = refl
then_eq Ordering.gt = refl

order-one : (x a : ℕ) → compare_is_eq (order (x ∷ []) (a ∷ [])) ≡ eqb x a
unfolding order
order-one x a = then_eq (compare x a)

seen_put : (h : ObjectFile) (seen : List ℕ) (b : Block) → Seen h seen → b.address / 8 < length seen → is_marked seen b.address ≡ false
    → Seen (put_record h (block b)) (marked seen b.address)
unfolding put_record is_some
seen_put h seen b s l new x =
    ap (λ (o : Option Block). is_some o) (at_key-upsert block_key (x ∷ []) b h.blocks ∙ ap (λ (t : Bool). if t then some b else at_key block_key (x ∷ []) h.blocks) (order-one x b.address))
    ∙ by_test (eqb x b.address)
    (λ t. rw t (sym (ap (is_marked (marked seen b.address)) (eqb-true x b.address t) ∙ marked-same seen b.address l new)))
    (λ t. rw t (s x ∙ sym (marked_other seen b.address l new x (eqb-false x b.address t))))

-- a step over entries
module _ (t : List ℕ) (at a e n : ℕ) (l : RowAt t at a e n) where
  rows_at : (parts_from t at).before ≡ part a e t ∷ (parts_from t n).before
  rows_at = rows_on t at a e n l

  pub words-on : (k : ℕ) (w : Option ℕ) → 0 < k → some w ≡ maybe_hex2u16 (part a e t) → is_some (words_in (k - 1) (parts_from t n).before) ≡ is_some (words_in k (parts_from t at).before)
  unfolding words_in is_some
  words-on zero w h q = absurd (omega arith)
  words-on (suc k) w h q =
      let z : suc k - 1 ≡ k = omega arith in
      ap (λ (j : ℕ). is_some (words_in j (parts_from t n).before)) z
      ∙ sym (ap (λ (x : List (List ℕ)). is_some (words_in (suc k) x)) rows_at ∙ ap (λ (o : Option (Option ℕ)). is_some (and_then o λ w. and_then (words_in k (parts_from t n).before) λ ws. some (w ∷ ws))) (sym q) ∙ go w (words_in k (parts_from t n).before))
    where
      go : (w : Option ℕ) (o : Option (List (Option ℕ))) → is_some (and_then o λ ws. some (w ∷ ws)) ≡ is_some o
      go w none = refl
      go w (some ws) = refl

  pub words-bad : (k : ℕ) → 0 < k → none ≡ maybe_hex2u16 (part a e t) → is_some (words_in k (parts_from t at).before) ≡ false
  unfolding words_in is_some
  words-bad zero h q = absurd (omega arith)
  words-bad (suc k) h q = ap (λ (x : List (List ℕ)). is_some (words_in (suc k) x)) rows_at ∙ rw (← q)

pub words-none : (t : List ℕ) (at k : ℕ) → 0 < k → (parts_from t at).before ≡ [] → is_some (words_in k (parts_from t at).before) ≡ false
unfolding words_in is_some
words-none t at zero h q = absurd (omega arith)
words-none t at (suc k) h q = ap (λ (x : List (List ℕ)). is_some (words_in (suc k) x)) q

-- what the loop over entries knows
pub record Passing (t : List ℕ) (at n i left : ℕ) : Type 0 where
  pub from : at ≤ i
  pub few : left ≤ n
  pub same : parts_from t i ≡ record { before = drop (n - left) (parts_from t at).before; groups = (parts_from t at).groups }
  pub read : is_some (words_in left (parts_from t i).before) ≡ is_some (words_in n (parts_from t at).before)

pub passing_begin : (t : List ℕ) (at n : ℕ) → Passing t at n at n
passing_begin t at n =
    let k : 0 ≡ n - n = omega arith in
    record {
      from = omega arith;
      few = omega arith;
      same = ap (λ (j : ℕ). record { before = drop j (parts_from t at).before; groups = (parts_from t at).groups }) k;
      read = refl;
    }

pub passing_on : (t : List ℕ) (at n i left a e x : ℕ) → Passing t at n i left → RowAt t i a e x → (w : Option ℕ) → 0 < left → some w ≡ maybe_hex2u16 (part a e t) → Passing t at n x (left - 1)
passing_on t at n i left a e x p l w h q =
    let f : left ≤ n = p.few in
    let k : n - left + 1 ≡ n - (left - 1) = omega arith in
    let rest : (parts_from t x).before ≡ drop 1 (parts_from t i).before = sym (ap (λ (r : List (List ℕ)). drop 1 r) (rows_at t i a e x l)) in
    let rest2 : (parts_from t x).before ≡ drop (n - (left - 1)) (parts_from t at).before = rest ∙ ap (λ (r : Parts (List ℕ)). drop 1 r.before) p.same ∙ drop-drop 1 (n - left) (parts_from t at).before ∙ ap (λ (j : ℕ). drop j (parts_from t at).before) k in
    let gs : (parts_from t x).groups ≡ (parts_from t at).groups = row-groups t i a e x l ∙ ap (λ (r : Parts (List ℕ)). r.groups) p.same in
    record {
      from = omega (arith, p.from, l.on);
      few = omega arith;
      same = ap (λ (b : List (List ℕ)). record { before = b; groups = (parts_from t x).groups }) rest2 ∙ ap (λ (g : List (List ℕ × List (List ℕ))). record { before = drop (n - (left - 1)) (parts_from t at).before; groups = g }) gs;
      read = words-on t i a e x l left w h q ∙ p.read;
    }

pub passing_end : (t : List ℕ) (at n i left : ℕ) → Passing t at n i left → left ≤ 0 → EntriesAt t at n i
unfolding words_in is_some
passing_end t at n i left p h =
    let z : left ≡ 0 = omega arith in
    let k : n - left ≡ n = omega arith in
    record {
      from = p.from;
      read = sym p.read ∙ ap (λ (j : ℕ). is_some (words_in j (parts_from t i).before)) z;
      same = p.same ∙ ap (λ (j : ℕ). record { before = drop j (parts_from t at).before; groups = (parts_from t at).groups }) k;
    }

-- an entry that is there
pub there_is : {A : Type 0} (o : Option A) → is_some o ≡ true → (w : A) × (some w ≡ o)
unfolding is_some
there_is none h = absurd (true≢false (sym h))
there_is (some w) h = (w, refl)

pub there_is_none : {A : Type 0} (o : Option A) → is_some o ≡ false → none ≡ o
unfolding is_some
there_is_none none h = refl
there_is_none (some w) h = absurd (true≢false h)

-- a block's lines, one after the other
block_in_hex : (l : List ℕ) (ls : List (List ℕ)) → none ≡ hex2u16 l → block_in (l ∷ ls) ≡ none
unfolding block_in
block_in_hex l [] e = refl
block_in_hex l (c ∷ ls) e = rw (← e)

-- from its count on
none_then : {A B : Type 0} (o : Option A) → and_then {B = B} o (λ a. none) ≡ none
none_then none = refl
none_then (some a) = refl

pub body_no0 : (t : List ℕ) (at : ℕ) → (parts_from t at).before ≡ [] → (l : List ℕ) → block_in (l ∷ (parts_from t at).before) ≡ none
unfolding block_in
body_no0 t at q l = ap (λ (ls : List (List ℕ)). block_in (l ∷ ls)) q

module _ (t : List ℕ) (at c f m : ℕ) (k : RowAt t at c f m) where
  pub body_no1 : none ≡ parse_number 10 65536 (part c f t) → (l : List ℕ) → block_in (l ∷ (parts_from t at).before) ≡ none
  unfolding block_in
  body_no1 q l = ap (λ (ls : List (List ℕ)). block_in (l ∷ ls)) (rows_at t at c f m k) ∙ rw (← q) (none_then (hex2u16 l))

  pub body_no2 : (x : ℕ) → some x ≡ parse_number 10 65536 (part c f t) → is_some (words_in x (parts_from t m).before) ≡ false
      → (l : List ℕ) → block_in (l ∷ (parts_from t at).before) ≡ none
  unfolding block_in
  body_no2 x q w l =
      ap (λ (ls : List (List ℕ)). block_in (l ∷ ls)) (rows_at t at c f m k)
      ∙ rw (← q, ← there_is_none (words_in x (parts_from t m).before) w) (none_then (hex2u16 l))

module _ (t : List ℕ) (at a e n : ℕ) (l : RowAt t at a e n) where
  no_block : block_in (part a e t ∷ (parts_from t n).before) ≡ none → NoBlock t at
  no_block q = record { first = part a e t; lines = (parts_from t n).before; rows = rows_at t at a e n l; read = ap block_in (rows_at t at a e n l) ∙ q }

  pub block_no0 : none ≡ hex2u16 (part a e t) → NoBlock t at
  block_no0 q = no_block (block_in_hex (part a e t) (parts_from t n).before q)

  pub block_no1 : ((k : List ℕ) → block_in (k ∷ (parts_from t n).before) ≡ none) → NoBlock t at
  block_no1 q = no_block (q (part a e t))

  module _ (d : ℕ) (hd : some d ≡ hex2u16 (part a e t)) (small : d < 65536) (x m q : ℕ) (b : BodyAt t n x m q) where
    two : (parts_from t at).before ≡ part a e t ∷ part b.start b.end t ∷ (parts_from t m).before
    two = rows_at t at a e n l ∙ ap (λ (ls : List (List ℕ)). part a e t ∷ ls) (rows_at t n b.start b.end m b.row)

    block_of : (ws : List (Option ℕ)) → some ws ≡ words_in x (parts_from t m).before → BlockFrom t at d x m q
    unfolding block_in
    block_of ws r =
        record {
          on = omega (arith, l.on, b.row.on, b.entries.from);
          inside = omega (arith, l.on, l.next);
          address = small;
          words = ws;
          lines = part b.start b.end t ∷ (parts_from t m).before;
          first = part a e t;
          rows = two;
          read = ap block_in two ∙ rw (← hd, ← b.count, ← r);
          there = sym r;
          rest = ap (λ (p : Parts (List ℕ)). p.before) b.entries.same;
          groups = ap (λ (p : Parts (List ℕ)). p.groups) b.entries.same ∙ row-groups t n b.start b.end m b.row ∙ row-groups t at a e n l;
        }

    pub block-yes : BlockFrom t at d x m q
    block-yes = let ws = there_is (words_in x (parts_from t m).before) b.entries.read in block_of ws.0 ws.1

-- WORDS of blocks: one that is new has its own, beside those of the others
words_count : (k : ℕ) (ls : List (List ℕ)) (ws : List (Option ℕ)) → words_in k ls ≡ some ws → length ws ≡ k
unfolding words_in
words_count zero ls ws e = let q : ws ≡ [] = cc in ap length q
words_count (suc k) [] ws e = let z : ◌≡◌ {A = ℕ} 0 1 = cc in absurd (omega arith)
words_count (suc k) (l ∷ ls) ws e = go (maybe_hex2u16 l) (words_in k ls) (words_count k ls) e
  where
    go : (o : Option (Option ℕ)) (p : Option (List (Option ℕ))) → ((vs : List (Option ℕ)) → p ≡ some vs → length vs ≡ k)
        → (and_then o λ w. and_then p λ vs. some (w ∷ vs)) ≡ some ws → length ws ≡ suc k
    go none p ih e = let z : ◌≡◌ {A = ℕ} 0 1 = cc in absurd (omega arith)
    go (some w) none ih e = let z : ◌≡◌ {A = ℕ} 0 1 = cc in absurd (omega arith)
    go (some w) (some vs) ih e = let q : ws ≡ w ∷ vs = cc in ap length q ∙ ap suc (ih vs refl)

length-block : (b : Block) (bs : List Block) → blocks_length (b ∷ bs) ≡ 1 + length b.words + blocks_length bs
unfolding blocks_length flat_map record_words
length-block b bs =
    omega (arith, length-append (record_words (block b)) (flat_map record_words (map block bs)), length-map b.words memory_word)

length-new : (b : Block) (bs : List Block) → is_some (at_key block_key (b.address ∷ []) bs) ≡ false
    → blocks_length (upsert block_key b bs) ≡ 1 + length b.words + blocks_length bs
unfolding upsert at_key is_some
length-new b [] n = length-block b []
length-new b (x ∷ xs) n = go (order (block_key b) (block_key x)) n (length-new b xs)
  where
    go : (o : Ordering) → is_some (if compare_is_eq o then some x else at_key block_key (b.address ∷ []) xs) ≡ false
        → (is_some (at_key block_key (b.address ∷ []) xs) ≡ false → blocks_length (upsert block_key b xs) ≡ 1 + length b.words + blocks_length xs)
        → blocks_length (by_ordering o (b ∷ x ∷ xs) (b ∷ xs) (x ∷ upsert block_key b xs)) ≡ 1 + length b.words + blocks_length (x ∷ xs)
    go Ordering.lt n ih = length-block b (x ∷ xs)
    go Ordering.eq n ih = absurd (true≢false n)
    go Ordering.gt n ih = omega (arith, length-block x (upsert block_key b xs), length-block x xs, ih n)

counts-put : (h : ObjectFile) (b : Block) (words n m : ℕ) → is_some (at_key block_key (b.address ∷ []) h.blocks) ≡ false → Counts h words
    → length b.words ≡ n → m ≡ (words + (1 + n)) % 2 ^ 64 → Counts (put_record h (block b)) m
unfolding put_record
counts-put h b words n m new c l e =
    let k : ℕ = blocks_length h.blocks in
    let g : blocks_length (upsert block_key b h.blocks) ≡ 1 + length b.words + k = length-new b h.blocks new in
    let z : m ≡ (1 + length b.words + k) % 2 ^ 64 = omega (arith, c, l, e) in
    z ∙ ap (λ (x : ℕ). x % 2 ^ 64) (sym g)

-- what the loop over blocks knows: the object that the definition's scan has by now, whichever stood at first
pub record Marking (t : List ℕ) (at words₀ : ℕ) (seen₀ : List ℕ) (i words : ℕ) (seen : List ℕ) : Type 0 where
  pub from : at ≤ i
  pub size : length seen ≡ length seen₀
  pub groups : (parts_from t i).groups ≡ (parts_from t at).groups
  pub stands : (h₀ : ObjectFile) → Seen h₀ seen₀ → Counts h₀ words₀
      → (h : ObjectFile) × Seen h seen × Counts h words × (parse_text_group h (parts_from t i).before ≡ parse_text_group h₀ (parts_from t at).before)

pub marking_begin : (t : List ℕ) (at words : ℕ) (seen : List ℕ) → Marking t at words seen at words seen
marking_begin t at words seen = record { from = omega arith; size = refl; groups = refl; stands = λ h₀ s n. (h₀, s, n, refl) }

module _ (t : List ℕ) (at words₀ : ℕ) (seen₀ : List ℕ) (i words : ℕ) (seen : List ℕ) (m : Marking t at words₀ seen₀ i words seen) where
  pub marking_on : (a n p q : ℕ) → BlockFrom t i a n p q → is_marked seen a ≡ false → a / 8 < length seen → (words' : ℕ) → words' ≡ (words + (1 + n)) % 2 ^ 64
      → Marking t at words₀ seen₀ q words' (marked seen a)
  marking_on a n p q b new l words' e =
      record {
        from = omega (arith, m.from, b.on);
        size = length_marked seen a ∙ m.size;
        groups = b.groups ∙ m.groups;
        stands = λ h₀ s c.
            let w = m.stands h₀ s c in
            let fresh = w.1 a ∙ new in (
              put_record w.0 (block (record { address = a; words = b.words })),
              seen_put w.0 seen (record { address = a; words = b.words }) w.1 l new,
              counts-put w.0 (record { address = a; words = b.words }) words n words' fresh w.2 (words_count n (parts_from t p).before b.words b.there) e,
              ap (parse_text_group (put_record w.0 (block (record { address = a; words = b.words })))) b.rest
                  ∙ sym (text-on w.0 (parts_from t i).before b.first b.lines b.rows (record { address = a; words = b.words }) n b.read fresh)
                  ∙ w.3,
            );
      }

  settled_as : (o : Outcome ObjectFile) (number n : ℕ) (h₀ : ObjectFile) → o ≡ parse_text_group h₀ (parts_from t at).before → Settles o number seen n
      → Settles (parse_text_group h₀ (parts_from t at).before) number seen n
  settled_as o number n h₀ e s = subst (λ (x : Outcome ObjectFile). Settles x number seen n) e s

  pub marking_again : (a n p q : ℕ) → BlockFrom t i a n p q → is_marked seen a ≡ true → (h₀ : ObjectFile) → Seen h₀ seen₀ → Counts h₀ words₀
      → Settles (parse_text_group h₀ (parts_from t at).before) 25 seen 0
  marking_again a n p q b old h₀ s c =
      let w = m.stands h₀ s c in
      settled_as (refused 25) 25 0 h₀
      (sym (text_again w.0 (parts_from t i).before b.first b.lines b.rows (record { address = a; words = b.words }) n b.read (w.1 a ∙ old)) ∙ w.3)
      refl

  pub marking_bad : NoBlock t i → (h₀ : ObjectFile) → Seen h₀ seen₀ → Counts h₀ words₀ → Settles (parse_text_group h₀ (parts_from t at).before) 24 seen 0
  marking_bad b h₀ s c =
      let w = m.stands h₀ s c in
      settled_as (refused 24) 24 0 h₀ (sym (text-bad w.0 (parts_from t i).before b.first b.lines b.rows b.read) ∙ w.3) refl

  pub marking_end : (parts_from t i).before ≡ [] → (h₀ : ObjectFile) → Seen h₀ seen₀ → Counts h₀ words₀ → Settles (parse_text_group h₀ (parts_from t at).before) 0 seen words
  marking_end e h₀ s c =
      let w = m.stands h₀ s c in
      settled_as (given w.0) 0 words h₀ (sym (text-end w.0 (parts_from t i).before e) ∙ w.3) (refl, w.1, w.2)
