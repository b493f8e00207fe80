-- The other way round: words that are read as a record are the words of that record, which is in range. So each object has one word
-- form. Assumes nothing.
use mathlib.Core.Path.{◌≡◌, refl, sym, ◌∙◌, ap, subst}
use mathlib.Core.Bool.{Bool, true, false, ◌&&◌}
use mathlib.Core.List.{List, [], ◌∷◌, ◌++◌, map}
use mathlib.Core.Option.{Option, none, some}
use Prim.Native.Nat.{ℕ, zero, suc, ◌+◌, ◌-◌, ◌*◌, ◌/◌, ◌%◌, ◌^◌, ◌≤◌, ◌<◌}
use native.Mathlib.Omega.{arith}
use lib.ListN.{length}
use lib.Dec.{leb, ltb, eqb}
use borrow.Author.Tests.{eqb-true, ltb-true, leb-true, leb-false}
use Rattle.std.specs.Prelude.{if◌then◌else◌}
use Rattle.format.specs.Basics.{Outcome, refused, given, ◌>>=◌, ask, All}
use Rattle.format.specs.Digits.{value_of, digits_of}
use Rattle.format.specs.Utf8.{is_between}
use Rattle.format.specs.Records.{Record, block, label, line_block, source, relocation}
use Rattle.format.specs.Words.{word, flag_bit, memory_word, number_words, text_words, record_words, bits_of, memory_of, memories_of, addresses_of, number_from, text_part, text_from, record_from}
use Rattle.format.proofs.Laws.{digits_value}
use Rattle.format.proofs.ListLaws.{both, by_test, all_append}
use Rattle.format.proofs.Ranges.{In16, In64, Word16, Bytes, InWords}

-- what is given after another question was given
pub bind_given : {A B : Type 0} (o : Outcome A) (f : A → Outcome B) (b : B) → (o >>= f) ≡ given b → (a : A) × (o ≡ given a) × (f a ≡ given b)
bind_given (refused n) f b e = let z : ◌≡◌ {A = ℕ} 0 1 = cc in absurd (omega arith)
bind_given (given a) f b e = (a, refl, e)

pub ask-given : {B : Type 0} (n : ℕ) (t : Bool) (o : Outcome B) (b : B) → (ask n t >>= λ _. o) ≡ given b → (t ≡ true) × (o ≡ given b)
ask-given n true o b e = (refl, e)
ask-given n false o b e = let z : ◌≡◌ {A = ℕ} 0 1 = cc in absurd (omega arith)

bits_only : (kind limit w x : ℕ) → bits_of kind limit w ≡ given x → (w ≡ word kind x) × (x < limit)
unfolding bits_of
bits_only kind limit w x e = go (eqb (w / 2 ^ 29) kind && ltb (w % 2 ^ 29) limit) refl e
  where
    go : (t : Bool) → (eqb (w / 2 ^ 29) kind && ltb (w % 2 ^ 29) limit) ≡ t → (if t then given (w % 2 ^ 29) else refused 1) ≡ given x → (w ≡ word kind x) × (x < limit)
    go true t d =
        let p = both (eqb (w / 2 ^ 29) kind) (ltb (w % 2 ^ 29) limit) t in
        let k : w / 2 ^ 29 ≡ kind = eqb-true (w / 2 ^ 29) kind p.0 in
        let l : w % 2 ^ 29 < limit = ltb-true (w % 2 ^ 29) limit p.1 in
        let q : w % 2 ^ 29 ≡ x = cc in
        (omega arith, omega arith)
    go false t d = let z : ◌≡◌ {A = ℕ} 0 1 = cc in absurd (omega arith)

chosen :
    (x w : ℕ) (m : Option ℕ) → (w ≡ word 1 x) × (x < 2 ^ 17) → (if eqb x 0 then given none else if leb (2 ^ 16) x then given (some (x - 2 ^ 16)) else refused 1) ≡ given m
    → (memory_word m ≡ w) × Word16 m
unfolding memory_word
chosen x w m b e = go (eqb x 0) refl (leb (2 ^ 16) x) refl e
  where
    go : (s : Bool) → eqb x 0 ≡ s → (t : Bool) → leb (2 ^ 16) x ≡ t → (if s then given none else if t then given (some (x - 2 ^ 16)) else refused 1) ≡ given m → (memory_word m ≡ w) × Word16 m
    go true s t u d = let z : x ≡ 0 = eqb-true x 0 s in let q : none ≡ m = cc in rw (← q) (omega arith, tt)
    go false s true u d = let l : 2 ^ 16 ≤ x = leb-true (2 ^ 16) x u in let q : some (x - 2 ^ 16) ≡ m = cc in rw (← q) (omega arith, omega arith)
    go false s false u d = let z : ◌≡◌ {A = ℕ} 0 1 = cc in absurd (omega arith)

memory_only : (w : ℕ) (m : Option ℕ) → memory_of w ≡ given m → (memory_word m ≡ w) × Word16 m
unfolding memory_of
memory_only w m e =
    let p = bind_given (bits_of 1 (2 ^ 17) w) (λ x. if eqb x 0 then given none else if leb (2 ^ 16) x then given (some (x - 2 ^ 16)) else refused 1) m e in
    let b = bits_only 1 (2 ^ 17) w p.0 p.1 in
    chosen p.0 w m b p.2

memories_only : (ws : List ℕ) (ms : List (Option ℕ)) → memories_of ws ≡ given ms → (map memory_word ms ≡ ws) × All Word16 ms
unfolding memories_of
memories_only [] ms e = let q : [] ≡ ms = cc in rw (← q) (refl, tt)
memories_only (w ∷ ws) ms e =
    let p = bind_given (memory_of w) (λ m. memories_of ws >>= λ ns. given (m ∷ ns)) ms e in
    let r = bind_given (memories_of ws) (λ ns. given (p.0 ∷ ns)) ms p.2 in
    let a = memory_only w p.0 p.1 in
    let b = memories_only ws r.0 r.1 in
    let q : p.0 ∷ r.0 ≡ ms = cc in
    rw (← q) (rw (a.0, b.0), (a.1, b.1))

address-only : (x w : ℕ) → (w ≡ word 1 x) × (x < 2 ^ 17) → 2 ^ 16 ≤ x → (memory_word (some (x - 2 ^ 16)) ≡ w) × In16 (x - 2 ^ 16)
unfolding memory_word
address-only x w b l = (omega arith, omega arith)

addresses-only : (ws xs : List ℕ) → addresses_of ws ≡ given xs → (map (λ a. memory_word (some a)) xs ≡ ws) × All In16 xs
unfolding addresses_of
addresses-only [] xs e = let q : [] ≡ xs = cc in rw (← q) (refl, tt)
addresses-only (w ∷ ws) xs e =
    let p = bind_given (bits_of 1 (2 ^ 17) w) (λ x. ask 1 (leb (2 ^ 16) x) >>= λ _. addresses_of ws >>= λ ys. given ((x - 2 ^ 16) ∷ ys)) xs e in
    let t = ask-given 1 (leb (2 ^ 16) p.0) (addresses_of ws >>= λ ys. given ((p.0 - 2 ^ 16) ∷ ys)) xs p.2 in
    let r = bind_given (addresses_of ws) (λ ys. given ((p.0 - 2 ^ 16) ∷ ys)) xs t.1 in
    let a = address-only p.0 w (bits_only 1 (2 ^ 17) w p.0 p.1) (leb-true (2 ^ 16) p.0 t.0) in
    let b = addresses-only ws r.0 r.1 in
    let q : (p.0 - 2 ^ 16) ∷ r.0 ≡ xs = cc in
    rw (← q) (rw (a.0, b.0), (a.1, b.1))

pub given-same : {A : Type 0} {a b : A} → given a ≡ given b → a ≡ b
given-same e = cc

value-fits : (i j k : ℕ) → i < 2 ^ 24 → j < 2 ^ 24 → k < 2 ^ 16 → In64 (value_of 24 (i ∷ j ∷ k ∷ []))
unfolding value_of
value-fits i j k l m n = omega arith

digits_only :
    (x y z a b c : ℕ) (ws : List ℕ) → (a ≡ word 6 x) × (x < 2 ^ 24) → (b ≡ word 6 y) × (y < 2 ^ 24) → (c ≡ word 6 z) × (z < 2 ^ 16)
    → (number_words (value_of 24 (x ∷ y ∷ z ∷ [])) ++ ws ≡ a ∷ b ∷ c ∷ ws) × In64 (value_of 24 (x ∷ y ∷ z ∷ []))
unfolding number_words
digits_only x y z a b c ws p q r =
    let d : digits_of 24 3 (value_of 24 (x ∷ y ∷ z ∷ [])) ≡ x ∷ y ∷ z ∷ [] = digits_value 24 (x ∷ y ∷ z ∷ []) (p.1, (q.1, (omega arith, tt))) in
    (rw (d, p.0, q.0, r.0), value-fits x y z p.1 q.1 r.1)

number-only : (ws : List ℕ) (p : ℕ × List ℕ) → number_from ws ≡ given p → (number_words p.0 ++ p.1 ≡ ws) × In64 p.0
unfolding number_from
number-only [] p e = let z : ◌≡◌ {A = ℕ} 0 1 = cc in absurd (omega arith)
number-only (a ∷ []) p e = let z : ◌≡◌ {A = ℕ} 0 1 = cc in absurd (omega arith)
number-only (a ∷ b ∷ []) p e = let z : ◌≡◌ {A = ℕ} 0 1 = cc in absurd (omega arith)
number-only (a ∷ b ∷ c ∷ ws) p e =
    let x = bind_given (bits_of 6 (2 ^ 24) a) (λ i. bits_of 6 (2 ^ 24) b >>= λ j. bits_of 6 (2 ^ 16) c >>= λ k. given (value_of 24 (i ∷ j ∷ k ∷ []), ws)) p e in
    let y = bind_given (bits_of 6 (2 ^ 24) b) (λ j. bits_of 6 (2 ^ 16) c >>= λ k. given (value_of 24 (x.0 ∷ j ∷ k ∷ []), ws)) p x.2 in
    let z = bind_given (bits_of 6 (2 ^ 16) c) (λ k. given (value_of 24 (x.0 ∷ y.0 ∷ k ∷ []), ws)) p y.2 in
    let q : (value_of 24 (x.0 ∷ y.0 ∷ z.0 ∷ []), ws) ≡ p = given-same {a = (value_of 24 (x.0 ∷ y.0 ∷ z.0 ∷ []), ws)} z.2 in
    rw (← q) (digits_only x.0 y.0 z.0 a b c ws (bits_only 6 (2 ^ 24) a x.0 x.1) (bits_only 6 (2 ^ 24) b y.0 y.1) (bits_only 6 (2 ^ 16) c z.0 z.1))

-- the bytes of a text word: alone, and as a full word before others
abbrev PartOf : ℕ → List ℕ → Type 0
PartOf w bs = Bytes bs × (text_words bs ≡ w ∷ []) × (length bs ≡ 3 → (cs : List ℕ) → text_words (bs ++ cs) ≡ w ∷ text_words cs)

part_is : (x w n : ℕ) → w ≡ word 7 x → x < 2 ^ 26 → x / 2 ^ 24 ≡ n → is_between 1 3 n ≡ true → x % 2 ^ 24 < 2 ^ (8 * n) → PartOf w (digits_of 8 n x)
unfolding digits_of text_words value_of
part_is x w zero e l q t u = let z : ◌≡◌ {A = ℕ} 0 1 = cc in absurd (omega arith)
part_is x w (suc zero) e l q t u =
    let v : word 7 (x % 2 ^ 8 + 2 ^ 8 * (0 + 2 ^ 8 * (0 + 2 ^ 8 * (1 + 2 ^ 8 * 0)))) ≡ w = omega arith in
    ((omega arith, tt), ap (λ (y : ℕ). y ∷ []) v, λ k. let z : ◌≡◌ {A = ℕ} 1 3 = k in absurd (omega arith))
part_is x w (suc (suc zero)) e l q t u =
    let v : word 7 (x % 2 ^ 8 + 2 ^ 8 * (x / 2 ^ 8 % 2 ^ 8 + 2 ^ 8 * (0 + 2 ^ 8 * (2 + 2 ^ 8 * 0)))) ≡ w = omega arith in
    ((omega arith, (omega arith, tt)), ap (λ (y : ℕ). y ∷ []) v, λ k. let z : ◌≡◌ {A = ℕ} 2 3 = k in absurd (omega arith))
part_is x w (suc (suc (suc zero))) e l q t u =
    let v : word 7 (x % 2 ^ 8 + 2 ^ 8 * (x / 2 ^ 8 % 2 ^ 8 + 2 ^ 8 * (x / 2 ^ 8 / 2 ^ 8 % 2 ^ 8 + 2 ^ 8 * (3 + 2 ^ 8 * 0)))) ≡ w = omega arith in
    ((omega arith, (omega arith, (omega arith, tt))), ap (λ (y : ℕ). y ∷ []) v, λ k cs. ap (λ (y : ℕ). y ∷ text_words cs) v)
part_is x w (suc (suc (suc (suc n)))) e l q t u = let r = both (leb 1 (suc (suc (suc (suc n))))) (leb (suc (suc (suc (suc n)))) 3) t in let s = leb-true (suc (suc (suc (suc n)))) 3 r.1 in absurd (omega arith)

part-only : (w : ℕ) (bs : List ℕ) → text_part w ≡ given bs → PartOf w bs
unfolding text_part
part-only w bs e =
    let p = bind_given (bits_of 7 (2 ^ 26) w) (λ x. ask 1 (is_between 1 3 (x / 2 ^ 24) && ltb (x % 2 ^ 24) (2 ^ (8 * (x / 2 ^ 24)))) >>= λ _. given (digits_of 8 (x / 2 ^ 24) x)) bs e in
    let x : ℕ = p.0 in
    let a = ask-given 1 (is_between 1 3 (x / 2 ^ 24) && ltb (x % 2 ^ 24) (2 ^ (8 * (x / 2 ^ 24)))) (given (digits_of 8 (x / 2 ^ 24) x)) bs p.2 in
    let b = bits_only 7 (2 ^ 26) w x p.1 in
    let c = both (is_between 1 3 (x / 2 ^ 24)) (ltb (x % 2 ^ 24) (2 ^ (8 * (x / 2 ^ 24)))) a.0 in
    let q : digits_of 8 (x / 2 ^ 24) x ≡ bs = given-same a.1 in
    subst (λ (t : List ℕ). PartOf w t) q (part_is x w (x / 2 ^ 24) b.0 b.1 refl c.0 (ltb-true (x % 2 ^ 24) (2 ^ (8 * (x / 2 ^ 24))) c.1))

bytes-append : (xs ys : List ℕ) → Bytes xs → Bytes ys → Bytes (xs ++ ys)
bytes-append xs ys h k = all_append (λ d. d < 2 ^ 8) xs ys h k

nil-words : text_words [] ≡ []
unfolding text_words
nil-words = refl

text-only : (ws t : List ℕ) → text_from ws ≡ given t → (text_words t ≡ ws) × Bytes t
unfolding text_from
text-only [] t e = let q : [] ≡ t = given-same e in rw (← q) (nil-words, tt)
text-only (w ∷ []) t e = let p = part-only w t e in (p.1, p.0)
text-only (w ∷ v ∷ ws) t e =
    let p = bind_given (text_part w) (λ bs. ask 1 (eqb (length bs) 3) >>= λ _. text_from (v ∷ ws) >>= λ cs. given (bs ++ cs)) t e in
    let bs : List ℕ = p.0 in
    let a = ask-given 1 (eqb (length bs) 3) (text_from (v ∷ ws) >>= λ cs. given (bs ++ cs)) t p.2 in
    let r = bind_given (text_from (v ∷ ws)) (λ cs. given (bs ++ cs)) t a.1 in
    let o = part-only w bs p.1 in
    let i = text-only (v ∷ ws) r.0 r.1 in
    let q : bs ++ r.0 ≡ t = given-same r.2 in
    rw (← q) (o.2 (eqb-true (length bs) 3 a.0) r.0 ∙ ap (λ (y : List ℕ). w ∷ y) i.0, bytes-append bs r.0 o.0 i.1)

flag_only : (x : ℕ) → x < 2 ^ 17 → x % 2 ^ 16 + 2 ^ 16 * flag_bit (leb (2 ^ 16) x) ≡ x
flag_only x h = go (leb (2 ^ 16) x) refl
  where
    go : (t : Bool) → leb (2 ^ 16) x ≡ t → x % 2 ^ 16 + 2 ^ 16 * flag_bit t ≡ x
    go true e = let l = leb-true (2 ^ 16) x e in omega arith
    go false e = let l = leb-false (2 ^ 16) x e in omega arith

alone : (k w x : ℕ) → (w ≡ word k x) × (x < 1) → word k 0 ≡ w
alone k w x b = omega arith

module _ (w : ℕ) (ws : List ℕ) (r : Record) where
  abbrev Only : Type 0
  Only = (record_words r ≡ w ∷ ws) × InWords r

  block-only : (bits_of 0 (2 ^ 16) w >>= λ a. memories_of ws >>= λ ms. given (block (record { address = a; words = ms }))) ≡ given r → Only
  unfolding record_words
  block-only e =
      let p = bind_given (bits_of 0 (2 ^ 16) w) (λ a. memories_of ws >>= λ ms. given (block (record { address = a; words = ms }))) r e in
      let m = bind_given (memories_of ws) (λ ms. given (block (record { address = p.0; words = ms }))) r p.2 in
      let b = bits_only 0 (2 ^ 16) w p.0 p.1 in
      let c = memories_only ws m.0 m.1 in
      let q : block (record { address = p.0; words = m.0 }) ≡ r = given-same m.2 in
      rw (← q) (rw c.0 (ap (λ (v : ℕ). v ∷ ws) (sym b.0)), (b.1, c.1))

  label-only :
      (bits_of 2 (2 ^ 17) w >>= λ x. number_from ws >>= λ n. text_from n.1 >>= λ t. given (label (record { name = t; address = x % 2 ^ 16; external = leb (2 ^ 16) x; start = n.0 }))) ≡ given r
      → Only
  unfolding record_words
  label-only e =
      let p =
      bind_given (bits_of 2 (2 ^ 17) w) (λ x. number_from ws >>= λ n. text_from n.1 >>= λ t. given (label (record { name = t; address = x % 2 ^ 16; external = leb (2 ^ 16) x; start = n.0 }))) r e in
      let x : ℕ = p.0 in
      let n = bind_given (number_from ws) (λ n. text_from n.1 >>= λ t. given (label (record { name = t; address = x % 2 ^ 16; external = leb (2 ^ 16) x; start = n.0 }))) r p.2 in
      let t = bind_given (text_from n.0.1) (λ t. given (label (record { name = t; address = x % 2 ^ 16; external = leb (2 ^ 16) x; start = n.0.0 }))) r n.2 in
      let b = bits_only 2 (2 ^ 17) w x p.1 in
      let c = number-only ws n.0 n.1 in
      let d = text-only n.0.1 t.0 t.1 in
      let q : label (record { name = t.0; address = x % 2 ^ 16; external = leb (2 ^ 16) x; start = n.0.0 }) ≡ r =
      given-same {a = label (record { name = t.0; address = x % 2 ^ 16; external = leb (2 ^ 16) x; start = n.0.0 })} t.2 in
      let f : x % 2 ^ 16 + 2 ^ 16 * flag_bit (leb (2 ^ 16) x) ≡ x = flag_only x b.1 in
      rw (← q) (rw (d.0, c.0, f) (ap (λ (v : ℕ). v ∷ ws) (sym b.0)), (omega arith, c.1, d.1))

  line-only :
      (bits_of 3 1 w >>= λ _. number_from ws >>= λ n. addresses_of n.1 >>= λ xs. given (line_block (record { first = n.0; addresses = xs }))) ≡ given r → Only
  unfolding record_words
  line-only e =
      let p = bind_given (bits_of 3 1 w) (λ _. number_from ws >>= λ n. addresses_of n.1 >>= λ xs. given (line_block (record { first = n.0; addresses = xs }))) r e in
      let n = bind_given (number_from ws) (λ n. addresses_of n.1 >>= λ xs. given (line_block (record { first = n.0; addresses = xs }))) r p.2 in
      let x = bind_given (addresses_of n.0.1) (λ xs. given (line_block (record { first = n.0.0; addresses = xs }))) r n.2 in
      let b = bits_only 3 1 w p.0 p.1 in
      let c = number-only ws n.0 n.1 in
      let d = addresses-only n.0.1 x.0 x.1 in
      let q : line_block (record { first = n.0.0; addresses = x.0 }) ≡ r = given-same x.2 in
      let v : word 3 0 ≡ w = alone 3 w p.0 b in
      rw (← q) (rw (d.0, c.0) (ap (λ (y : ℕ). y ∷ ws) v), (c.1, d.1))

  source-only : (bits_of 4 1 w >>= λ _. text_from ws >>= λ t. given (source t)) ≡ given r → Only
  unfolding record_words
  source-only e =
      let p = bind_given (bits_of 4 1 w) (λ _. text_from ws >>= λ t. given (source t)) r e in
      let t = bind_given (text_from ws) (λ t. given (source t)) r p.2 in
      let b = bits_only 4 1 w p.0 p.1 in
      let d = text-only ws t.0 t.1 in
      let q : source t.0 ≡ r = given-same t.2 in
      let v : word 4 0 ≡ w = alone 4 w p.0 b in
      rw (← q) (rw d.0 (ap (λ (y : ℕ). y ∷ ws) v), d.1)

  relocation-only : (bits_of 5 (2 ^ 16) w >>= λ a. text_from ws >>= λ t. given (relocation (record { address = a; name = t }))) ≡ given r → Only
  unfolding record_words
  relocation-only e =
      let p = bind_given (bits_of 5 (2 ^ 16) w) (λ a. text_from ws >>= λ t. given (relocation (record { address = a; name = t }))) r e in
      let t = bind_given (text_from ws) (λ t. given (relocation (record { address = p.0; name = t }))) r p.2 in
      let b = bits_only 5 (2 ^ 16) w p.0 p.1 in
      let d = text-only ws t.0 t.1 in
      let q : relocation (record { address = p.0; name = t.0 }) ≡ r = given-same t.2 in
      rw (← q) (rw d.0 (ap (λ (v : ℕ). v ∷ ws) (sym b.0)), (b.1, d.1))

  pub record_only : record_from (w, ws) ≡ given r → Only
  unfolding record_from
  record_only e =
      by_test (eqb (w / 2 ^ 29) 0) (λ k. block-only (rw k at e)) λ k0.
      by_test (eqb (w / 2 ^ 29) 2) (λ k. label-only (rw (k0, k) at e)) λ k2.
      by_test (eqb (w / 2 ^ 29) 3) (λ k. line-only (rw (k0, k2, k) at e)) λ k3.
      by_test (eqb (w / 2 ^ 29) 4) (λ k. source-only (rw (k0, k2, k3, k) at e)) λ k4.
      relocation-only (rw (k0, k2, k3, k4) at e)
