-- A record that stands at a place, by its kind: what it is, where its lists end, and how many bytes it has. Assumes nothing.
use mathlib.Core.Path.{◌≡◌, refl, sym, ap, ◌∙◌}
use mathlib.Core.Bool.{true}
use mathlib.Core.List.{List, [], ◌∷◌, map}
use mathlib.Core.Option.{Option, none, some}
use Prim.Native.Nat.{ℕ, ◌+◌, ◌-◌, ◌*◌, ◌/◌, ◌%◌, ◌^◌}
use native.Mathlib.Omega.{arith}
use lib.ListN.{length, get_or, length-map}
use lib.Dec.{leb, eqb}
use borrow.Author.Tests.{eq-eqb, ne_eqb, eqb-true, eqb-false}
use Rattle.format.specs.Basics.{given, ◌>>=◌}
use Rattle.format.specs.Digits.{digits_of}
use Rattle.format.specs.Records.{Record, block, label, line_block, source, relocation}
use Rattle.format.specs.Words.{bits_of, number_from, text_from, addresses_of, record_from}
use Rattle.format.specs.Binary.{memory_bytes, record_bytes}
use Rattle.format.proofs.ListLaws.{by_test}
use Rattle.format.proofs.WordsOnly.{bind_given, given-same}
use Rattle.format.proofs.Laws.{digits_length}
use Rattle.object.specs.Bodies.{body_at, text_at}
use Rattle.object.specs.Texts.{text_len}
use Rattle.object.specs.Access.{memory_in, address_in, kind_at, block_at, label_at, line_block_at, relocation_at, record_at}
use Rattle.object.proofs.WordLaws.{head-kind}
use Rattle.object.proofs.ByteLaws.{text-len}
use Rattle.object.proofs.AccessLaws.{number_is, label_is, line_is, source_is, relocation_is}
use Rattle.writing.proofs.EachLaws.{length-flat_map}
use Rattle.binary_measure.specs.Measured.{Ends, TextEnds, Stands, count_fits}

-- a number has three words
number_size : (xs : List ℕ) (p : ℕ × List ℕ) → number_from xs ≡ given p → length xs ≡ 3 + length p.1
unfolding number_from
number_size [] p e = let z : ◌≡◌ {A = ℕ} 0 1 = cc in absurd (omega arith)
number_size (a ∷ []) p e = let z : ◌≡◌ {A = ℕ} 0 1 = cc in absurd (omega arith)
number_size (a ∷ b ∷ []) p e = let z : ◌≡◌ {A = ℕ} 0 1 = cc in absurd (omega arith)
number_size (a ∷ b ∷ c ∷ ws) p e =
    let f = bind_given (bits_of 6 (2 ^ 24) a) _ p e in
    let g = bind_given (bits_of 6 (2 ^ 24) b) _ p f.2 in
    let h = bind_given (bits_of 6 (2 ^ 16) c) _ p g.2 in
    let l : length ws ≡ length p.1 = ap (λ (q : ℕ × List ℕ). length q.1) (given-same h.2) in omega (arith, l)

-- what stands at a place, by its kind
module _ (ws : List ℕ) (at end : ℕ) (s : Stands ws at end) where
  abbrev k : ℕ
  k = kind_at ws at

  abbrev w : ℕ
  w = get_or ws at 0

  abbrev body : List ℕ
  body = body_at ws (at + 1)

  abbrev it : Record
  it = record_at ws at

  -- the words after a number end where the record ends
  after-number : (p : ℕ × List ℕ) → number_from body ≡ given p → Ends ws (at + 1 + 3) end
  after-number p e =
      let n = number_size body p e ∙ ap (λ (q : ℕ × List ℕ). 3 + length q.1) (number_is ws (at + 1) p e) in
      (omega (arith, n, s.ends.0), s.ends.1)

  pub block_here : k ≡ 0 → record_at ws at ≡ block (block_at ws at)
  unfolding record_at
  block_here e = rw (eq-eqb k 0 e)

  pub label-here : k ≡ 2 → (record_at ws at ≡ label (label_at ws at)) × TextEnds ws (at + 1 + 3) end
  unfolding record_from
  label-here e =
      let make : ℕ → ℕ → List ℕ → Record = λ x n t. label (record
      { name = t; address = x % 2 ^ 16; external = leb (2 ^ 16) x; start = n }) in
      let q : (bits_of 2 (2 ^ 17) w >>= λ x. number_from body >>= λ n. text_from n.1 >>= λ t. given (make x n.0 t)) ≡ given it
      = simp (ne_eqb (w / 2 ^ 29) 0 (λ z. omega arith), eq-eqb (w / 2 ^ 29) 2 e) at s.reads in
      let f = bind_given (bits_of 2 (2 ^ 17) w) (λ x. number_from body >>= λ n. text_from n.1 >>= λ t. given (make x n.0 t)) it q in
      let g = bind_given (number_from body) (λ n. text_from n.1 >>= λ t. given (make f.0 n.0 t)) it f.2 in
      let l = label_is ws at it s.reads e in
      (l.0, (l.1, after-number g.0 g.1))

  pub line-here : k ≡ 3 → (record_at ws at ≡ line_block (line_block_at ws at)) × Ends ws (at + 1 + 3) end
  unfolding record_from
  line-here e =
      let make : ℕ → List ℕ → Record = λ n xs. line_block (record { first = n; addresses = xs }) in
      let q : (bits_of 3 1 w >>= λ _. number_from body >>= λ n. addresses_of n.1 >>= λ xs. given (make n.0 xs)) ≡ given it
      = simp (ne_eqb (w / 2 ^ 29) 0 (λ z. omega arith), ne_eqb (w / 2 ^ 29) 2 (λ z. omega arith), eq-eqb (w / 2 ^ 29) 3 e) at s.reads in
      let f = bind_given (bits_of 3 1 w) _ it q in
      let g = bind_given (number_from body) _ it f.2 in
      (line_is ws at it s.reads e, after-number g.0 g.1)

  pub source-here : k ≡ 4 → (record_at ws at ≡ source (text_at ws (at + 1))) × TextEnds ws (at + 1) end
  source-here e = let l = source_is ws at it s.reads e in (l.0, (l.1, s.ends))

  pub relocation-here : k ≡ 5 → (record_at ws at ≡ relocation (relocation_at ws at)) × TextEnds ws (at + 1) end
  relocation-here e = let l = relocation_is ws at it s.reads e in (l.0, (l.1, s.ends))

  -- no other kind begins a record
  pub kind_5 : (k ≡ 0 → ⊥) → (k ≡ 2 → ⊥) → (k ≡ 3 → ⊥) → (k ≡ 4 → ⊥) → k ≡ 5
  kind_5 n0 n2 n3 n4 = head-kind w s.begins n0 n2 n3 n4

  pub kind_3 : (k ≡ 0 → ⊥) → (k ≡ 4 → ⊥) → (k ≡ 5 → ⊥) → (k ≡ 2 → ⊥) → k ≡ 3
  kind_3 n0 n4 n5 n2 =
      by_test (eqb k 3) (λ t. eqb-true k 3 t) (λ t. absurd (n5 (kind_5 n0 n2 (eqb-false k 3 t) n4)))

-- how many bytes
three : (m : Option ℕ) → length (memory_bytes m) ≡ 3
unfolding digits_of
three none = refl
three (some v) = refl

module _ (ws : List ℕ) (at end : ℕ) where
  pub block_size : Ends ws (at + 1) end → 5 + 3 * (end - (at + 1)) ≡ length (record_bytes (block (block_at ws at)))
  unfolding record_bytes digits_of
  block_size e =
      let body = body_at ws (at + 1) in
      omega (arith, length-flat_map memory_bytes 3 three (map memory_in body), length-map body memory_in, e.0)

  pub line-size : Ends ws (at + 1 + 3) end → 11 + 2 * (end - (at + 1 + 3)) ≡ length (record_bytes (line_block (line_block_at ws at)))
  unfolding record_bytes digits_of
  line-size e =
      let body = body_at ws (at + 1 + 3) in
      omega (arith, length-flat_map (λ a. digits_of 8 2 a) 2 (λ a. digits_length 8 2 a) (map address_in body), length-map body address_in, e.0)

  pub text-size : (i : ℕ) → TextEnds ws i end → text_len ws i end ≡ length (text_at ws i)
  text-size i e = ap (text_len ws i) e.1.0 ∙ text-len ws i e.0

  pub label-size : (n : ℕ) → TextEnds ws (at + 1 + 3) end → n ≡ text_len ws (at + 1 + 3) end
      → 20 + n ≡ length (record_bytes (label (label_at ws at)))
  unfolding record_bytes digits_of
  label-size n e q = omega (arith, q, text-size (at + 1 + 3) e)

  pub source-size : (n : ℕ) → TextEnds ws (at + 1) end → n ≡ text_len ws (at + 1) end
      → 9 + n ≡ length (record_bytes (source (text_at ws (at + 1))))
  unfolding record_bytes digits_of
  source-size n e q = omega (arith, q, text-size (at + 1) e)

  pub relocation-size : (n : ℕ) → TextEnds ws (at + 1) end → n ≡ text_len ws (at + 1) end
      → 11 + n ≡ length (record_bytes (relocation (relocation_at ws at)))
  unfolding record_bytes digits_of
  relocation-size n e q = omega (arith, q, text-size (at + 1) e)

-- the count of a line block
pub count-here : (ws : List ℕ) (at end : ℕ) (s : Stands ws at end) → kind_at ws at ≡ 3
    → leb (end - (at + 1 + 3)) 65535 ≡ count_fits (record_at ws at)
unfolding count_fits
count-here ws at end s e =
    let l = line-here ws at end s e in
    let n : end - (at + 1 + 3) ≡ length (map address_in (body_at ws (at + 1 + 3))) =
    omega (arith, l.1.0, length-map (body_at ws (at + 1 + 3)) address_in) in
    ap (λ m. leb m 65535) n ∙ ap count_fits (sym l.0)

pub count-other : (ws : List ℕ) (at : ℕ) → (kind_at ws at ≡ 3 → ⊥) → true ≡ count_fits (record_at ws at)
unfolding count_fits record_at
count-other ws at n =
    let k = kind_at ws at in
    by_test (eqb k 0) (λ t. simp t)
    (λ t. by_test (eqb k 2) (λ t2. simp (t, t2)) (λ t2. by_test (eqb k 4) (λ t4. simp (t, t2, ne_eqb k 3 n, t4))
    (λ t4. simp (t, t2, ne_eqb k 3 n, t4))))
