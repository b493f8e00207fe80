-- The records of a well formed object, one by one: what writers and queries walk by. `held` starts at place 0, `next` goes from a head to
-- the next, `done` is the end, and `record_is` says what a record is by its words. Assumes nothing.
use mathlib.Core.Path.{◌≡◌, sym, ◌∙◌, ap}
use mathlib.Core.List.{List, [], ◌∷◌, map}
use mathlib.Core.Option.{Option, none, some}
use Prim.Native.Nat.{ℕ, ◌+◌, ◌-◌, ◌/◌, ◌%◌, ◌^◌, ◌≤◌, ◌<◌}
use native.Mathlib.Omega.{arith}
use lib.ListN.{length, get_or}
use lib.Dec.{leb, ltb, eqb}
use borrow.Author.Tests.{ltb-true, leb-true, leb-false, eqb-true, eqb-false, eq-eqb, ne_eqb}
use Rattle.std.specs.Prelude.{if◌then◌else◌}
use Rattle.format.specs.Basics.{Outcome, refused, given, ◌>>=◌, ask, is_given, given_or}
use Rattle.format.specs.Records.{Record, block, label, line_block, source, relocation}
use Rattle.format.specs.Words.{bits_of, memory_of, memories_of, addresses_of, number_from, text_from, record_from, records_from}
use Rattle.format.proofs.ListLaws.{by_test}
use Rattle.format.proofs.WordsOnly.{bind_given, ask-given, given-same}
use Rattle.object.specs.Bodies.{body_at, groups_at, text_at, Text, number_at, value_in}
use Rattle.object.specs.Access.{memory_in, address_in, kind_at, block_at, label_at, line_block_at, relocation_at, record_at}
use Rattle.object.proofs.WordLaws.{head-kind}
use Rattle.object.proofs.BodyLaws.{after_body, after-groups, groups_out, groups-here, head_at}
use Rattle.object.proofs.NumberLaws.{number-few, number_1, number_2, number_3, number-there}
use Rattle.object.proofs.Formed.{reads}

never : {A P : Type 0} {o : Outcome A} {a : A} → o ≡ given a → o ≡ refused 1 → P
never e f = let z : ◌≡◌ {A = ℕ} 0 1 = cc in absurd (omega arith)

-- the record at a head, and the records from the next head on
pub record Next (ws : List ℕ) (at : ℕ) (rs : List Record) : Type 0 where
  pub first : Record
  pub rest : List Record
  pub head : record_from (get_or ws at 0, body_at ws (at + 1)) ≡ given first
  pub tail : records_from (groups_at ws (at + 1 + length (body_at ws (at + 1)))) ≡ given rest
  pub all : rs ≡ first ∷ rest
  pub stops : body_at ws (at + 1 + length (body_at ws (at + 1))) ≡ []

module _ (ws : List ℕ) (at : ℕ) (rs : List Record) (e : records_from (groups_at ws at) ≡ given rs) where
  pub next : at < length ws → body_at ws at ≡ [] → Next ws at rs
  next l b =
      let here = groups-here ws at l (head_at ws at l b) in
      let r = reads (get_or ws at 0, body_at ws (at + 1)) (groups_at ws (at + 1)) rs (ap records_from (sym here) ∙ e) in
      record {
        first = r.first;
        rest = r.rest;
        head = r.head;
        tail = ap records_from (after-groups ws (at + 1)) ∙ r.tail;
        all = r.all;
        stops = after_body ws (at + 1);
      }

  pub done : length ws ≤ at → rs ≡ []
  unfolding records_from
  done l = let q : given [] ≡ given rs = sym (ap records_from (groups_out ws at l)) ∙ e in sym (given-same q)

-- the bits of a word
bits_is : (kind limit w x : ℕ) → bits_of kind limit w ≡ given x → (x ≡ w % 2 ^ 29) × (w / 2 ^ 29 ≡ kind) × (w % 2 ^ 29 < limit)
unfolding bits_of
bits_is kind limit w x e =
    by_test (eqb (w / 2 ^ 29) kind)
    (λ a. by_test (ltb (w % 2 ^ 29) limit)
    (λ b. (sym (given-same (simp (a, b) at e)), eqb-true (w / 2 ^ 29) kind a, ltb-true (w % 2 ^ 29) limit b))
    (λ b. never e (simp (a, b))))
    (λ a. never e (simp a))

memory_is : (w : ℕ) (m : Option ℕ) → memory_of w ≡ given m → m ≡ memory_in w
unfolding memory_of memory_in
memory_is w m e =
    let f : ℕ → Outcome (Option ℕ) = λ x. if eqb x 0 then given none else if leb (2 ^ 16) x then given (some (x - 2 ^ 16)) else refused 1 in
    let g = bind_given (bits_of 1 (2 ^ 17) w) f m e in
    let b = bits_is 1 (2 ^ 17) w g.0 g.1 in
    let q : f (w % 2 ^ 29) ≡ given m = ap f (sym b.0) ∙ g.2 in
    by_test (eqb (w % 2 ^ 29) 0)
    (λ a. sym (given-same (simp a at q)) ∙ sym (rw a))
    (λ a. by_test (leb (2 ^ 16) (w % 2 ^ 29))
    (λ l. let h = leb-true (2 ^ 16) (w % 2 ^ 29) l in
    let k = b.2 in
    let v : w % 2 ^ 29 - 2 ^ 16 ≡ w % 2 ^ 16 = omega arith in sym (given-same (simp (a, l) at q)) ∙ ap some v ∙ sym (rw a))
    (λ l. never q (simp (a, l))))

memories_are : (ws : List ℕ) (ms : List (Option ℕ)) → memories_of ws ≡ given ms → ms ≡ map memory_in ws
unfolding memories_of
memories_are [] ms e = sym (given-same e)
memories_are (w ∷ ws) ms e =
    let f = bind_given (memory_of w) (λ m. memories_of ws >>= λ ns. given (m ∷ ns)) ms e in
    let g = bind_given (memories_of ws) (λ ns. given (f.0 ∷ ns)) ms f.2 in
    sym (given-same g.2) ∙ ap (λ m. m ∷ g.0) (memory_is w f.0 f.1) ∙ ap (λ ns. memory_in w ∷ ns) (memories_are ws g.0 g.1)

addresses_are : (ws : List ℕ) (xs : List ℕ) → addresses_of ws ≡ given xs → xs ≡ map address_in ws
unfolding addresses_of
addresses_are [] xs e = sym (given-same e)
addresses_are (w ∷ ws) xs e =
    let f = bind_given (bits_of 1 (2 ^ 17) w) (λ x. ask 1 (leb (2 ^ 16) x) >>= λ _. addresses_of ws >>= λ ys. given ((x - 2 ^ 16) ∷ ys)) xs
    e in
    let x = f.0 in
    let a = ask-given 1 (leb (2 ^ 16) x) (addresses_of ws >>= λ ys. given ((x - 2 ^ 16) ∷ ys)) xs f.2 in
    let g = bind_given (addresses_of ws) (λ ys. given ((x - 2 ^ 16) ∷ ys)) xs a.1 in
    let b = bits_is 1 (2 ^ 17) w x f.1 in
    let l = leb-true (2 ^ 16) x a.0 in
    let v : x - 2 ^ 16 ≡ w % 2 ^ 16 = omega (arith, b.0, b.2) in
    sym (given-same g.2) ∙ ap (λ y. y ∷ g.0) v ∙ ap (λ ys. w % 2 ^ 16 ∷ ys) (addresses_are ws g.0 g.1)

-- a number is the three words at its place, and what follows stands after them
pub number_is : (ws : List ℕ) (i : ℕ) (p : ℕ × List ℕ) → number_from (body_at ws i) ≡ given p → p ≡ (number_at ws i, body_at ws (i + 3))
unfolding number_at
number_is ws i p e =
    let a = get_or ws i 0 in
    let b = get_or ws (i + 1) 0 in
    let c = get_or ws (i + 2) 0 in
    by_test (leb (i + 3) (length ws))
    (λ t. let h = leb-true (i + 3) (length ws) t in
    by_test (eqb (a / 2 ^ 24) 0xC0)
    (λ x. let ex = eqb-true (a / 2 ^ 24) 0xC0 x in
    by_test (eqb (b / 2 ^ 24) 0xC0)
    (λ y. let ey = eqb-true (b / 2 ^ 24) 0xC0 y in
    by_test (eqb (c / 2 ^ 16) 0xC000)
    (λ z. let n = number-there ws i h ex ey (eqb-true (c / 2 ^ 16) 0xC000 z) in
    given-same (sym e ∙ n) ∙ ap (λ v. (v, body_at ws (i + 3))) (sym (ap value_in n)))
    (λ z. never e (number_3 ws i h ex ey (eqb-false (c / 2 ^ 16) 0xC000 z))))
    (λ y. never e (number_2 ws i h ex (eqb-false (b / 2 ^ 24) 0xC0 y))))
    (λ x. never e (number_1 ws i h (eqb-false (a / 2 ^ 24) 0xC0 x))))
    (λ t. let h = leb-false (i + 3) (length ws) t in never e (number-few ws i h))

-- a text that is read
text_is : (ws : List ℕ) (i : ℕ) (t : List ℕ) → text_from (body_at ws i) ≡ given t → (t ≡ text_at ws i) × Text (body_at ws i)
text_is ws i t e = (sym (ap (λ o. given_or o []) e), ap is_given e)

-- the record at a head, by its kind
module _ (ws : List ℕ) (at : ℕ) (r : Record) (e : record_from (get_or ws at 0, body_at ws (at + 1)) ≡ given r) where
  abbrev w : ℕ
  w = get_or ws at 0

  abbrev body : List ℕ
  body = body_at ws (at + 1)

  pub block_is : kind_at ws at ≡ 0 → r ≡ block (block_at ws at)
  unfolding record_from
  block_is k =
      let q : (bits_of 0 (2 ^ 16) w >>= λ a. memories_of body >>= λ ms. given (block (record { address = a; words = ms }))) ≡ given r
      = simp (eq-eqb (w / 2 ^ 29) 0 k) at e in
      let f = bind_given (bits_of 0 (2 ^ 16) w) (λ a. memories_of body >>= λ ms. given (block (record { address = a; words = ms }))) r q in
      let g = bind_given (memories_of body) (λ ms. given (block (record { address = f.0; words = ms }))) r f.2 in
      let b = bits_is 0 (2 ^ 16) w f.0 f.1 in
      let v : f.0 ≡ w % 2 ^ 16 = omega (arith, b.0, b.2) in
      sym (given-same g.2) ∙ ap (λ a. block (record { address = a; words = g.0 })) v
      ∙ ap (λ ms. block (record { address = w % 2 ^ 16; words = ms })) (memories_are body g.0 g.1)

  pub label_is : kind_at ws at ≡ 2 → (r ≡ label (label_at ws at)) × Text (body_at ws (at + 1 + 3))
  unfolding record_from
  label_is k =
      let make : ℕ → ℕ → List ℕ → Record = λ x n t. label (record
      { name = t; address = x % 2 ^ 16; external = leb (2 ^ 16) x; start = n }) in
      let q : (bits_of 2 (2 ^ 17) w >>= λ x. number_from body >>= λ n. text_from n.1 >>= λ t. given (make x n.0 t)) ≡ given r
      = simp (ne_eqb (w / 2 ^ 29) 0 (λ z. omega arith), eq-eqb (w / 2 ^ 29) 2 k) at e in
      let f = bind_given (bits_of 2 (2 ^ 17) w) (λ x. number_from body >>= λ n. text_from n.1 >>= λ t. given (make x n.0 t)) r q in
      let x = f.0 in
      let g = bind_given (number_from body) (λ n. text_from n.1 >>= λ t. given (make x n.0 t)) r f.2 in
      let n = number_is ws (at + 1) g.0 g.1 in
      let q2 : (text_from (body_at ws (at + 1 + 3)) >>= λ t. given (make x (number_at ws (at + 1)) t)) ≡ given r
      = ap (λ (p : ℕ × List ℕ). text_from p.1 >>= λ t. given (make x p.0 t)) (sym n) ∙ g.2 in
      let d = bind_given (text_from (body_at ws (at + 1 + 3))) (λ t. given (make x (number_at ws (at + 1)) t)) r q2 in
      let t = text_is ws (at + 1 + 3) d.0 d.1 in
      let b = bits_is 2 (2 ^ 17) w x f.1 in
      let v : w % 2 ^ 29 % 2 ^ 16 ≡ w % 2 ^ 16 = omega arith in (
        sym (given-same d.2) ∙ ap (make x (number_at ws (at + 1))) t.0
            ∙ ap (λ y. make y (number_at ws (at + 1)) (text_at ws (at + 1 + 3))) b.0
            ∙ ap (λ a. label (record {
              name = text_at ws (at + 1 + 3);
              address = a;
              external = leb (2 ^ 16) (w % 2 ^ 29);
              start = number_at
                  ws (at + 1);
            })) v,
        t.1,
      )

  pub line_is : kind_at ws at ≡ 3 → r ≡ line_block (line_block_at ws at)
  unfolding record_from
  line_is k =
      let make : ℕ → List ℕ → Record = λ n xs. line_block (record { first = n; addresses = xs }) in
      let q : (bits_of 3 1 w >>= λ _. number_from body >>= λ n. addresses_of n.1 >>= λ xs. given (make n.0 xs)) ≡ given r
      = simp (ne_eqb (w / 2 ^ 29) 0 (λ z. omega arith), ne_eqb (w / 2 ^ 29) 2 (λ z. omega arith), eq-eqb (w / 2 ^ 29) 3 k) at e in
      let f = bind_given (bits_of 3 1 w) (λ _. number_from body >>= λ n. addresses_of n.1 >>= λ xs. given (make n.0 xs)) r q in
      let g = bind_given (number_from body) (λ n. addresses_of n.1 >>= λ xs. given (make n.0 xs)) r f.2 in
      let n = number_is ws (at + 1) g.0 g.1 in
      let q2 : (addresses_of (body_at ws (at + 1 + 3)) >>= λ xs. given (make (number_at ws (at + 1)) xs)) ≡ given r
      = ap (λ (p : ℕ × List ℕ). addresses_of p.1 >>= λ xs. given (make p.0 xs)) (sym n) ∙ g.2 in
      let d = bind_given (addresses_of (body_at ws (at + 1 + 3))) (λ xs. given (make (number_at ws (at + 1)) xs)) r q2 in
      sym (given-same d.2) ∙ ap (make (number_at ws (at + 1))) (addresses_are (body_at ws (at + 1 + 3)) d.0 d.1)

  pub source_is : kind_at ws at ≡ 4 → (r ≡ source (text_at ws (at + 1))) × Text (body_at ws (at + 1))
  unfolding record_from
  source_is k =
      let q : (bits_of 4 1 w >>= λ _. text_from body >>= λ t. given (source t)) ≡ given r
      = simp (
        ne_eqb (w / 2 ^ 29) 0 (λ z. omega arith),
        ne_eqb (w / 2 ^ 29) 2 (λ z. omega arith),
        ne_eqb (w / 2 ^ 29) 3 (λ z. omega arith),
        eq-eqb (w / 2 ^ 29) 4 k,
      ) at e in
      let f = bind_given (bits_of 4 1 w) (λ _. text_from body >>= λ t. given (source t)) r q in
      let g = bind_given (text_from body) (λ t. given (source t)) r f.2 in
      let t = text_is ws (at + 1) g.0 g.1 in
      (sym (given-same g.2) ∙ ap source t.0, t.1)

  pub relocation_is : kind_at ws at ≡ 5 → (r ≡ relocation (relocation_at ws at)) × Text (body_at ws (at + 1))
  unfolding record_from
  relocation_is k =
      let make : ℕ → List ℕ → Record = λ a t. relocation (record { address = a; name = t }) in
      let q : (bits_of 5 (2 ^ 16) w >>= λ a. text_from body >>= λ t. given (make a t)) ≡ given r
      = simp (
        ne_eqb (w / 2 ^ 29) 0 (λ z. omega arith),
        ne_eqb (w / 2 ^ 29) 2 (λ z. omega arith),
        ne_eqb (w / 2 ^ 29) 3 (λ z. omega arith),
        ne_eqb (w / 2 ^ 29) 4 (λ z. omega arith),
      ) at e in
      let f = bind_given (bits_of 5 (2 ^ 16) w) (λ a. text_from body >>= λ t. given (make a t)) r q in
      let g = bind_given (text_from body) (λ t. given (make f.0 t)) r f.2 in
      let t = text_is ws (at + 1) g.0 g.1 in
      let b = bits_is 5 (2 ^ 16) w f.0 f.1 in
      let v : f.0 ≡ w % 2 ^ 16 = omega (arith, b.0, b.2) in
      (sym (given-same g.2) ∙ ap (make f.0) t.0 ∙ ap (λ a. make a (text_at ws (at + 1))) v, t.1)

  -- whatever the kind
  pub record_is : at < length ws → body_at ws at ≡ [] → r ≡ record_at ws at
  unfolding record_at
  record_is l h =
      let k = kind_at ws at in
      by_test (eqb k 0)
      (λ t0. block_is (eqb-true k 0 t0) ∙ sym (rw t0))
      (λ t0. by_test (eqb k 2)
      (λ t2. (label_is (eqb-true k 2 t2)).0 ∙ sym (simp (t0, t2)))
      (λ t2. by_test (eqb k 3)
      (λ t3. line_is (eqb-true k 3 t3) ∙ sym (simp (t0, t2, t3)))
      (λ t3. by_test (eqb k 4)
      (λ t4. (source_is (eqb-true k 4 t4)).0 ∙ sym (simp (t0, t2, t3, t4)))
      (λ t4. (relocation_is (head-kind w (head_at ws at l h) (eqb-false k 0 t0) (eqb-false k 2 t2) (eqb-false k 3 t3) (eqb-false k 4 t4))
      ).0 ∙ sym (simp (t0, t2, t3, t4))))))
