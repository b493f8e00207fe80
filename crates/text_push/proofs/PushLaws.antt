-- A text written byte by byte. Assumes nothing.
use mathlib.Core.Path.{◌≡◌, refl, sym, ap, ap₂, ◌∙◌, subst}
use mathlib.Core.List.{List, [], ◌∷◌, ◌++◌}
use Prim.Native.Nat.{ℕ, zero, suc, ◌+◌, ◌-◌, ◌*◌, ◌≤◌, ◌<◌}
use native.Mathlib.Omega.{arith}
use lib.ListN.{length, take, drop, get_or, set, drop_of_length-le}
use lib.Seq.{take_at}
use borrow.Author.Tests.{lt-ltb, le-ltb, eq-eqb, ne_eqb}
use Rattle.format.specs.Digits.{value_of}
use Rattle.format.specs.Utf8.{is_scalar}
use Rattle.format.specs.Words.{word, text_words}
use Rattle.format.proofs.ListLaws.{by_test}
use Rattle.writing.specs.Written.{Put}
use Rattle.writing.proofs.EachLaws.{drop_at_place}
use Rattle.writing.proofs.WriteLaws.{filled-fits, written-fits, length-into}
use Rattle.writing.proofs.Parts.{Emits, emit_one, room-one, emitted}
use Rattle.encode.specs.Scalar.{scalar_bytes}
use Rattle.format.proofs.PieceLengths.{encode_few}
use Rattle.text_push.specs.declared.Over.{Over}
use Rattle.text_push.specs.declared.Over.TheVariants as over
use Rattle.text_push.specs.Pushes.{State, held_over, full_word, last_word, place_after, stored, pushed, pushed_all, flushed, Pushes, Stores, Flushes}

-- A WORD STORED
set_past : (xs : List ℕ) (i a : ℕ) → length xs ≤ i → xs ≡ set xs i a
set_past [] i a h = refl
set_past (x ∷ xs) zero a h = absurd (omega (arith, h))
set_past (x ∷ xs) (suc i) a h = ap (λ (l : List ℕ). x ∷ l) (set_past xs i a (omega (arith, h)))

module _ (at : ℕ) (out : List ℕ) where
  pub place-past : length out ≤ at → at ≡ place_after at out
  unfolding place_after
  place-past h = rw (le-ltb at (length out) h) refl

  pub place-next : at < length out → at + 1 ≡ place_after at out
  unfolding place_after
  place-next h = rw (lt-ltb at (length out) h) refl

  pub store_past : (w : ℕ) → length out ≤ at → Stores w at out (record { at = at; count = 0; low = 0; mid = 0 }) out
  store_past w h =
      ap₂ (λ (k : ℕ) (xs : List ℕ). (record { at = k; count = 0; low = 0; mid = 0 }, xs)) (place-past h) (set_past out at w h)

  pub store_there : (w : ℕ) → at < length out → Stores w at out (record { at = at + 1; count = 0; low = 0; mid = 0 }) (set out at w)
  store_there w h = ap (λ (k : ℕ). (record { at = k; count = 0; low = 0; mid = 0 }, set out at w)) (place-next h)

-- A BYTE
module _ (h : State) (b : ℕ) (out : List ℕ) where
  pub push_first : h.count ≡ 0 → Pushes (b ∷ []) h out (record { at = h.at; count = 1; low = b; mid = 0 }) out
  unfolding pushed_all pushed
  push_first e = rw (eq-eqb h.count 0 e) refl

  module _ (z : h.count ≡ 0 → ⊥) where
    pub push_second : h.count ≡ 1 → Pushes (b ∷ []) h out (record { at = h.at; count = 2; low = h.low; mid = b }) out
    unfolding pushed_all pushed
    push_second e = rw (ne_eqb h.count 0 z, eq-eqb h.count 1 e) refl

    pub push_third : (h.count ≡ 1 → ⊥) → (r : State) (after : List ℕ) → Stores (full_word h.low h.mid b) h.at out r after
        → Pushes (b ∷ []) h out r after
    unfolding pushed_all pushed
    push_third o r after w = rw (ne_eqb h.count 0 z, ne_eqb h.count 1 o) w

-- BYTES, one after the other and three at once
three_is : (h : State) (out : List ℕ) (a b c : ℕ) (bs : List ℕ) → h.count ≡ 0
    → pushed_all (a ∷ b ∷ c ∷ bs) (h, out) ≡ pushed_all bs (stored (full_word a b c) h.at out)
unfolding pushed_all pushed
three_is h out a b c bs e = rw (eq-eqb h.count 0 e) refl

pub record Pushing (s : List ℕ) (start h : State) (room out : List ℕ) (i : ℕ) : Type 0 where
  pub inside : i ≤ length s
  pub long : length out ≡ length room
  pub same : pushed_all (drop i s) (h, out) ≡ pushed_all s (start, room)

pub pushing_begin : (s : List ℕ) (start : State) (room : List ℕ) → Pushing s start start room room 0
pushing_begin s start room = record { inside = omega arith; long = refl; same = refl }

three-bytes : (s : List ℕ) (i : ℕ) → 3 ≤ length s - i → drop i s ≡ get_or s i 0 ∷ get_or s (i + 1) 0 ∷ get_or s (i + 2) 0 ∷ drop (i + 3) s
three-bytes s i h =
    let two : i + 1 + 1 ≡ i + 2 = omega arith in
    let three : i + 2 + 1 ≡ i + 3 = omega arith in
    drop_at_place 0 s i (omega arith)
    ∙ ap (λ (l : List ℕ). get_or s i 0 ∷ l)
    (drop_at_place 0 s (i + 1) (omega arith)
    ∙ ap (λ (k : ℕ). get_or s (i + 1) 0 ∷ drop k s) two
    ∙ ap (λ (l : List ℕ). get_or s (i + 1) 0 ∷ l)
    (drop_at_place 0 s (i + 2) (omega arith) ∙ ap (λ (k : ℕ). get_or s (i + 2) 0 ∷ drop k s) three))

module _ (s : List ℕ) (start h : State) (room out : List ℕ) (i : ℕ) (p : Pushing s start h room out i) where
  pub pushing_on : i < length s → (g : State) (after : List ℕ) → length after ≡ length out
      → Pushes (get_or s i 0 ∷ []) h out g after → Pushing s start g room after (i + 1)
  unfolding pushed_all
  pushing_on l g after e w =
      record {
        inside = omega arith;
        long = e ∙ p.long;
        same =
            ap (pushed_all (drop (i + 1) s)) w
            ∙ ap (λ (bs : List ℕ). pushed_all bs (h, out)) (sym (drop_at_place 0 s i l)) ∙ p.same;
      }

  pub pushing_three : 3 ≤ length s - i → h.count ≡ 0 → (g : State) (after : List ℕ) → length after ≡ length out
      → Stores (full_word (get_or s i 0) (get_or s (i + 1) 0) (get_or s (i + 2) 0)) h.at out g after → Pushing s start g room after (i + 3)
  pushing_three l z g after e w =
      record {
        inside = omega arith;
        long = e ∙ p.long;
        same =
            ap (pushed_all (drop (i + 3) s)) w
            ∙ sym (three_is h out (get_or s i 0) (get_or s (i + 1) 0) (get_or s (i + 2) 0) (drop (i + 3) s) z)
            ∙ ap (λ (bs : List ℕ). pushed_all bs (h, out)) (sym (three-bytes s i l)) ∙ p.same;
      }

  pub pushing_end : length s ≤ i → Pushes s start room h out
  unfolding pushed_all
  pushing_end l = ap (λ (bs : List ℕ). pushed_all bs (h, out)) (sym (drop_of_length-le s {i = i} l)) ∙ p.same

-- A SCALAR VALUE
module _ (v : ℕ) (bytes after : List ℕ) (n : ℕ) (l : length bytes ≡ 4) (p : Put (scalar_bytes v) bytes n after) where
  few : length (scalar_bytes v) ≤ 4
  unfolding scalar_bytes
  few = by_test (is_scalar v) (λ e. simp e (encode_few v)) (λ e. simp e (omega arith))

  fits : length (scalar_bytes v) ≤ length bytes
  fits = omega (arith, few, l)

  pub scalar-count : n ≤ length after
  scalar-count =
      omega (arith, p.0, filled-fits (scalar_bytes v) bytes fits, ap length (p.1 ∙ written-fits (scalar_bytes v) bytes fits), length-into (scalar_bytes v) bytes fits, fits)

  pub scalar-bytes : take (n - 0) after ≡ scalar_bytes v
  scalar-bytes =
      let z : n - 0 ≡ n = omega arith in
      ap (λ (k : ℕ). take k after) z
      ∙ ap₂ take (p.0 ∙ filled-fits (scalar_bytes v) bytes fits) (p.1 ∙ written-fits (scalar_bytes v) bytes fits)
      ∙ take_at (scalar_bytes v) (drop (length (scalar_bytes v)) bytes) (length (scalar_bytes v)) refl

-- THE END
module _ (h : State) (out : List ℕ) where
  pub flush_none : h.count ≡ 0 → Flushes h out h.at out
  unfolding flushed
  flush_none e = rw (eq-eqb h.count 0 e) refl

  module _ (z : h.count ≡ 0 → ⊥) where
    flush_past : length out ≤ h.at → Flushes h out h.at out
    unfolding flushed
    flush_past l =
        rw (ne_eqb h.count 0 z)
        (ap₂ (λ (k : ℕ) (xs : List ℕ). (k, xs)) (place-past h.at out l) (set_past out h.at (last_word h.count h.low h.mid) l))

    pub flush_there : (w : ℕ) → w ≡ last_word h.count h.low h.mid → h.at < length out → Flushes h out (h.at + 1) (set out h.at w)
    unfolding flushed
    flush_there w e l =
        rw (ne_eqb h.count 0 z) (ap₂ (λ (k : ℕ) (x : ℕ). (k, set out h.at x)) (place-next h.at out l) e)

pub flush_full : (at : ℕ) (o : Over) (out : List ℕ) → length out ≤ at → Flushes (held_over at o) out at out
flush_full at over.Nothing out l = flush_none _ out refl
flush_full at (over.One a) out l = flush_past _ out (λ z. absurd (omega arith)) l
flush_full at (over.Two a b) out l = flush_past _ out (λ z. absurd (omega arith)) l

pub last_one : (n a b : ℕ) → n ≡ 1 → 0xE100_0000 + a ≡ last_word n a b
last_one n a b e = rw (eq-eqb n 1 e) refl

pub last-two : (n a b : ℕ) → (n ≡ 1 → ⊥) → 0xE200_0000 + a + 256 * b ≡ last_word n a b
last-two n a b e = rw (ne_eqb n 1 e) refl

-- A TEXT being written that has room: the words before those of the bytes held over stand, and these bytes are left
abbrev pub HeldIs : State → List ℕ → Type 0
HeldIs h [] = h.count ≡ 0
HeldIs h (a ∷ []) = (h.count ≡ 1) × (h.low ≡ a)
HeldIs h (a ∷ b ∷ []) = (h.count ≡ 2) × (h.low ≡ a) × (h.mid ≡ b)
HeldIs h (a ∷ b ∷ c ∷ bs) = ⊥

pub record Texting (whole room left : List ℕ) (s : State × List ℕ) : Type 0 where
  pub held : List ℕ
  pub is : HeldIs s.0 held
  pub emits : Emits whole room (text_words (held ++ left)) (record { at = s.0.at; out = s.1 })

module _ (whole room : List ℕ) where
  full-word : (a b c : ℕ) (left : List ℕ) → text_words (a ∷ b ∷ c ∷ left) ≡ full_word a b c ∷ text_words left
  unfolding text_words value_of
  full-word a b c left =
      let w : word 7 (value_of 8 (a ∷ b ∷ c ∷ 3 ∷ [])) ≡ full_word a b c = omega arith in ap (λ (k : ℕ). k ∷ text_words left) w

  one_byte : (hs : List ℕ) (b : ℕ) (left : List ℕ) (s : State × List ℕ) → HeldIs s.0 hs
      → Emits whole room (text_words (hs ++ b ∷ left)) (record { at = s.0.at; out = s.1 }) → Texting whole room left (pushed b s)
  unfolding pushed
  one_byte [] b left s i f =
      rw (eq-eqb s.0.count 0 i) (record { held = b ∷ []; is = (refl, refl); emits = f })
  one_byte (a ∷ []) b left s i f =
      rw (ne_eqb s.0.count 0 (λ z. omega (arith, z, i.0)), eq-eqb s.0.count 1 i.0)
      (record { held = a ∷ b ∷ []; is = (refl, i.1, refl); emits = f })
  one_byte (a ∷ d ∷ []) b left s i f =
      let e : text_words (a ∷ d ∷ b ∷ left) ≡ full_word s.0.low s.0.mid b ∷ text_words left =
      full-word a d b left ∙ ap₂ (λ (x y : ℕ). full_word x y b ∷ text_words left) (sym i.1) (sym i.2) in
      rw (ne_eqb s.0.count 0 (λ z. omega (arith, z, i.0)), ne_eqb s.0.count 1 (λ z. omega (arith, z, i.0)))
      (record {
        held = [];
        is = refl;
        emits =
            subst (λ (k : ℕ). Emits whole room (text_words left) (record { at = k; out = set s.1 s.0.at (full_word s.0.low s.0.mid b) }))
            (place-next s.0.at s.1 (room-one f _ _ e)) (emit_one f _ _ e);
      })
  one_byte (a ∷ d ∷ e ∷ hs) b left s i f = absurd i

  -- bytes are taken off it
  pub pushed-text : (bs left : List ℕ) (s : State × List ℕ) → Texting whole room (bs ++ left) s → Texting whole room left (pushed_all bs s)
  unfolding pushed_all
  pushed-text [] left s x = x
  pushed-text (b ∷ bs) left s x = pushed-text bs left (pushed b s) (one_byte x.held b (bs ++ left) s x.is x.emits)

  -- it ends, and all its words stand
  last-bytes : (hs : List ℕ) (h : State) (out : List ℕ) → HeldIs h hs
      → Emits whole room (text_words (hs ++ [])) (record { at = h.at; out = out }) → Put whole room (flushed h out).0 (flushed h out).1
  unfolding flushed text_words value_of
  last-bytes [] h out i f = rw (eq-eqb h.count 0 i) (emitted f refl)
  last-bytes (a ∷ []) h out i f =
      let w : word 7 (value_of 8 (a ∷ 0 ∷ 0 ∷ 1 ∷ [])) ≡ last_word h.count h.low h.mid =
      (let k : word 7 (value_of 8 (a ∷ 0 ∷ 0 ∷ 1 ∷ [])) ≡ 0xE100_0000 + h.low = omega (arith, i.1) in k) ∙ last_one h.count h.low h.mid i.0 in
      let e = ap (λ (x : ℕ). x ∷ []) w in
      rw (ne_eqb h.count 0 (λ z. omega (arith, z, i.0)))
      (subst (λ (k : ℕ). Put whole room k (set out h.at (last_word h.count h.low h.mid))) (place-next h.at out (room-one f _ [] e))
      (emitted (emit_one f _ [] e) refl))
  last-bytes (a ∷ b ∷ []) h out i f =
      let w : word 7 (value_of 8 (a ∷ b ∷ 0 ∷ 2 ∷ [])) ≡ last_word h.count h.low h.mid =
      (let k : word 7 (value_of 8 (a ∷ b ∷ 0 ∷ 2 ∷ [])) ≡ 0xE200_0000 + h.low + 256 * h.mid = omega (arith, i.1, i.2) in k)
      ∙ last-two h.count h.low h.mid (λ z. omega (arith, z, i.0)) in
      let e = ap (λ (x : ℕ). x ∷ []) w in
      rw (ne_eqb h.count 0 (λ z. omega (arith, z, i.0)))
      (subst (λ (k : ℕ). Put whole room k (set out h.at (last_word h.count h.low h.mid))) (place-next h.at out (room-one f _ [] e))
      (emitted (emit_one f _ [] e) refl))
  last-bytes (a ∷ b ∷ c ∷ hs) h out i f = absurd i

  pub flushed-text : (h : State) (out : List ℕ) → Texting whole room [] (h, out) → Put whole room (flushed h out).0 (flushed h out).1
  flushed-text h out x = last-bytes x.held h out x.is x.emits
