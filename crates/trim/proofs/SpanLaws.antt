-- Ranges of a text: clipped, and trimmed. Assumes nothing.
use mathlib.Core.Path.{◌≡◌, refl, sym, ap, ◌∙◌, subst}
use mathlib.Core.List.{List, [], ◌∷◌}
use Prim.Native.Nat.{ℕ, zero, suc, ◌+◌, ◌-◌, ◌≤◌, ◌<◌}
use native.Mathlib.Omega.{arith}
use lib.ListN.{length, take, drop, get_or, length-drop, drop_of_length-le}
use lib.Seq.{length-take-le, take_all, take-nil, take-take, drop-drop, get_or-take, get_or-drop}
use lib.Dec.{ltb, eqb}
use borrow.Author.Tests.{lt-ltb, le-ltb, ltb-true, ltb-false, eq-eqb, ne_eqb, eqb-true, eqb-false}
use Rattle.std.specs.Prelude.{if◌then◌else◌}
use Rattle.format.specs.Basics.{is_empty}
use Rattle.format.specs.Utf8.{trim_start, trim_end, trim, is_blank}
use Rattle.format.proofs.ListLaws.{by_test}
use Rattle.trim.specs.declared.Span.{Span}
use Rattle.trim.specs.Span.{part, Spans, clipped, trim_start_span, trim_end_span, trim_span}
use Rattle.trim.specs.WhiteSpace.{shown_white, white_at}
use Rattle.trim.proofs.TrimLaws.{white_shown, white_shown_before, trim_stop, trim-on, blank_end, back_stop}

drop-take : (r n : ℕ) (l : List ℕ) → drop r (take n l) ≡ take (n - r) (drop r l)
drop-take zero n l = let e : n ≡ n - 0 = omega arith in ap (λ (k : ℕ). take k l) e
drop-take (suc r) zero l = let e : 0 ≡ 0 - suc r = omega arith in ap (λ (k : ℕ). take k (drop (suc r) l)) e
drop-take (suc r) (suc n) [] = sym (take-nil (suc n - suc r))
drop-take (suc r) (suc n) (x ∷ l) = drop-take r n l ∙ (let e : n - r ≡ suc n - suc r = omega arith in ap (λ (k : ℕ). take k (drop r l)) e)

-- a range is clipped
module _ (n start end : ℕ) where
  abbrev last : ℕ
  last = if ltb end n then end else n

  clip_with : (e : ℕ) → e ≡ last → record { start = if ltb start e then start else e; end = e } ≡ clipped n start end
  clip_with e q = ap (λ (x : ℕ). record { start = if ltb start x then start else x; end = x }) q

  pub clip_in : (e : ℕ) → e ≡ last → start < e → record { start = start; end = e } ≡ clipped n start end
  clip_in e q h = let t = clip_with e q in rw (lt-ltb start e h) at t

  pub clip_out : (e : ℕ) → e ≡ last → e ≤ start → record { start = e; end = e } ≡ clipped n start end
  clip_out e q h = let t = clip_with e q in rw (le-ltb start e h) at t

-- of a clipped range
abbrev InText : List ℕ → ℕ → ℕ → Span → Type 0
InText s start end c = (c.start ≤ c.end) × (c.end ≤ length s) × (part c.start c.end s ≡ part start end s)

clip_text : (s : List ℕ) (start end : ℕ) → InText s start end (clipped (length s) start end)
clip_text s start end =
    by_test (ltb end (length s))
    (λ t. let h = ltb-true end (length s) t in
    by_test (ltb start end)
    (λ u. let l = ltb-true start end u in simp (t, u) (omega arith, omega arith, refl))
    (λ u. let l = ltb-false start end u in simp (t, u) (omega arith, omega arith, empty end start end (omega arith) (omega arith))))
    (λ t. let h = ltb-false end (length s) t in
    by_test (ltb start (length s))
    (λ u. let l = ltb-true start (length s) u in simp (t, u) (omega arith, omega arith, whole start (length s) end (omega arith) h))
    (λ u. let l = ltb-false start (length s) u in simp (t, u) (omega arith, omega arith, whole-empty start end l)))
  where
    empty : (a b e : ℕ) → e - a ≡ 0 → e - b ≡ 0 → part a e s ≡ part b e s
    empty a b e p q = rw (p, q)

    whole : (a e f : ℕ) → length s - a ≤ e - a → e ≤ f → part a e s ≡ part a f s
    whole a e f p q =
        take_all (e - a) (drop a s) (omega (arith, length-drop a s)) ∙ sym (take_all (f - a) (drop a s) (omega (arith, length-drop a s)))

    whole-empty : (a f : ℕ) → length s ≤ a → part (length s) (length s) s ≡ part a f s
    whole-empty a f p =
        let e : length s - length s ≡ 0 = omega arith in
        rw (e, drop_of_length-le s p) (sym (take-nil (f - a)))

part_length : (s : List ℕ) (a e : ℕ) → a ≤ e → e ≤ length s → length (part a e s) ≡ e - a
part_length s a e h l = length-take-le (e - a) (drop a s) (omega (arith, length-drop a s))

-- the parts of a range that are left when its ends go
part-drop : (s : List ℕ) (a e r : ℕ) → part (a + r) e s ≡ drop r (part a e s)
part-drop s a e r =
    let k : e - (a + r) ≡ e - a - r = omega arith in
    rw (k, ← drop-drop r a s) (sym (drop-take r (e - a) (drop a s)))

part-take : (s : List ℕ) (a e r : ℕ) → r ≤ e - a → part a (a + r) s ≡ take r (part a e s)
part-take s a e r h =
    let k : a + r - a ≡ r = omega arith in
    rw k (sym (take-take r (e - a) (drop a s) h))

module _ (s : List ℕ) (start end : ℕ) (c : Span) (q : c ≡ clipped (length s) start end) where
  pub in_text : InText s start end c
  in_text = subst (λ (x : Span). InText s start end x) (sym q) (clip_text s start end)

  -- r bytes of White_Space at the start
  pub start-trimmed : (r : ℕ) → r ≤ length (part c.start c.end s) → drop r (part c.start c.end s) ≡ trim_start
      (part c.start c.end s)
      → (record { start = c.start + r; end = c.end } ≡ trim_start_span s start end) × Spans s (c.start + r) c.end
      (trim_start (part start end s))
  start-trimmed r h e =
      let i = in_text in
      let o : c.start ≤ c.end = i.0 in
      let l : c.end ≤ length s = i.1 in
      let n : length (part c.start c.end s) ≡ c.end - c.start = part_length s c.start c.end o l in
      let k : length (trim_start (part start end s)) ≡ length (part c.start c.end s) - r =
      ap (λ (x : List ℕ). length (trim_start x)) (sym i.2) ∙ ap length (sym e) ∙ length-drop r (part c.start c.end s) in
      let f : c.start + r ≡ c.end - length (trim_start (part start end s)) = omega arith in (
        ap (λ (x : ℕ). record { start = x; end = c.end }) f
            ∙ ap (λ (x : ℕ). record { start = x - length (trim_start (part start end s)); end = x }) (ap (λ (x : Span). x.end) q),
        record { ordered = omega arith; inside = l; same = part-drop s c.start c.end r ∙ e ∙ ap trim_start i.2 },
      )

  pub end-trimmed : (r : ℕ) → r ≤ length (part c.start c.end s) → take r (part c.start c.end s) ≡ trim_end
      (part c.start c.end s)
      → (record { start = c.start; end = c.start + r } ≡ trim_end_span s start end) × Spans s c.start (c.start + r)
      (trim_end (part start end s))
  end-trimmed r h e =
      let i = in_text in
      let o : c.start ≤ c.end = i.0 in
      let l : c.end ≤ length s = i.1 in
      let n : length (part c.start c.end s) ≡ c.end - c.start = part_length s c.start c.end o l in
      let k : r ≡ length (trim_end (part start end s)) =
      sym (ap (λ (x : List ℕ). length (trim_end x)) (sym i.2) ∙ ap length (sym e) ∙ length-take-le r (part c.start c.end s) h) in (
        ap (λ (x : ℕ). record { start = c.start; end = c.start + x }) k
            ∙ ap (λ (x : ℕ). record { start = x; end = x + length (trim_end (part start end s)) }) (ap (λ (x : Span). x.start) q),
        record {
          ordered = omega arith;
          inside = omega arith;
          same = part-take s c.start c.end r (omega arith) ∙ e ∙ ap trim_end
              i.2;
        },
      )

-- a range that lies in the text is left as it is
clip_same : (n a e : ℕ) → a ≤ e → e ≤ n → (clipped n a e).start ≡ a
clip_same n a e h l =
    by_test (ltb e n)
    (λ t. by_test (ltb a e) (λ u. simp (t, u)) (λ u. simp (t, u) (omega (arith, ltb-false a e u))))
    (λ t. by_test (ltb a n) (λ u. simp (t, u)) (λ u. simp (t, u) (omega (arith, ltb-false e n t, ltb-false a n u))))

-- both ends, one after the other
pub both_trimmed : (s : List ℕ) (start end : ℕ) (c r : Span) → c ≡ trim_start_span s start end → Spans s c.start c.end
    (trim_start (part start end s))
    → r ≡ trim_end_span s c.start c.end → Spans s r.start r.end (trim_end (part c.start c.end s))
    → (r ≡ trim_span s start end) × Spans s r.start r.end (trim (part start end s))
unfolding trim
both_trimmed s start end c r q f e g =
    let p = ap trim_end f.same in (
      e ∙ ap (λ (x : ℕ). record { start = x; end = x + length (trim_end (part c.start c.end s)) })
          (clip_same (length s) c.start c.end f.ordered f.inside ∙ ap (λ (x : Span). x.start) q)
          ∙ ap (λ (x : List ℕ). record { start = (trim_start_span s start end).start; end = (trim_start_span s start end).start + length x }) p,
      record { ordered = g.ordered; inside = g.inside; same = g.same ∙ p },
    )

-- WHAT ASCII SHOWS of a range that lies in the text
part_at : (s : List ℕ) (a e k : ℕ) → a + k < e → get_or (part a e s) k 0 ≡ get_or s (a + k) 0
part_at s a e k h = let l : k < e - a = omega arith in rw (get_or-take, get_or-drop)

module _ (s : List ℕ) (i e : ℕ) (h : i < e) (l : e ≤ length s) where
  range_length : length (part i e s) ≡ e - i
  range_length = part_length s i e (omega arith) l

  shown_first : (n : ℕ) → n ≡ shown_white (get_or s i 0) → n < 4 → n ≡ white_at (part i e s) 0
  shown_first n q f =
      let k : i + 0 ≡ i = omega arith in
      let g : get_or (part i e s) 0 0 ≡ get_or s i 0 = part_at s i e 0 (omega arith) ∙ ap (λ (j : ℕ). get_or s j 0) k in
      white_shown (part i e s) 0 n (omega (arith, range_length)) (q ∙ ap shown_white (sym g)) f

  -- a space at its start is passed over
  space_on : get_or s i 0 ≡ 0x20 → trim_start (part (i + 1) e s) ≡ trim_start (part i e s)
  unfolding trim_start shown_white
  space_on q = ap trim_start (part-drop s i e 1) ∙ trim-on (part i e s) 0 1 (shown_first 1 (sym (ap shown_white q)) (omega arith))

  start_stays : 0 ≡ shown_white (get_or s i 0) → trim_start (part i e s) ≡ part i e s
  unfolding trim_start
  start_stays q = trim_stop (part i e s) (sym (shown_first 0 q (omega arith)))

  end_stays : 0 ≡ shown_white (get_or s (e - 1) 0) → take (e - i) (part i e s) ≡ trim_end (part i e s)
  end_stays q =
      let n : length (part i e s) ≡ e - i = range_length in
      let k : i + (length (part i e s) - 1) ≡ e - 1 = omega arith in
      let g : get_or (part i e s) (length (part i e s) - 1) 0 ≡ get_or s (e - 1) 0 =
      part_at s i e (length (part i e s) - 1) (omega arith) ∙ ap (λ (j : ℕ). get_or s j 0) k in
      ap (λ (j : ℕ). take j (part i e s)) (sym n) ∙ back_stop (part i e s) (length (part i e s)) (omega arith) (blank_end (part i e s))
      (white_shown_before (part i e s) (length (part i e s)) 0 (omega arith) (omega arith) (q ∙ ap shown_white (sym g)) (omega arith))

  clip_range : record { start = i; end = e } ≡ clipped (length s) i e
  clip_range = clip_in (length s) i e e last-same h
    where
      last-same : e ≡ (if ltb e (length s) then e else length s)
      last-same = by_test (ltb e (length s)) (λ t. simp t) (λ t. simp t (omega (arith, ltb-false e (length s) t)))

-- and so are all the spaces there
pub spaces_off : (s : List ℕ) (start e n : ℕ) → start + n ≤ e → e ≤ length s → ((i : ℕ) → start ≤ i → i < start + n → get_or s i 0 ≡ 0x20)
    → trim_start (part (start + n) e s) ≡ trim_start (part start e s)
spaces_off s start e zero l k f = let z : start + 0 ≡ start = omega arith in ap (λ (j : ℕ). trim_start (part j e s)) z
spaces_off s start e (suc n) l k f =
    let z : start + suc n ≡ start + n + 1 = omega arith in
    ap (λ (j : ℕ). trim_start (part j e s)) z
    ∙ space_on s (start + n) e (omega arith) k (f (start + n) (omega arith) (omega arith))
    ∙ spaces_off s start e n (omega arith) k (λ i p q. f i p (omega arith))

pub spaces_gone : (s : List ℕ) (start e a : ℕ) → start ≤ a → a ≤ e → e ≤ length s → ((i : ℕ) → start ≤ i → i < a → get_or s i 0 ≡ 0x20)
    → trim_start (part a e s) ≡ trim_start (part start e s)
spaces_gone s start e a h l k f =
    let z : start + (a - start) ≡ a = omega arith in
    ap (λ (j : ℕ). trim_start (part j e s)) (sym z) ∙ spaces_off s start e (a - start) (omega arith) k (λ i p q. f i p (omega arith))

-- past its spaces a range begins with, and ends in, what is no White_Space
pub range_shown : (s : List ℕ) (start end a : ℕ) → start ≤ a → a < end → end ≤ length s
    → trim_start (part a end s) ≡ trim_start (part start end s) → 0 ≡ shown_white (get_or s a 0) → 0 ≡ shown_white (get_or s (end - 1) 0)
    → (record { start = a; end = end } ≡ trim_span s start end) × Spans s a end (trim (part start end s))
range_shown s start end a h l i e p q =
    let c : Span = record { start = start; end = end } in
    let k : start + (a - start) ≡ a = omega arith in
    let k2 : a + (end - a) ≡ end = omega arith in
    let f = start-trimmed s start end c (clip_range s start end (omega arith) i) (a - start)
    (omega (arith, range_length s start end (omega arith) i))
    (sym (part-drop s start end (a - start)) ∙ ap (λ (x : ℕ). part x end s) k ∙ sym (start_stays s a end l i p) ∙ e) in
    let g = end-trimmed s a end (record { start = a; end = end }) (clip_range s a end l i) (end - a)
    (omega (arith, range_length s a end l i)) (end_stays s a end l i q) in
    let f2 = rw k at f in
    let g2 = rw k2 at g in
    both_trimmed s start end (record { start = a; end = end }) (record { start = a; end = end }) f2.0 f2.1 g2.0 g2.1

empty-length : (xs : List ℕ) → eqb (length xs) 0 ≡ is_empty xs
unfolding is_empty
empty-length [] = refl
empty-length (x ∷ xs) = ne_eqb (suc (length xs)) 0 (λ e. omega arith)

-- nothing is left
pub blank_range : (s : List ℕ) (start end a e : ℕ) → Spans s a e (trim_start (part start end s)) → eqb a e ≡ is_blank (part start end s)
unfolding is_blank
blank_range s start end a e f =
    let n : length (trim_start (part start end s)) ≡ e - a = ap length (sym f.same) ∙ part_length s a e f.ordered f.inside in
    let o : a ≤ e = f.ordered in
    by_test (eqb a e)
    (λ t. t ∙ sym (eq-eqb (length (trim_start (part start end s))) 0 (omega (arith, eqb-true a e t))))
    (λ t. t ∙ sym (ne_eqb (length (trim_start (part start end s))) 0 (λ z. omega (arith, eqb-false a e t))))
    ∙ empty-length (trim_start (part start end s))

-- a whole text as a range
pub part-whole : (s : List ℕ) → part 0 (length s) s ≡ s
part-whole s = take_all (length s - 0) s (omega arith)
