-- Lines at places.
-- Assumes nothing.
use mathlib.Core.Path.{◌≡◌, refl, sym, ap, ◌∙◌}
use mathlib.Core.Bool.{Bool, true, false, ◌&&◌}
use mathlib.Core.List.{List, [], ◌∷◌}
use Prim.Native.Nat.{ℕ, zero, suc, ◌+◌, ◌-◌, ◌≤◌, ◌<◌, min}
use native.Mathlib.Omega.{arith}
use lib.ListN.{length, take, drop, get_or, drop_of_length-le, length-drop}
use lib.Seq.{get_or-drop, get_or-take, take-length, length-take-le, take-take, take-nil, take_all}
use lib.Dec.{eqb}
use borrow.Author.Tests.{eq-eqb, ne_eqb, eqb-true, eqb-false}
use Rattle.std.specs.Cmp.Lexicographic.{pointwise}
use Rattle.format.specs.Basics.{keep, begins_with, ascii, eqs}
use Rattle.format.specs.Utf8.{is_blank, trim}
use Rattle.format.specs.TextReader.{on_first, lines, kept_lines}
use Rattle.trim.specs.Span.{Spans, part}
use Rattle.text_lines.specs.Lines.{line_length, Lacks, Holds, LineAt, is_kept, kept}
use Rattle.text_lines.proofs.TestLaws.{by_test, front, drop_more}

module _ (s : List ℕ) (i : ℕ) where
  pub line-here : i < length s → get_or s i 0 ≡ 0x0A → line_length (drop i s) ≡ 0
  unfolding line_length
  line-here h e = rw (front 0 s i h, eq-eqb (get_or s i 0) 0x0A e)

  pub line_on : i < length s → (get_or s i 0 ≡ 0x0A → ⊥) → line_length (drop i s) ≡ suc (line_length (drop (i + 1) s))
  unfolding line_length
  line_on h e = rw (front 0 s i h, ne_eqb (get_or s i 0) 0x0A e)

  pub line_stop : length s ≤ i → line_length (drop i s) ≡ 0
  unfolding line_length
  line_stop h = rw (drop_of_length-le s h)

pub line-fits : (bs : List ℕ) → line_length bs ≤ length bs
unfolding line_length
line-fits [] = omega arith
line-fits (b ∷ bs) = by_test (eqb b 0x0A) (λ t. simp t (omega arith)) (λ t. simp t (omega (arith, line-fits bs)))

-- an LF ends the line
line-short : (bs : List ℕ) (k : ℕ) → k < length bs → get_or bs k 0 ≡ 0x0A → line_length bs ≤ k
unfolding line_length
line-short [] k h e = absurd (omega arith)
line-short (b ∷ bs) zero h e = rw (eq-eqb b 0x0A e) (omega arith)
line-short (b ∷ bs) (suc k) h e = by_test (eqb b 0x0A) (λ t. simp t (omega arith)) (λ t. simp t (omega (arith, line-short bs k (omega arith) e)))

pub line-within : (s : List ℕ) (at k : ℕ) → at + k < length s → get_or s (at + k) 0 ≡ 0x0A → line_length (drop at s) ≤ k
line-within s at k h e = line-short (drop at s) k (omega (arith, length-drop at s)) (rw (get_or-drop at s k 0) e)

-- a line goes on past bytes with no LF
pub line-past : (s : List ℕ) (at n : ℕ) → at + n ≤ length s → Lacks 0x0A s at (at + n)
    → n + line_length (drop (at + n) s) ≡ line_length (drop at s)
line-past s at zero h f =
    let z : at + 0 ≡ at = omega arith in
    let e : line_length (drop (at + 0) s) ≡ line_length (drop at s) = ap (λ (j : ℕ). line_length (drop j s)) z in
    omega (arith, e)
line-past s at (suc n) h f =
    let z : at + suc n ≡ at + n + 1 = omega arith in
    let e : line_length (drop (at + suc n) s) ≡ line_length (drop (at + n + 1) s) = ap (λ (j : ℕ). line_length (drop j s)) z in
    let r = line-past s at n (omega arith) (λ i p q. f i p (omega arith)) in
    omega (arith, e, r, line_on s (at + n) (omega arith) (f (at + n) (omega arith) (omega arith)))

-- a text begins with LF just if its first line is empty
lf_not : (bs : List ℕ) (k : ℕ) → line_length bs ≡ suc k → begins_with (0x0A ∷ []) bs ≡ false
unfolding line_length begins_with
lf_not [] k e = refl
lf_not (b ∷ bs) k e =
    by_test (eqb b 0x0A)
    (λ t. let z : 0 ≡ suc k = simp t at e in absurd (omega arith))
    (λ t. rw (ne_eqb 0x0A b (λ q. eqb-false b 0x0A t (sym q))))

lf_end : (bs : List ℕ) → line_length bs ≡ length bs → begins_with (0x0A ∷ []) bs ≡ false
unfolding begins_with
lf_end [] e = refl
lf_end (b ∷ bs) e = lf_not (b ∷ bs) (length bs) e

lf_yes : (b : ℕ) (bs : List ℕ) → line_length (b ∷ bs) ≡ 0 → b ≡ 0x0A
unfolding line_length
lf_yes b bs e = by_test (eqb b 0x0A) (λ t. eqb-true b 0x0A t) (λ t. let z : suc (line_length bs) ≡ 0 = simp t at e in absurd (omega arith))

-- the first byte joins the first line, unless it is CR before LF
first_joins : (b : ℕ) (bs : List ℕ) → (b ≡ 0x0A → ⊥) → (b ≡ 0x0D → begins_with (0x0A ∷ []) bs ≡ false) → lines (b ∷ bs) ≡ on_first b (lines bs)
unfolding lines
first_joins b bs n c =
    by_test (eqb b 0x0D)
    (λ t. simp (ne_eqb b 0x0A n, t, c (eqb-true b 0x0D t)))
    (λ t. simp (ne_eqb b 0x0A n, t))

len-tail : (b : ℕ) (bs : List ℕ) (m : ℕ) → line_length (b ∷ bs) ≡ suc m → (b ≡ 0x0A → ⊥) × (line_length bs ≡ m)
unfolding line_length
len-tail b bs m e =
    by_test (eqb b 0x0A)
    (λ t. let z : 0 ≡ suc m = simp t at e in absurd (omega arith))
    (λ t. let z : suc (line_length bs) ≡ suc m = simp t at e in (eqb-false b 0x0A t, omega arith))

lines-here : (b : ℕ) (bs : List ℕ) → b ≡ 0x0A → lines (b ∷ bs) ≡ [] ∷ lines bs
unfolding lines
lines-here b bs e = rw (eq-eqb b 0x0A e)

lines_cr : (b c : ℕ) (bs : List ℕ) → b ≡ 0x0D → c ≡ 0x0A → lines (b ∷ c ∷ bs) ≡ lines (c ∷ bs)
unfolding lines begins_with
lines_cr b c bs e f = rw (e, f)

-- a line that ends at LF
pub lines_lf : (n : ℕ) (bs : List ℕ) → line_length bs ≡ n → n < length bs → (0 < n → get_or bs (n - 1) 0 ≡ 0x0D → ⊥) → lines bs ≡ take n bs ∷ lines (drop (suc n) bs)
unfolding on_first
lines_lf n [] e h c = absurd (omega arith)
lines_lf zero (b ∷ bs) e h c = lines-here b bs (lf_yes b bs e)
lines_lf (suc zero) (b ∷ bs) e h c =
    let t = len-tail b bs 0 e in
    first_joins b bs t.0 (λ q. absurd (c (omega arith) q)) ∙ ap (on_first b) (lines_lf zero bs t.1 (omega arith) (λ l q. omega arith))
lines_lf (suc (suc m)) (b ∷ bs) e h c =
    let t = len-tail b bs (suc m) e in
    first_joins b bs t.0 (λ q. lf_not bs m t.1) ∙ ap (on_first b) (lines_lf (suc m) bs t.1 (omega arith) (λ l q. c (omega arith) ((let k : suc (suc m) - 1 ≡ suc (suc m - 1) = omega arith in ap (λ (j : ℕ). get_or (b ∷ bs) j 0) k) ∙ q)))

-- a line that ends at CR LF
pub lines_crlf : (m : ℕ) (bs : List ℕ) → line_length bs ≡ suc m → suc m < length bs → get_or bs m 0 ≡ 0x0D → lines bs ≡ take m bs ∷ lines (drop (suc (suc m)) bs)
unfolding on_first
lines_crlf m [] e h c = absurd (omega arith)
lines_crlf zero (b ∷ []) e h c = absurd (omega arith)
lines_crlf zero (b ∷ x ∷ bs) e h c =
    let y : x ≡ 0x0A = lf_yes x bs (len-tail b (x ∷ bs) 0 e).1 in
    lines_cr b x bs c y ∙ lines-here x bs y
lines_crlf (suc m) (b ∷ bs) e h c =
    let t = len-tail b bs (suc m) e in
    first_joins b bs t.0 (λ q. lf_not bs m t.1) ∙ ap (on_first b) (lines_crlf m bs t.1 (omega arith) c)

-- a last line without
pub lines-last : (bs : List ℕ) → 0 < length bs → line_length bs ≡ length bs → lines bs ≡ bs ∷ []
unfolding on_first lines
lines-last [] h e = absurd (omega arith)
lines-last (b ∷ []) h e = let t = len-tail b [] 0 e in first_joins b [] t.0 (λ q. lf_end [] t.1)
lines-last (b ∷ x ∷ bs) h e =
    let t = len-tail b (x ∷ bs) (length (x ∷ bs)) e in
    first_joins b (x ∷ bs) t.0 (λ q. lf_end (x ∷ bs) t.1) ∙ ap (on_first b) (lines-last (x ∷ bs) (omega arith) t.1)

-- the same at a place
module _ (s : List ℕ) (at e : ℕ) (l : at ≤ e) (d : e ≡ at + line_length (drop at s)) where
  size : line_length (drop at s) ≡ e - at
  size = omega arith

  byte : at < e → get_or (drop at s) (e - at - 1) 0 ≡ get_or s (e - 1) 0
  byte h = rw (get_or-drop at s (e - at - 1) 0) (let k : at + (e - at - 1) ≡ e - 1 = omega arith in ap (λ (j : ℕ). get_or s j 0) k)

  rest : drop (suc (e - at)) (drop at s) ≡ drop (e + 1) s
  rest = drop_more s at (suc (e - at)) ∙ (let k : at + suc (e - at) ≡ e + 1 = omega arith in ap (λ (j : ℕ). drop j s) k)

  pub line_lf : e < length s → (at < e → get_or s (e - 1) 0 ≡ 0x0D → ⊥) → LineAt lines s at at e (e + 1)
  line_lf h c =
      record {
        from = omega arith;
        ordered = l;
        inside = omega arith;
        on = omega arith;
        next = omega arith;
        same = lines_lf (e - at) (drop at s) size (omega (arith, length-drop at s)) (λ g q. c (omega arith) (sym (byte (omega arith)) ∙ q))
            ∙ ap (λ (r : List ℕ). take (e - at) (drop at s) ∷ lines r) rest;
      }

  pub line_crlf : at < e → e < length s → get_or s (e - 1) 0 ≡ 0x0D → LineAt lines s at at (e - 1) (e + 1)
  line_crlf g h c =
      let m : e - at ≡ suc (e - 1 - at) = omega arith in
      record {
        from = omega arith;
        ordered = omega arith;
        inside = omega arith;
        on = omega arith;
        next = omega arith;
        same = lines_crlf (e - 1 - at) (drop at s) (size ∙ m) (omega (arith, length-drop at s))
            (let k : e - 1 - at ≡ e - at - 1 = omega arith in ap (λ (j : ℕ). get_or (drop at s) j 0) k ∙ byte g ∙ c)
            ∙ ap (λ (r : List ℕ). take (e - 1 - at) (drop at s) ∷ lines r) (ap (λ (j : ℕ). drop (suc j) (drop at s)) (sym m) ∙ rest);
      }

  pub line-last : at < length s → e ≡ length s → LineAt lines s at at e e
  unfolding lines
  line-last g h =
      record {
        from = omega arith;
        ordered = l;
        inside = omega arith;
        on = omega arith;
        next = omega arith;
        same = lines-last (drop at s) (omega (arith, length-drop at s)) (size ∙ omega (arith, length-drop at s))
            ∙ rw (drop_of_length-le s {i = e} (omega arith)) (ap (λ (x : List ℕ). x ∷ []) (sym (take-length (drop at s)) ∙ (let k : length (drop at s) ≡ e - at = omega (arith, length-drop at s) in ap (λ (j : ℕ). take j (drop at s)) k)));
      }

pub line-done : (s : List ℕ) (at : ℕ) → length s ≤ at → lines (drop at s) ≡ []
unfolding lines
line-done s at h = rw (drop_of_length-le s h)

-- THE TIE: the lines of the file that are kept are those of its trimmed range
pub kept-trimmed : (bs : List ℕ) → kept_lines bs ≡ kept (trim bs)
unfolding kept_lines kept is_kept
kept-trimmed bs = refl

module _ (s : List ℕ) (at a e n : ℕ) (l : LineAt lines s at a e n) where
  pub kept-yes : is_kept (part a e s) ≡ true → LineAt kept s at a e n
  unfolding kept keep
  kept-yes t =
      record {
        from = l.from;
        ordered = l.ordered;
        inside = l.inside;
        on = l.on;
        next = l.next;
        same = ap (keep is_kept) l.same ∙ simp t;
      }

  pub kept_no : is_kept (part a e s) ≡ false → kept (drop at s) ≡ kept (drop n s)
  unfolding kept keep
  kept_no t = ap (keep is_kept) l.same ∙ simp t

pub kept-done : (s : List ℕ) (at : ℕ) → lines (drop at s) ≡ [] → kept (drop at s) ≡ []
unfolding kept keep
kept-done s at e = ap (keep is_kept) e

-- the same rest, from an earlier place
pub earlier : (f : List ℕ → List (List ℕ)) (s : List ℕ) (from at a e n : ℕ) → from ≤ at → f (drop at s) ≡ f (drop from s) → LineAt f s at a e n → LineAt f s from a e n
earlier f s from at a e n h q l =
    record {
      from = omega (arith, l.from);
      ordered = l.ordered;
      inside = l.inside;
      on = omega (arith, l.on);
      next = l.next;
      same = sym q ∙ l.same;
    }

pub length_part : (a e : ℕ) (s : List ℕ) → a ≤ e → e ≤ length s → length (part a e s) ≡ e - a
length_part a e s h k = length-take-le (e - a) (drop a s) (omega (arith, length-drop a s))

-- n bytes from a place on by themselves: what they lack and what they hold
module _ (b : ℕ) (s : List ℕ) (at n : ℕ) (h : at + n ≤ length s) where
  abbrev block : List ℕ
  block = part at (at + n) s

  block_length : min (0 + n) (length block) ≡ n
  block_length = let l : length block ≡ at + n - at = length_part at (at + n) s (omega arith) h in omega (arith, l)

  block_byte : (k : ℕ) → k < n → get_or block k 0 ≡ get_or s (at + k) 0
  block_byte k p = get_or-take (at + n - at) (drop at s) k 0 (omega arith) ∙ get_or-drop at s k 0

  pub block_lacks : Lacks b block 0 (min (0 + n) (length block)) → Lacks b s at (at + n)
  block_lacks f i p q e =
      let k : at + (i - at) ≡ i = omega arith in
      f (i - at) (omega arith) (omega (arith, block_length)) (block_byte (i - at) (omega arith) ∙ ap (λ (j : ℕ). get_or s j 0) k ∙ e)

  pub block_holds : Holds b block 0 (min (0 + n) (length block)) → (k : ℕ) × (k < n) × (get_or s (at + k) 0 ≡ b)
  block_holds f = let q : f.0 < n = omega (arith, f.2, block_length) in (f.0, q, sym (block_byte f.0 q) ∙ f.3)

-- a part of a part
drop-take : (x n : ℕ) (l : List ℕ) → drop x (take n l) ≡ take (n - x) (drop x l)
drop-take zero n l = (let k : n ≡ n - 0 = omega arith in ap (λ (j : ℕ). take j l) k)
drop-take (suc x) zero l = (let k : 0 - suc x ≡ 0 = omega arith in ap (λ (j : ℕ). take j (drop (suc x) l)) (sym k))
drop-take (suc x) (suc n) [] = sym (take-nil (suc n - suc x))
drop-take (suc x) (suc n) (b ∷ bs) = drop-take x n bs ∙ (let k : n - x ≡ suc n - suc x = omega arith in ap (λ (j : ℕ). take j (drop x bs)) k)

pub part-inside : (s : List ℕ) (a e x y : ℕ) → x ≤ y → y ≤ e - a → part (a + x) (a + y) s ≡ part x y (part a e s)
part-inside s a e x y h k =
    let m : a + y - (a + x) ≡ y - x = omega arith in
    ap (λ (j : ℕ). take j (drop (a + x) s)) m
    ∙ sym (ap (take (y - x)) (drop-take x (e - a) (drop a s)) ∙ take-take (y - x) (e - a - x) (drop x (drop a s)) (omega arith) ∙ ap (take (y - x)) (drop_more s a x))

pub spans-inside : (s : List ℕ) (a e : ℕ) (p : List ℕ) (x y : ℕ) (q : List ℕ) → Spans s a e p → Spans (part a e s) x y q → Spans s (a + x) (a + y) q
spans-inside s a e p x y q o i =
    let h : y ≤ e - a = omega (arith, i.inside, length_part a e s o.ordered o.inside) in
    record {
      ordered = omega (arith, i.ordered);
      inside = omega (arith, o.inside, o.ordered);
      same = part-inside s a e x y i.ordered h ∙ i.same;
    }

pub to_end : (s : List ℕ) (a : ℕ) → take (length s - a) (drop a s) ≡ drop a s
to_end s a = take_all (length s - a) (drop a s) (omega (arith, length-drop a s))

pub begins-none : (b : ℕ) (s : List ℕ) → length s ≡ 0 → false ≡ begins_with (b ∷ []) s
unfolding begins_with
begins-none b [] h = refl
begins-none b (x ∷ xs) h = absurd (omega arith)

pub begins_at : (b : ℕ) (s : List ℕ) → 0 < length s → eqb b (get_or s 0 0) ≡ begins_with (b ∷ []) s
unfolding begins_with
begins_at b [] h = absurd (omega arith)
begins_at b (x ∷ xs) h = by_test (eqb b x) (λ t. simp t) (λ t. simp t)

module _ (s : List ℕ) where
  pub kept_comment : begins_with (35 ∷ []) s ≡ true → false ≡ is_kept s
  unfolding is_kept ascii
  kept_comment t = simp t

  pub kept_blank : begins_with (35 ∷ []) s ≡ false → is_blank s ≡ true → false ≡ is_kept s
  unfolding is_kept ascii
  kept_blank t u = simp (t, u)

  pub kept_line : begins_with (35 ∷ []) s ≡ false → is_blank s ≡ false → true ≡ is_kept s
  unfolding is_kept ascii
  kept_line t u = simp (t, u)

pub eqs-pointwise : (s t : List ℕ) → pointwise eqb s t ≡ eqs s t
unfolding eqs
eqs-pointwise [] [] = refl
eqs-pointwise [] (y ∷ ys) = refl
eqs-pointwise (x ∷ xs) [] = refl
eqs-pointwise (x ∷ xs) (y ∷ ys) = ap (λ (b : Bool). eqb x y && b) (eqs-pointwise xs ys)
