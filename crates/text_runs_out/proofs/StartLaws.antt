-- Where the next line starts. Assumes nothing.
use mathlib.Core.Path.{◌≡◌, refl, sym, ap, subst, ◌∙◌}
use mathlib.Core.Logic.{⊎_elim}
use mathlib.Core.List.{List, [], ◌∷◌}
use mathlib.Core.Option.{Option}
use Prim.Native.Nat.{ℕ, zero, suc, ◌+◌, ◌-◌, ◌^◌, ◌≤◌, ◌<◌}
use native.Mathlib.Omega.{arith}
use lib.ListN.{length, drop, get_or, length-append, drop_of_length-le}
use lib.Dec.{ltb}
use borrow.Author.Tests.{lt-ltb, ltb-true, eq-eqb, ne_eqb}
use Rattle.format.specs.TextWriter.{decimal, to_right}
use Rattle.format.proofs.ListLaws.{by_test}
use Rattle.writing.proofs.EachLaws.{drop_at_place}
use Rattle.object.specs.Texts.{text_bytes, span_bytes, EachByte}
use Rattle.object.proofs.SpanLaws.{span-length}
use Rattle.word_chars.specs.Stretches.{Other, Clear}
use Rattle.word_chars.proofs.CharLaws.{byte_is, size_is}
use Rattle.text_escape.specs.Escaped.{escaped_in}
use Rattle.text_escape.specs.Rows.{line_line, plain_cell, PlainLine}
use Rattle.text_escape.proofs.EscapeLaws.{line-length}
use Rattle.text_lines_out.specs.Merge.{smaller}
use Rattle.text_runs_out.specs.Lines.{past_line, next_start}

-- byte by byte
module _ (s : List ℕ) (i : ℕ) where
  pub past-on : i < length s → (get_or s i 0 ≡ 10 → ⊥) → past_line i (drop i s) ≡ past_line (i + 1) (drop (i + 1) s)
  unfolding past_line
  past-on h n = ap (past_line i) (drop_at_place 0 s i h) ∙ rw (ne_eqb (get_or s i 0) 10 n)

  pub past-here : i < length s → get_or s i 0 ≡ 10 → past_line i (drop i s) ≡ i + 1
  unfolding past_line
  past-here h e = ap (past_line i) (drop_at_place 0 s i h) ∙ rw (eq-eqb (get_or s i 0) 10 e)

  pub past_end : length s ≤ i → past_line i (drop i s) ≡ i + 1
  unfolding past_line
  past_end h = ap (past_line i) (drop_of_length-le s {i = i} h)

-- what is passed of a line has no newline
abbrev pub Passed : List ℕ → ℕ → ℕ → Type 0
Passed s start i =
    (start ≤ i) × (start < length s → i ≤ length s) × (start < length s → past_line start (drop start s) ≡ past_line i (drop i s))

pub passed_on : (s : List ℕ) (start i : ℕ) → Passed s start i → i < length s → (get_or s i 0 ≡ 10 → ⊥) → Passed s start (i + 1)
passed_on s start i p h n = (omega (arith, p.0), λ l. omega (arith, h), λ l. p.2 l ∙ past-on s i h n)

passed_start : (s : List ℕ) (start : ℕ) → Passed s start start
passed_start s start = (omega arith, λ l. omega (arith, l), λ l. refl)

module _ (ws : List ℕ) (at n start : ℕ) where
  abbrev text : List ℕ
  text = text_bytes ws at n

  passed_each : (d : ℕ) → start + d ≤ n → EachByte Other ws at start (start + d) → Passed text start (start + d)
  passed_each zero h f = let e : start ≡ start + 0 = omega arith in subst (Passed text start) e (passed_start text start)
  passed_each (suc d) h f =
      let e : start + d + 1 ≡ start + suc d = omega arith in
      let l : start + d < n = omega arith in
      subst (Passed text start) e
      (passed_on text start (start + d) (passed_each d (omega arith) (λ k a b. f k a (omega arith))) (omega (arith, size_is ws at n, l))
      (λ z. f (start + d) (omega arith) (omega arith) (byte_is ws at n (start + d) l ∙ z)))

  pub passed_clear : (i : ℕ) → Clear ws at n start i → Passed text start i
  passed_clear i c =
      ⊎_elim
      (λ h. let e : start ≡ i = omega (arith, h, c.0) in subst (Passed text start) e (passed_start text start))
      (λ h.
      let e : start + (i - start) ≡ i = omega (arith, c.0) in
      subst (Passed text start) e (passed_each (i - start) (omega (arith, h, e)) (λ k a b. c.2 k a (omega (arith, e)))))
      c.1

-- a newline is found, or none
module _ (s : List ℕ) (start i : ℕ) (p : Passed s start i) where
  abbrev cap : ℕ → ℕ
  cap x = smaller x (2 ^ 64 - 1)

  pub next-found : i < length s → get_or s i 0 ≡ 10 → length s < 2 ^ 64 → next_start s start ≡ i + 1
  unfolding next_start
  next-found h e l =
      let b : start < length s = omega (arith, p.0, h) in
      let z : cap (i + 1) ≡ i + 1 = omega (arith, h, l) in
      rw (lt-ltb start (length s) b) (ap cap (p.2 b ∙ past-here s i h e) ∙ z)

  pub next-none : length s ≤ i → next_start s start ≡ cap (length s + 1)
  unfolding next_start
  next-none h =
      by_test (ltb start (length s))
      (λ t. let b = ltb-true start (length s) t in
      let z : i + 1 ≡ length s + 1 = omega (arith, h, p.1 b) in rw t (ap cap (p.2 b ∙ past_end s i h ∙ z)))
      (λ t. rw t)

-- a line of bytes that stand for themselves
module _ (ws : List ℕ) (at n start j : ℕ) (h : j < n) (few : n < 2 ^ 64) (p : PlainLine ws at n start j) where
  pub plain_next : next_start (text_bytes ws at n) start ≡ j + 1
  plain_next =
      let s = text_bytes ws at n in
      let z = size_is ws at n in
      next-found s start j (passed_clear ws at n start j p.clear) (omega (arith, h, z)) (sym (byte_is ws at n j h) ∙ p.ends)
      (omega (arith, few, z))

  pub plain_cell_lem : escaped_in ws at start (smaller (next_start (text_bytes ws at n) start) n) ≡ plain_cell ws at start j
  plain_cell_lem =
      let e : smaller (j + 1) n ≡ j + 1 = omega (arith, h) in
      ap (λ (x : ℕ). escaped_in ws at start (smaller x n)) plain_next ∙ ap (escaped_in ws at start) e ∙ p.cell

  pub plain_size : (width m : ℕ) (a : Option ℕ)
      → 13 + length (to_right width (decimal m)) + (j - start)
      ≡ length (line_line width m a (escaped_in ws at start (smaller (next_start (text_bytes ws at n) start) n)))
  plain_size width m a =
      omega (
        arith,
        line-length width m a (escaped_in ws at start (smaller (next_start (text_bytes ws at n) start) n)),
        ap length plain_cell_lem,
        length-append (span_bytes ws at start j) (0x5C ∷ 0x6E ∷ []),
        span-length ws at start j,
      )
