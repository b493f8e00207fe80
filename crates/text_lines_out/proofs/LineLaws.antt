-- A source line by line. Assumes nothing.
use mathlib.Core.Path.{◌≡◌, refl, sym, ap, ap₂, subst, ◌∙◌}
use mathlib.Core.Bool.{true, false}
use mathlib.Core.List.{List, [], ◌∷◌, ◌++◌, map, flat_map, append-nil, append_assoc}
use mathlib.Core.Option.{Option, none, some}
use Prim.Native.Nat.{min, max, ℕ, zero, suc, ◌+◌, ◌-◌, ◌^◌, ◌≤◌, ◌<◌}
use native.Mathlib.Omega.{arith}
use native.Mathlib.Numerals.{add-one}
use lib.ListN.{length, take, drop, get_or, length-append, length-map, length-drop, take-append-drop, drop_of_length-le}
use lib.Seq.{drop-drop, get_or-drop, take_all, drop-cons, take_at, drop_at, length-take-le}
use lib.Dec.{leb}
use borrow.Author.Tests.{le-leb, lt-leb, leb-true, leb-false, le-ltb}
use Rattle.format.specs.Basics.{Outcome, refused, given, given_or, ◌>>=◌, and_then, is_some, ascii}
use Rattle.format.specs.Utf8.{char_at, scalars_from, is_utf8, characters}
use Rattle.format.specs.ObjectFile.{LineBlock}
use Rattle.format.specs.Source.{Span, line_count, raw_line_span, span_bytes}
use Rattle.format.specs.TextWriter.{Row, plain_rows, source_cell, escape, text_line, line_row, line_header, spaces, to_left, table_div}
use Rattle.format.proofs.ListLaws.{by_test}
use Rattle.format.proofs.Utf8Laws.{char_one, char_ascii, char_reads}
use Rattle.source_info.specs.Passing.{span, span_from}
use Rattle.source_info.proofs.LineLaws.{span-start, span-other, span_stop, span_pass, span-end, span-past}
use Rattle.word_chars.specs.Stretches.{Other}
use Rattle.word_chars.proofs.CharLaws.{size_is, byte_is}
use Rattle.object.specs.Access.{address_in, line_block_at}
use Rattle.object.specs.Bodies.{body_at}
use Rattle.object.proofs.BodyLaws.{body_fits, body_out}
use Rattle.object.proofs.ByteLaws.{body_word}
use Rattle.object.specs.Texts.{text_byte, bytes_from, text_bytes, EachByte}
use Rattle.text_escape.specs.Escaped.{escape_from, escaped_in}
use Rattle.text_escape.specs.Rows.{line_line}
use Rattle.text_escape.proofs.EscapeLaws.{escape_is, line-parts}
use Rattle.text_numerals.proofs.DigitLaws.{spaces-length}
use Rattle.text_lines_out.specs.Merge.{smaller, block_rows, straight}
use Rattle.text_lines_out.specs.Lines.{line_from, At, Next, rows_text}
use Rattle.text_lines_out.specs.Runs.{row, address_from, run_rows}

-- UTF-8 UP TO AN ASCII BYTE, and past it
module _ (b : ℕ) (ys : List ℕ) (low : b < 0x80) where
  abbrev Both : ℕ → List ℕ → Type 0
  Both k xs = (is_some (scalars_from k (xs ++ b ∷ [])) ≡ true) × (is_some (scalars_from 0 ys) ≡ true)

  kept : (o : Option (List ℕ)) (c : ℕ) → is_some (and_then o λ cs. some (c ∷ cs)) ≡ is_some o
  unfolding is_some
  kept none c = refl
  kept (some cs) c = refl

  parts : (xs : List ℕ) (k : ℕ) → k ≤ length xs → is_some (scalars_from k (xs ++ b ∷ ys)) ≡ true → Both k xs
  unfolding scalars_from
  parts [] zero h e =
      let c = char_one b ys low in
      let q : is_some (and_then (scalars_from 0 ys) λ cs. some (b ∷ cs)) ≡ true =
      ap (λ (o : Option (ℕ × ℕ)). is_some (and_then o λ c. and_then (scalars_from c.1 ys) λ cs. some (c.0 ∷ cs))) (sym c) ∙ e in
      let one : is_some (scalars_from 0 (b ∷ [])) ≡ true =
      ap (λ (o : Option (ℕ × ℕ)). is_some (and_then o λ c. and_then (scalars_from c.1 []) λ cs. some (c.0 ∷ cs))) (char_one b [] low)
      ∙ kept (scalars_from 0 []) b ∙ (unfold is_some in refl) in
      (one, sym (kept (scalars_from 0 ys) b) ∙ q)
  parts [] (suc k) h e = absurd (omega arith)
  parts (x ∷ xs) (suc k) h e = parts xs k (omega arith) e
  parts (x ∷ xs) zero h e =
      go (char_at (x ∷ xs)) refl
      (ap (λ (o : Option (ℕ × ℕ)). is_some (and_then o λ c. and_then (scalars_from c.1 (xs ++ b ∷ ys)) λ cs. some (c.0 ∷ cs)))
      (sym (char_ascii x xs ys b low)) ∙ e)
      (λ n l q. parts xs n l q)
    where
      go : (o : Option (ℕ × ℕ)) → char_at (x ∷ xs) ≡ o
          → is_some (and_then o λ c. and_then (scalars_from c.1 (xs ++ b ∷ ys)) λ cs. some (c.0 ∷ cs)) ≡ true
          → ((n : ℕ) → n ≤ length xs → is_some (scalars_from n (xs ++ b ∷ ys)) ≡ true → Both n xs) → Both 0 (x ∷ xs)
      go none c q ih = unfold is_some in let z : ◌≡◌ {A = ℕ} 0 1 = cc in absurd (omega arith)
      go (some v) c q ih =
          let r = char_reads x xs v.0 v.1 c in
          let i = ih v.1 r.1 (sym (kept (scalars_from v.1 (xs ++ b ∷ ys)) v.0) ∙ q) in (
            ap (λ (o : Option (ℕ × ℕ)). is_some (and_then o λ c. and_then (scalars_from c.1 (xs ++ b ∷ [])) λ cs. some (c.0 ∷ cs)))
                (char_ascii x xs [] b low ∙ c)
                ∙ kept (scalars_from v.1 (xs ++ b ∷ [])) v.0 ∙ i.0,
            i.1,
          )

-- at place k
split_take : (xs ys : List ℕ) (b k : ℕ) → length xs ≡ k → take (k + 1) (xs ++ b ∷ ys) ≡ xs ++ b ∷ []
split_take xs ys b k e =
    let n : k + 1 ≡ length (xs ++ b ∷ []) = omega (arith, length-append xs (b ∷ [])) in
    ap (take (k + 1)) (sym (append_assoc xs (b ∷ []) ys)) ∙ take_at (xs ++ b ∷ []) ys (k + 1) (sym n)

split_drop : (xs ys : List ℕ) (b k : ℕ) → length xs ≡ k → drop (k + 1) (xs ++ b ∷ ys) ≡ ys
split_drop xs ys b k e =
    let n : k + 1 ≡ length (xs ++ b ∷ []) = omega (arith, length-append xs (b ∷ [])) in
    ap (drop (k + 1)) (sym (append_assoc xs (b ∷ []) ys)) ∙ drop_at (xs ++ b ∷ []) ys (k + 1) (sym n)

utf8_split :
    (t : List ℕ) (k : ℕ) → k < length t → get_or t k 0 ≡ 10 → is_utf8 t ≡ true → (is_utf8 (take (k + 1) t) ≡ true) ×
    (is_utf8 (drop (k + 1) t) ≡ true)
unfolding is_utf8
utf8_split t k h e u =
    let xs = take k t in
    let ys = drop (suc k) t in
    let n : length xs ≡ k = length-take-le k t (omega arith) in
    let q : t ≡ xs ++ 10 ∷ ys = sym (take-append-drop k t)
    ∙ ap (λ (r : List ℕ). xs ++ r) (drop-cons t k 0 h ∙ ap (λ (b : ℕ). b ∷ ys) e) in
    let r = parts 10 ys (omega arith) xs 0 (omega arith) (ap is_utf8 (sym q) ∙ u) in
    (ap is_utf8 (ap (take (k + 1)) q ∙ split_take xs ys 10 k n) ∙ r.0, ap is_utf8 (ap (drop (k + 1)) q ∙ split_drop xs ys 10 k n) ∙ r.1)

utf8_nothing : is_utf8 [] ≡ true
unfolding is_utf8 scalars_from is_some
utf8_nothing = refl

-- FROM A LINE TO THE NEXT
from-inside : (s : List ℕ) (start k : ℕ) → start ≤ length s → line_from s start k ≡ span_from start start k (drop start s)
unfolding line_from
from-inside s start k h = rw (le-leb start (length s) h)

from_outside : (s : List ℕ) (start k : ℕ) → length s < start → line_from s start k ≡ refused 5
unfolding line_from
from_outside s start k h = rw (lt-leb start (length s) h)

-- what is passed of a line has no newline
abbrev pub Passing : List ℕ → ℕ → ℕ → Type 0
Passing s start i =
    (start ≤ i) × (start ≤ length s → i ≤ length s) × ((k : ℕ) → span_from start i k (drop i s) ≡ span_from start start k (drop start s))

module _ (s : List ℕ) (start i : ℕ) (p : Passing s start i) where
  pub pass_on : i < length s → (get_or s i 0 ≡ 10 → ⊥) → Passing s start (i + 1)
  pass_on h n = let a = p.0 in (omega arith, λ l. omega arith, λ k. span-other start i k s h n ∙ p.2 k)

  pub next_newline : i < length s → get_or s i 0 ≡ 10 → Next s start (i + 1)
  next_newline h e =
      let a : start ≤ i = p.0 in
      let l : start ≤ length s = omega arith in
      let m : i + 1 - (i + 1 - length s) ≡ i + 1 = omega arith in
      let t = drop start s in
      let j : ℕ = i - start in
      let w : start + j ≡ i = omega arith in
      let there : j < length t = omega (arith, length-drop start s) in
      let newline : get_or t j 0 ≡ 10 = get_or-drop start s j 0 ∙ ap (λ (k : ℕ). get_or s k 0) w ∙ e in
      let size : smaller (i + 1) (length s) - start ≡ j + 1 = omega arith in
      let rest : drop (j + 1) t ≡ drop (i + 1) s = drop-drop (j + 1) start s
      ∙ ap (λ (k : ℕ). drop k s) (let z : start + (j + 1) ≡ i + 1 = omega arith in z) in
      record {
        near = omega arith;
        on = λ z. omega arith;
        past = λ z. absurd (omega arith);
        here = λ z. ap (span start) m ∙ span_stop start i 0 s h e refl ∙ p.2 0 ∙ sym (from-inside s start 0 l);
        later = λ k.
            let z : k ≡ suc k - 1 = omega arith in
            from-inside s (i + 1) k (omega arith) ∙ ap (λ (x : ℕ). span_from (i + 1) (i + 1) x (drop (i + 1) s)) z
            ∙ span_pass start i (suc k) s h e (λ y. omega arith) ∙ p.2 (suc k) ∙ sym (from-inside s start (suc k) l);
        whole = λ u.
            let v = utf8_split t j there newline u in
            (ap (λ (k : ℕ). is_utf8 (take k t)) size ∙ v.0, ap is_utf8 (sym rest) ∙ v.1);
      }

  pub next-end : length s ≤ i → Next s start (length s + 1)
  next-end h =
      let n : ℕ = length s in
      let m : n + 1 - (n + 1 - n) ≡ n = omega arith in
      let over : (k : ℕ) → line_from s (n + 1) k ≡ refused 5 = λ k. from_outside s (n + 1) k (omega arith) in
      let none : drop (n + 1) s ≡ [] = drop_of_length-le s (let z : length s ≤ n + 1 = omega arith in z) in
      record {
        near = omega arith;
        on = λ z. omega arith;
        past = λ z. refl;
        here = λ z.
            let y : n ≡ i = let g = p.1 z in omega arith in
            ap (span start) (m ∙ y) ∙ span-end start i 0 s y refl ∙ p.2 0 ∙ sym (from-inside s start 0 z);
        later = λ k.
            over k
            ∙ by_test (leb start n)
            (λ t. let z = leb-true start n t in
            let y : n ≡ i = let g = p.1 z in omega arith in
            span-past start i (suc k) s y (λ x. omega arith) ∙ p.2 (suc k) ∙ sym (from-inside s start (suc k) z))
            (λ t. sym (from_outside s start (suc k) (leb-false start n t)));
        whole = λ u.
            let all : take (smaller (n + 1) n - start) (drop start s) ≡ drop start s =
            take_all (smaller (n + 1) n - start) (drop start s) (omega (arith, length-drop start s)) in
            (ap is_utf8 all ∙ u, ap is_utf8 none ∙ utf8_nothing);
      }

pub passing_start : (s : List ℕ) (start : ℕ) → Passing s start start
passing_start s start = (omega arith, λ h. h, λ k. refl)

-- a stretch without a newline is passed at once
module _ (ws : List ℕ) (at n start : ℕ) where
  abbrev text : List ℕ
  text = text_bytes ws at n

  pass_each : (d : ℕ) → start + d ≤ n → EachByte Other ws at start (start + d) → Passing text start (start + d)
  pass_each zero h f = let e : start ≡ start + 0 = omega arith in subst (Passing text start) e (passing_start text start)
  pass_each (suc d) h f =
      let e : start + d + 1 ≡ start + suc d = omega arith in
      let l : start + d < n = omega arith in
      subst (Passing text start) e
      (pass_on text start (start + d) (pass_each d (omega arith) (λ k a b. f k a (omega arith))) (omega (arith, size_is ws at n, l))
      (λ z. f (start + d) (omega arith) (omega arith) (byte_is ws at n (start + d) l ∙ z)))

-- line 0, and from line to line
pub at_start : (s : List ℕ) → is_utf8 s ≡ true → At s 0 0
at_start s u = record {
  spans = λ k. let e : k ≡ 0 + k = omega arith in from-inside s 0 k (omega arith) ∙ span-start s k ∙ ap (raw_line_span s) e;
  sound = u;
  near = omega arith;
}

pub at_next : (s : List ℕ) (m start next : ℕ) → At s m start → Next s start next → At s (m + 1) next
at_next s m start next a n = record {
  spans = λ k. let e : m + suc k ≡ m + 1 + k = omega arith in n.later k ∙ a.spans (suc k) ∙ ap (raw_line_span s) e;
  sound = (n.whole a.sound).1;
  near = n.near;
}

-- THE CELL of a line
none_escaped : escape_from 0 [] ≡ []
unfolding escape_from
none_escaped = refl

escape-none : (k : ℕ) → escape_from 0 (take k []) ≡ escape_from 0 []
escape-none zero = refl
escape-none (suc k) = refl

pub cell_is :
    (s : List ℕ) (m start next : ℕ) → At s m start → Next s start next
    → escape_from 0 (take (smaller next (length s) - start) (drop start s)) ≡ source_cell s m
unfolding source_cell escape_from
cell_is s m start next a n =
    let e : ℕ = smaller next (length s) in
    let z : m + 0 ≡ m = omega arith in
    let cell : Outcome Span → List ℕ = λ o. given_or (o >>= λ r. given (escape (span_bytes s r))) [] in
    let raw : line_from s start 0 ≡ raw_line_span s m = a.spans 0 ∙ ap (raw_line_span s) z in
    by_test (leb start (length s))
    (λ t. let h = leb-true start (length s) t in
    escape_is (take (e - start) (drop start s)) (n.whole a.sound).0 ∙ ap cell (n.here h ∙ raw))
    (λ t. let h = leb-false start (length s) t in
    ap (λ (r : List ℕ). escape_from 0 (take (e - start) r)) (drop_of_length-le s (let q : length s ≤ start = omega arith in q))
    ∙ escape-none (e - start) ∙ none_escaped
    ∙ ap cell (sym (from_outside s start 0 h) ∙ raw))

-- A ROW by the bytes of its line in words
bytes_drop : (ws : List ℕ) (at j i m : ℕ) → i ≤ m → drop i (bytes_from ws at j m) ≡ bytes_from ws at (j + i) (m - i)
unfolding bytes_from
bytes_drop ws at j zero m h = let e : j ≡ j + 0 = omega arith in let f : m ≡ m - 0 = omega arith in ap₂ (bytes_from ws at) e f
bytes_drop ws at j (suc i) zero h = absurd (omega arith)
bytes_drop ws at j (suc i) (suc m) h =
    let e : suc j + i ≡ j + suc i = omega arith in
    let f : m - i ≡ suc m - suc i = omega arith in bytes_drop ws at (suc j) i m (omega arith) ∙ ap₂ (bytes_from ws at) e f

bytes_take : (ws : List ℕ) (at j k m : ℕ) → k ≤ m → take k (bytes_from ws at j m) ≡ bytes_from ws at j k
unfolding bytes_from
bytes_take ws at j zero m h = refl
bytes_take ws at j (suc k) zero h = absurd (omega arith)
bytes_take ws at j (suc k) (suc m) h = ap (λ t. text_byte ws at j ∷ t) (bytes_take ws at (suc j) k m (omega arith))

bytes-part : (ws : List ℕ) (at a e n : ℕ) → a ≤ e → e ≤ n → drop a (text_bytes ws at e) ≡ take (e - a) (drop a (text_bytes ws at n))
bytes-part ws at a e n h k =
    sym
    (ap (take (e - a)) (bytes_drop ws at 0 a n (omega arith)) ∙ bytes_take ws at (0 + a) (e - a) (n - a) (omega arith)
    ∙ sym (bytes_drop ws at 0 a e h))

pub row_is :
    (ws : List ℕ) (at n width m start next end : ℕ) (a : Option ℕ) → At (text_bytes ws at n) m start → Next (text_bytes ws at n) start next
    → end ≡ smaller next n → line_line width m a (escaped_in ws at start end) ≡ rows_text width (text_bytes ws at n) (row m a ∷ [])
unfolding rows_text flat_map
row_is ws at n width m start next end a h k e =
    let s = text_bytes ws at n in
    let z : length s ≡ n = size_is ws at n in
    let q : end ≡ smaller next (length s) = e ∙ ap (smaller next) (sym z) in
    let cell : escaped_in ws at start end ≡ source_cell s m =
    by_test (leb start (length s))
    (λ t. let g = leb-true start (length s) t in
    ap (escape_from 0) (bytes-part ws at start end n (omega (arith, q, k.on g)) (omega arith))
    ∙ ap (λ (x : ℕ). escape_from 0 (take (x - start) (drop start s))) q ∙ cell_is s m start next h k)
    (λ t. let g = leb-false start (length s) t in
    let short : length (text_bytes ws at end) ≤ start = omega (arith, size_is ws at end) in
    ap (escape_from 0) (drop_of_length-le (text_bytes ws at end) short)
    ∙ sym (ap (λ (r : List ℕ). escape_from 0 (take (smaller next (length s) - start) r)) (drop_of_length-le s
    (let y : length s ≤ start = omega arith in y)) ∙ escape-none (smaller next (length s) - start))
    ∙ cell_is s m start next h k) in
    ap (line_line width m a) cell ∙ sym (append-nil (line_line width m a (source_cell s m)))

-- A RUN OF ROWS, row by row
module _ (width : ℕ) (s : List ℕ) (first : ℕ) (f : ℕ → Option ℕ) (k count : ℕ) where
  pub run-next : k < count → rows_text width s (run_rows first f k (count - k))
      ≡ rows_text width s (row (first + k) (f k) ∷ []) ++ rows_text width s (run_rows first f (k + 1) (count - (k + 1)))
  unfolding rows_text run_rows flat_map
  run-next h =
      let e : count - k ≡ suc (count - (k + 1)) = omega arith in
      let one = text_line (line_row width (source_cell s) (row (first + k) (f k))) in
      ap (λ (n : ℕ). rows_text width s (run_rows first f k n)) e
      ∙ ap (λ (j : ℕ). one ++ rows_text width s (run_rows first f j (count - (k + 1)))) (sym (add-one k))
      ∙ ap (λ (r : List ℕ). r ++ rows_text width s (run_rows first f (k + 1) (count - (k + 1)))) (sym (append-nil one))

  pub run_end_lem : count ≤ k → rows_text width s (run_rows first f k (count - k)) ≡ []
  unfolding rows_text run_rows flat_map
  run_end_lem h = let e : count - k ≡ 0 = omega arith in ap (λ (n : ℕ). rows_text width s (run_rows first f k n)) e

-- past the last line nothing more is to find, whatever the number
raw_beyond : (s : List ℕ) (i : ℕ) → line_count s ≤ i → raw_line_span s i ≡ refused 5
unfolding raw_line_span
raw_beyond s i h = rw (le-ltb i (line_count s) h)

pub at_beyond : (s : List ℕ) (m start : ℕ) → At s (smaller m (line_count s)) start → At s m start
at_beyond s m start a =
    by_test (leb m (line_count s))
    (λ t. let l = leb-true m (line_count s) t in
    let e : smaller m (line_count s) ≡ m = omega arith in subst (λ (i : ℕ). At s i start) e a)
    (λ t. let l = leb-false m (line_count s) t in
    record {
      spans = λ k. a.spans k ∙ raw_beyond s (smaller m (line_count s) + k) (omega arith) ∙ sym (raw_beyond s (m + k) (omega arith));
      sound = a.sound;
      near = a.near;
    })

pub at_back : (s : List ℕ) (m start : ℕ) → At s m start → At s (smaller m (line_count s)) start
at_back s m start a =
    by_test (leb m (line_count s))
    (λ t. let l = leb-true m (line_count s) t in
    let e : m ≡ smaller m (line_count s) = omega arith in subst (λ (i : ℕ). At s i start) e a)
    (λ t. let l = leb-false m (line_count s) t in
    record {
      spans = λ k. a.spans k ∙ raw_beyond s (m + k) (omega arith) ∙ sym (raw_beyond s (smaller m (line_count s) + k) (omega arith));
      sound = a.sound;
      near = a.near;
    })

-- RUNS AND ROWS
run_none : (first : ℕ) (ws : List ℕ) (place k n : ℕ) → run_rows first (address_from false ws place) k n ≡ plain_rows (first + k) n
unfolding run_rows plain_rows
run_none first ws place k zero = refl
run_none first ws place k (suc n) =
    let e : first + suc k ≡ suc (first + k) = omega arith in
    ap (λ (r : List Row). row (first + k) none ∷ r) (run_none first ws place (suc k) n ∙ ap (λ (i : ℕ). plain_rows i n) e)

pub run_plain : (first : ℕ) (ws : List ℕ) (place n : ℕ) → run_rows first (address_from false ws place) 0 n ≡ plain_rows first n
run_plain first ws place n = let e : first + 0 ≡ first = omega arith in run_none first ws place 0 n ∙ ap (λ (i : ℕ). plain_rows i n) e

run_some :
    (first : ℕ) (f : ℕ → Option ℕ) (k : ℕ) (xs : List ℕ) → ((j : ℕ) → j < length xs → f (k + j) ≡ some (get_or xs j 0))
    → run_rows first f k (length xs) ≡ block_rows (first + k) xs
unfolding run_rows block_rows
run_some first f k [] h = refl
run_some first f k (x ∷ xs) h =
    let e : first + suc k ≡ suc (first + k) = omega arith in
    let z : k + 0 ≡ k = omega arith in
    ap (λ (o : Option ℕ). row (first + k) o ∷ run_rows first f (suc k) (length xs)) (ap f (sym z) ∙ h 0 (omega arith))
    ∙ ap (λ (r : List Row). row (first + k) (some x) ∷ r)
    (run_some first f (suc k) xs (λ j l. let y : suc k + j ≡ k + suc j = omega arith in ap f y ∙ h (suc j) (omega arith))
    ∙ ap (λ (i : ℕ). block_rows i xs) e)

-- the addresses of a line block from its words
pub run-block :
    (first : ℕ) (ws : List ℕ) (place : ℕ) (xs : List ℕ) → ((j : ℕ) → j < length xs → address_in (get_or ws (place + j) 0) ≡ get_or xs j 0)
    → run_rows first (address_from true ws place) 0 (length xs) ≡ block_rows first xs
run-block first ws place xs h =
    let e : first + 0 ≡ first = omega arith in
    run_some first (address_from true ws place) 0 xs
    (λ j l. let z : 0 + j ≡ j = omega arith in ap (address_from true ws place) z ∙ ap some (h j l))
    ∙ ap (λ (i : ℕ). block_rows i xs) e

-- of numbers
less-smaller : (k d : ℕ) → k - smaller d k ≡ k - d
less-smaller k d = omega arith

smaller_below : (d k j : ℕ) → j < k - d → smaller d k ≡ d
smaller_below d k j h = omega arith

sum_below : (d k j : ℕ) → j < k - d → d + j < k
sum_below d k j h = omega arith

regroup : (a d j : ℕ) → a + d + j ≡ a + (d + j)
regroup a d j = omega arith

smaller-left : (a b : ℕ) → smaller a b ≤ a
smaller-left a b = omega arith

pub smaller_right : (a b : ℕ) → smaller a b ≤ b
smaller_right a b = omega arith

under : (i : ℕ) {a b : ℕ} → i < a → a ≤ b → i < b
under i h k = omega arith

-- THE ADDRESSES OF A LINE BLOCK that are left, by their words
take_at_place : (n : ℕ) (xs : List ℕ) (j : ℕ) → j < n → get_or (take n xs) j 0 ≡ get_or xs j 0
take_at_place zero xs j h = absurd (omega arith)
take_at_place (suc n) [] j h = refl
take_at_place (suc n) (x ∷ xs) zero h = refl
take_at_place (suc n) (x ∷ xs) (suc j) h = take_at_place n xs j (omega arith)

pub map_at_place : (xs : List ℕ) (j : ℕ) → j < length xs → get_or (map address_in xs) j 0 ≡ address_in (get_or xs j 0)
map_at_place [] j h = absurd (omega arith)
map_at_place (x ∷ xs) zero h = refl
map_at_place (x ∷ xs) (suc j) h = map_at_place xs j (omega arith)

module _ (ws : List ℕ) (at wraps : ℕ) where
  abbrev block : LineBlock
  block = line_block_at ws at

  abbrev body : List ℕ
  body = body_at ws (at + 1 + 3)

  abbrev unwrapped : List ℕ
  unwrapped = straight block

  abbrev these : List ℕ
  these = drop (wraps - block.first) unwrapped

  kept-length : length unwrapped ≡ smaller (length body) (2 ^ 64 - block.first)
  kept-length =
      let n : ℕ = 2 ^ 64 - block.first in
      let m = length-map body address_in in
      by_test (leb n (length body))
      (λ t. let h = leb-true n (length body) t in length-take-le n block.addresses (omega arith) ∙ omega arith)
      (λ t. let h = leb-false n (length body) t in ap length (take_all n block.addresses (omega arith)) ∙ m ∙ omega arith)

  -- the words of a block lie in the object
  pub place-fits :
      (d k skip : ℕ) → k ≡ smaller (length body)
      (2 ^ 64 - block.first) → skip ≡ smaller d k → at < length ws → at + 1 + 3 + skip ≤ length ws + 4
  place-fits d k skip e q h =
      let u : skip ≤ k = subst (λ (x : ℕ). x ≤ k) (sym q) (smaller_right d k) in
      let v : k ≤ length body = subst (λ (x : ℕ). x ≤ length body) (sym e) (smaller-left (length body) (2 ^ 64 - block.first)) in
      by_test (leb (at + 1 + 3) (length ws))
      (λ t. let w = leb-true (at + 1 + 3) (length ws) t in omega (arith, body_fits ws (at + 1 + 3) w))
      (λ t. let w = leb-false (at + 1 + 3) (length ws) t in
      let z : length body ≡ 0 = ap length (body_out ws (at + 1 + 3) (let y : length ws ≤ at + 1 + 3 = omega arith in y)) in omega arith)

  module _ (skip k : ℕ) (e : k ≡ smaller (length body) (2 ^ 64 - block.first)) (q : skip ≡ smaller (wraps - block.first) k) where
    abbrev d : ℕ
    d = wraps - block.first

    left_over : length these ≡ k - d
    left_over = length-drop d unwrapped ∙ ap (λ (x : ℕ). x - d) (kept-length ∙ sym e)

    pub block_size : k - skip ≡ length these
    block_size = ap (λ (x : ℕ). k - x) q ∙ less-smaller k d ∙ sym left_over

    here_is : (j : ℕ) → j < length these → address_in (get_or ws (at + 1 + 3 + skip + j) 0) ≡ get_or these j 0
    here_is j h =
        let g : j < k - d = subst (λ (n : ℕ). j < n) left_over h in
        let i : ℕ = d + j in
        let z : skip ≡ d = q ∙ smaller_below d k j g in
        let y : at + 1 + 3 + skip + j ≡ at + 1 + 3 + i = ap (λ (x : ℕ). at + 1 + 3 + x + j) z ∙ regroup (at + 1 + 3) d j in
        let u : i < k = sum_below d k j g in
        let b : i < length body = under i (subst (λ (n : ℕ). i < n) e u) (smaller-left (length body) (2 ^ 64 - block.first)) in
        let c : i < 2 ^ 64 - block.first = under i (subst (λ (n : ℕ). i < n) e u)
        (smaller_right (length body) (2 ^ 64 - block.first)) in
        ap (λ (x : ℕ). address_in (get_or ws x 0)) y ∙ ap address_in (sym (body_word ws (at + 1 + 3) i b)) ∙ sym (map_at_place body i b)
        ∙ sym (take_at_place (2 ^ 64 - block.first) block.addresses i c) ∙ sym (get_or-drop d unwrapped j 0)

    pub block_run : (first : ℕ) → first ≡ wraps + (block.first - wraps)
        → run_rows first (address_from true ws (at + 1 + 3 + skip)) 0 (k - skip) ≡ block_rows (wraps + (block.first - wraps)) these
    block_run first f =
        ap (run_rows first (address_from true ws (at + 1 + 3 + skip)) 0) block_size ∙ run-block first ws (at + 1 + 3 + skip) these here_is
        ∙ ap (λ (i : ℕ). block_rows i these) f

-- THE HEADER
abbrev pub after_name : List ℕ
after_name = ascii " | ADDR | SOURCE" ++ 0x0A ∷ []

pub header-parts : (width : ℕ) → text_line (line_header width) ≡ ascii "LINE" ++ (spaces (width - 4) ++ after_name)
unfolding ascii characters
header-parts width =
    line-parts (to_left width (ascii "LINE")) table_div (ascii "ADDR") table_div (ascii "SOURCE")
    ∙ append_assoc (ascii "LINE") (spaces (width - 4)) after_name

pub header-length : (width : ℕ) → length (text_line (line_header width)) ≡ 21 + (width - 4)
unfolding ascii
header-length width =
    omega (arith, ap length (header-parts width), length-append (spaces (width - 4)) after_name, spaces-length (width - 4))

-- the library's smaller and larger of two
pub min-is : (a b : ℕ) → min a b ≡ smaller a b
min-is a b = omega arith

-- the second number first
pub max-is : (a b : ℕ) → max b a ≡ a + (b - a)
max-is a b = omega arith
