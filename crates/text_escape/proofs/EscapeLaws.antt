-- Escapes, character by character. Assumes nothing.
use mathlib.Core.Path.{◌≡◌, refl, sym, ap, ap₂, subst, ◌∙◌}
use mathlib.Core.Bool.{Bool, true, false}
use mathlib.Core.Logic.{◌⊎◌, inl, inr}
use mathlib.Core.List.{List, [], ◌∷◌, ◌++◌, flat_map, append_assoc}
use mathlib.Core.Option
use mathlib.Core.Option.{Option, none, some}
use Prim.Native.Nat.{ℕ, zero, suc, ◌+◌, ◌-◌, ◌*◌, ◌/◌, ◌%◌, ◌≤◌, ◌<◌}
use native.Mathlib.Omega.{arith}
use lib.ListN.{length, drop, get_or, length-append, length-drop, drop_of_length-le}
use borrow.Author.Rules.{part_to_end}
use lib.Seq.{drop-drop}
use lib.Dec.{ltb, eqb}
use borrow.Author.Tests.{ltb-true, ltb-false, lt-ltb, le-leb, lt-leb, ne_eqb, eqb-true, eqb-false}
use Rattle.std.specs.Prelude.{if◌then◌else◌}
use Rattle.format.specs.Basics.{ascii, and_then, is_some}
use Rattle.format.specs.Utf8.{char_at, scalars_from, is_utf8, is_between}
use Rattle.format.specs.TextWriter.{lower_digit, numeral, escape_char, escape}
use Rattle.format.proofs.ListLaws.{by_test}
use Rattle.format.proofs.Utf8Laws.{char_reads, scalar_bound}
use Rattle.writing.specs.Written.{Put}
use Rattle.writing.proofs.Parts.{State, Emits, rest, has_room}
use Rattle.text_numerals.proofs.DigitLaws.{right_length, right_full}
use Rattle.format.specs.Digits.{digits_of}
use Rattle.format.specs.TextWriter.{hex4, decimal, memory_text, to_right, table_div, text_line}
use Rattle.text_escape.specs.Rows.{line_line, row_head, newline_bytes}
use Rattle.utf8.proofs.CharLaws.{front, char_inside}
use Rattle.word_chars.proofs.CharLaws.{char_low, byte_is, size_is}
use Rattle.word_chars.specs.Stretches.{Stretch}
use Rattle.word_chars.proofs.StretchLaws.{stretch_within}
use Rattle.object.specs.Texts.{text_byte, text_bytes, span_bytes, EachByte}
use Rattle.object.proofs.ByteLaws.{bytes-here, bytes-end}
use Rattle.std.specs.Prelude as prelude
use Rattle.std.specs.Prelude.{Some, None, ◌≢◌}
use Rattle.text_escape.specs.Escaped.{letter_of, Letter, code_text, escape_next, escape_from, escaped_in, Itself}

-- THE NUMERAL: six digits hold a scalar value
numeral-short : (k : ℕ) (n : ℕ) (ds : List ℕ) → n < 16 → numeral k 16 n ds ≡ lower_digit n ∷ ds
unfolding numeral
numeral-short zero n ds h = refl
numeral-short (suc k) n ds h = rw (lt-ltb n 16 h)

abbrev Agree : ℕ → ℕ → ℕ → Type 0
Agree k m b = (n : ℕ) (ds : List ℕ) → n < b → numeral k 16 n ds ≡ numeral m 16 n ds

agree_more : (k m b : ℕ) → Agree k m b → Agree (suc k) (suc m) (16 * b)
unfolding numeral
agree_more k m b f n ds h =
    by_test (ltb n 16) (λ t. rw t) (λ t. rw t (f (n / 16) (lower_digit (n % 16) ∷ ds) (omega arith)))

agree : Agree 5 19 (16 * (16 * (16 * (16 * (16 * 16)))))
unfolding numeral
agree =
    agree_more 4 18 _ (agree_more 3 17 _ (agree_more 2 16 _
    (agree_more 1 15 _ (agree_more 0 14 16 (λ n ds h. sym (numeral-short 14 n ds h))))))

pub length-numeral : (k base n : ℕ) (ds : List ℕ) → length (numeral k base n ds) ≤ suc k + length ds
unfolding numeral
length-numeral zero base n ds = omega arith
length-numeral (suc k) base n ds =
    by_test (ltb n base) (λ t. rw t (omega arith))
    (λ t. rw t (omega (arith, length-numeral k base (n / base) (lower_digit (n % base) ∷ ds))))

pub hex_short : (n : ℕ) → length (numeral 19 16 n []) ≤ 20
hex_short n = length-numeral 19 16 n []

pub code-length : (c : ℕ) → length (code_text c) ≡ length (numeral 19 16 c []) + 4
unfolding code_text ascii
code-length c = let e = length-append (numeral 19 16 c []) (0x7D ∷ []) in omega arith

-- what the code's answer says of a letter
pub has_letter : (n : ℕ) (r : prelude.Option ℕ) → Letter n r → prelude.is_some r ≡ true → n ≢ 0
has_letter n (Some l) h e = h.1
has_letter n None h e = let z : true ≡ false = sym e in cc

pub lacks_letter : (n : ℕ) (r : prelude.Option ℕ) → Letter n r → prelude.is_some r ≡ false → n ≡ 0
lacks_letter n (Some l) h e = let z : true ≡ false = e in cc
lacks_letter n None h e = sym h

-- A CHARACTER, by its letter
abbrev lettered : Bool → Bool → Bool → Bool → Bool → Bool → ℕ
lettered t1 t2 t3 t4 t5 t6 =
    if t1 then 0x74 else if t2 then 0x72 else if t3 then 0x6E else if t4 then 0x27 else if t5 then 0x22 else if t6 then 0x5C else 0

abbrev escaped : Bool → Bool → Bool → Bool → Bool → Bool → List ℕ → List ℕ
escaped t1 t2 t3 t4 t5 t6 rest =
    if t1 then ascii "\\t" else if t2 then ascii "\\r" else if t3 then ascii "\\n" else if t4 then ascii "\\'"
    else if t5 then ascii "\\\"" else if t6 then ascii "\\\\" else rest

with_letter :
    (t1 t2 t3 t4 t5 t6 : Bool) (rest : List ℕ) → (lettered t1 t2 t3 t4 t5 t6 ≡ 0 → ⊥)
    → escaped t1 t2 t3 t4 t5 t6 rest ≡ 0x5C ∷ lettered t1 t2 t3 t4 t5 t6 ∷ []
unfolding ascii
with_letter true t2 t3 t4 t5 t6 rest n = refl
with_letter false true t3 t4 t5 t6 rest n = refl
with_letter false false true t4 t5 t6 rest n = refl
with_letter false false false true t5 t6 rest n = refl
with_letter false false false false true t6 rest n = refl
with_letter false false false false false true rest n = refl
with_letter false false false false false false rest n = absurd (n refl)

no_letter : (t1 t2 t3 t4 t5 t6 : Bool) (rest : List ℕ) → lettered t1 t2 t3 t4 t5 t6 ≡ 0 → escaped t1 t2 t3 t4 t5 t6 rest ≡ rest
no_letter true t2 t3 t4 t5 t6 rest e = absurd (omega arith)
no_letter false true t3 t4 t5 t6 rest e = absurd (omega arith)
no_letter false false true t4 t5 t6 rest e = absurd (omega arith)
no_letter false false false true t5 t6 rest e = absurd (omega arith)
no_letter false false false false true t6 rest e = absurd (omega arith)
no_letter false false false false false true rest e = absurd (omega arith)
no_letter false false false false false false rest e = refl

abbrev others : ℕ → List ℕ
others c = if is_between 0x20 0x7E c then c ∷ [] else ascii "\\u{" ++ numeral 5 16 c [] ++ ascii "}"

module _ (c : ℕ) where
  pub by_letter : (letter_of c ≡ 0 → ⊥) → escape_char c ≡ 0x5C ∷ letter_of c ∷ []
  unfolding escape_char letter_of
  by_letter n = with_letter (eqb c 0x09) (eqb c 0x0D) (eqb c 0x0A) (eqb c 0x27) (eqb c 0x22) (eqb c 0x5C) (others c) n

  module _ (e : letter_of c ≡ 0) where
    without : escape_char c ≡ others c
    unfolding escape_char letter_of
    without = no_letter (eqb c 0x09) (eqb c 0x0D) (eqb c 0x0A) (eqb c 0x27) (eqb c 0x22) (eqb c 0x5C) (others c) e

    pub plain : 0x20 ≤ c → c ≤ 0x7E → escape_char c ≡ c ∷ []
    plain h k = without ∙ simp (le-leb 0x20 c h, le-leb c 0x7E k)

    pub by_code : c < 0x110000 → (c < 0x20) ⊎ (0x7E < c) → escape_char c ≡ code_text c
    unfolding code_text
    by_code s o =
        without ∙ ap (λ (t : Bool). if t then c ∷ [] else ascii "\\u{" ++ numeral 5 16 c [] ++ ascii "}") (outside o)
        ∙ ap (λ (ds : List ℕ). ascii "\\u{" ++ ds ++ ascii "}") (agree c [] (omega arith))
      where
        outside : (c < 0x20) ⊎ (0x7E < c) → is_between 0x20 0x7E c ≡ false
        outside (inl h) = simp (lt-leb 0x20 c h)
        outside (inr h) = simp (le-leb 0x20 c (omega arith), lt-leb c 0x7E h)

-- BYTE BY BYTE
from-drop : (k : ℕ) (bs : List ℕ) → escape_from k bs ≡ escape_from 0 (drop k bs)
unfolding escape_from
from-drop zero bs = refl
from-drop (suc k) [] = refl
from-drop (suc k) (b ∷ bs) = from-drop k bs

pub escaped_end : (t : List ℕ) (i : ℕ) → length t ≤ i → escape_from 0 (drop i t) ≡ []
unfolding escape_from
escaped_end t i h = ap (escape_from 0) (drop_of_length-le t h)

-- a character, and what follows it
module _ (t : List ℕ) (i : ℕ) (h : i < length t) where
  here : (o : Option (ℕ × ℕ)) → o ≡ char_at (drop i t) → escape_from 0 (drop i t) ≡ escape_next o (λ n. escape_from n (drop (i + 1) t))
  unfolding escape_from
  here o e =
      let f = front 0 t i h in
      ap (escape_from 0) f ∙ ap (λ (x : Option (ℕ × ℕ)). escape_next x (λ n. escape_from n (drop (i + 1) t))) (ap char_at (sym f) ∙ sym e)

  pub escaped_none : none ≡ char_at (drop i t) → escape_from 0 (drop i t) ≡ []
  escaped_none e = here none e

  module _ (v n : ℕ) (e : some (v, n) ≡ char_at (drop i t)) where
    pub escaped_char : escape_from 0 (drop i t) ≡ escape_char v ++ escape_from 0 (drop (i + (n + 1)) t)
    escaped_char =
        let k : i + 1 + n ≡ i + (n + 1) = omega arith in
        here (some (v, n)) e
        ∙ ap (λ (r : List ℕ). escape_char v ++ r)
        (from-drop n (drop (i + 1) t) ∙ ap (escape_from 0) (drop-drop n (i + 1) t ∙ ap (λ (j : ℕ). drop j t) k))

    -- it is a scalar value
    pub char_bound : v < 0x110000
    char_bound = let f = front 0 t i h in scalar_bound v (char_reads _ (drop (i + 1) t) v n (ap char_at (sym f) ∙ sym e)).2

  -- a byte that stands for itself
  pub escaped_plain : (b : ℕ) → b ≡ get_or t i 0 → (b < 0x80) × (escape_char b ≡ b ∷ [])
      → escape_from 0 (drop i t) ≡ b ∷ escape_from 0 (drop (i + 1) t)
  escaped_plain b e p =
      let k : i + (0 + 1) ≡ i + 1 = omega arith in
      escaped_char b 0 (char_low t i b h e p.0)
      ∙ ap₂ (λ (x y : List ℕ). x ++ y) p.1 (ap (λ (j : ℕ). escape_from 0 (drop j t)) k)

-- a character that is there, and none
module _ (t : List ℕ) (i : ℕ) where
  pub escaped_some : (v n : ℕ) → some (v, n) ≡ char_at (drop i t) → escape_from 0 (drop i t) ≡ escape_char v ++ escape_from 0 (drop (i + (n + 1)) t)
  escaped_some v n e = escaped_char t i (omega (arith, char_inside t i v n (sym e))) v n e

  pub some_bound : (v n : ℕ) → some (v, n) ≡ char_at (drop i t) → v < 0x110000
  some_bound v n e = char_bound t i (omega (arith, char_inside t i v n (sym e))) v n e

  pub escaped_nothing : none ≡ char_at (drop i t) → escape_from 0 (drop i t) ≡ []
  escaped_nothing e =
      by_test (ltb i (length t)) (λ l. escaped_none t i (ltb-true i (length t) l) e) (λ l. escaped_end t i (ltb-false i (length t) l))

-- bytes that stand for themselves, and what follows them
module _ (ws : List ℕ) (at end : ℕ) where
  plain_each :
      (d i j : ℕ) → i + d ≡ j → j ≤ end → EachByte Itself ws at i j
      → escaped_in ws at i end ≡ span_bytes ws at i j ++ escaped_in ws at j end
  plain_each zero i j e h f =
      let q : i ≡ j = omega arith in
      ap (λ (k : ℕ). escaped_in ws at k end) q ∙ ap (λ (xs : List ℕ). xs ++ escaped_in ws at j end) (sym (bytes-end ws at i j (omega arith)))
  plain_each (suc d) i j e h f =
      let l : i < end = omega arith in
      escaped_plain (text_bytes ws at end) i (omega (arith, size_is ws at end)) (text_byte ws at i) (byte_is ws at end i l)
      (f i (omega arith) (omega arith))
      ∙ ap (λ (xs : List ℕ). text_byte ws at i ∷ xs) (plain_each d (i + 1) j (omega arith) h (λ k a b. f k (omega arith) b))
      ∙ ap (λ (xs : List ℕ). xs ++ escaped_in ws at j end) (sym (bytes-here ws at i j (omega arith)))

  pub escaped_stretch :
      (i j : ℕ) → i < end → Stretch Itself ws at end i j → escaped_in ws at i end ≡ span_bytes ws at i j ++ escaped_in ws at j end
  escaped_stretch i j h f =
      plain_each (j - i) i j (omega (arith, f.0)) (stretch_within Itself ws at end i j f h) f.2

-- A LINE of bytes that stand for themselves and a newline
newline_escaped : escape_char 10 ≡ 0x5C ∷ 0x6E ∷ []
unfolding escape_char ascii
newline_escaped = refl

pub itself-other : (b : ℕ) → Itself b → b ≡ 10 → ⊥
itself-other b p e =
    let q : length (escape_char 10) ≡ 1 = ap length (subst (λ (x : ℕ). escape_char x ≡ x ∷ []) e p.1) in
    omega (arith, q, ap length newline_escaped)

pub escaped_line :
    (ws : List ℕ) (at start j : ℕ) → start ≤ j → EachByte Itself ws at start j → text_byte ws at j ≡ 10
    → escaped_in ws at start (j + 1) ≡ span_bytes ws at start j ++ (0x5C ∷ 0x6E ∷ [])
escaped_line ws at start j h f e =
    let t = text_bytes ws at (j + 1) in
    let size : length t ≡ j + 1 = size_is ws at (j + 1) in
    let there : j < length t = omega (arith, size) in
    let b : text_byte ws at j ≡ get_or t j 0 = byte_is ws at (j + 1) j (omega arith) in
    plain_each ws at (j + 1) (j - start) start j (omega arith) (omega arith) f
    ∙ ap (λ (xs : List ℕ). span_bytes ws at start j ++ xs)
    (escaped_char t j there 10 0 (char_low t j 10 there (sym e ∙ b) (omega arith))
    ∙ ap₂ (λ (x y : List ℕ). x ++ y) newline_escaped (escaped_end t (j + (0 + 1)) (omega (arith, size))))

-- NO CHARACTER TAKES MORE THAN TEN BYTES
others-short : (t : Bool) (c : ℕ) → length (if t then c ∷ [] else ascii "\\u{" ++ numeral 5 16 c [] ++ ascii "}") ≤ 10
unfolding ascii
others-short true c = omega arith
others-short false c = let e = length-append (numeral 5 16 c []) (0x7D ∷ []) in omega (arith, length-numeral 5 16 c [])

char_short : (c : ℕ) → length (escape_char c) ≤ 10
char_short c =
    by_test (eqb (letter_of c) 0)
    (λ u. omega (arith, ap length (without c (eqb-true (letter_of c) 0 u)), others-short (is_between 0x20 0x7E c) c))
    (λ u. omega (arith, ap length (by_letter c (eqb-false (letter_of c) 0 u))))

from-short : (k : ℕ) (bs : List ℕ) → length (escape_from k bs) ≤ 10 * length bs
unfolding escape_from
from-short k [] = omega arith
from-short (suc k) (b ∷ bs) = omega (arith, from-short k bs)
from-short zero (b ∷ bs) = go (char_at (b ∷ bs)) (λ n. from-short n bs)
  where
    go : (o : Option (ℕ × ℕ)) → ((n : ℕ) → length (escape_from n bs) ≤ 10 * length bs)
        → length (escape_next o (λ n. escape_from n bs)) ≤ 10 * length (b ∷ bs)
    go none ih = omega arith
    go (some c) ih =
        omega (arith, length-append (escape_char c.0) (escape_from c.1 bs), char_short c.0, ih c.1)

pub escaped_short : (t : List ℕ) (i : ℕ) → length (escape_from 0 (drop i t)) ≤ 10 * (length t - i)
escaped_short t i = omega (arith, from-short 0 (drop i t), length-drop i t)

-- THE ESCAPES OF A TEXT are those of its scalar values
scalars_escaped : (k : ℕ) (bs cs : List ℕ) → scalars_from k bs ≡ some cs → escape_from k bs ≡ flat_map escape_char cs
unfolding escape_from scalars_from flat_map
scalars_escaped k [] cs e = let q : [] ≡ cs = cc in ap (flat_map escape_char) q
scalars_escaped (suc k) (b ∷ bs) cs e = scalars_escaped k bs cs e
scalars_escaped zero (b ∷ bs) cs e = go (char_at (b ∷ bs)) e (λ n ds. scalars_escaped n bs ds)
  where
    never : {P : Type 0} {xs : List ℕ} → none ≡ some xs → P
    never e = let z : ◌≡◌ {A = ℕ} 0 1 = cc in absurd (omega arith)

    on : (v n : ℕ) (o : Option (List ℕ)) → scalars_from n bs ≡ o → (and_then o λ ds. some (v ∷ ds)) ≡ some cs
        → ((n : ℕ) (ds : List ℕ) → scalars_from n bs ≡ some ds → escape_from n bs ≡ flat_map escape_char ds)
        → escape_char v ++ escape_from n bs ≡ flat_map escape_char cs
    on v n none q e ih = never e
    on v n (some ds) q e ih =
        let w : v ∷ ds ≡ cs = cc in ap (λ (r : List ℕ). escape_char v ++ r) (ih n ds q) ∙ ap (flat_map escape_char) w

    go : (o : Option (ℕ × ℕ)) → (and_then o λ c. and_then (scalars_from c.1 bs) λ ds. some (c.0 ∷ ds)) ≡ some cs
        → ((n : ℕ) (ds : List ℕ) → scalars_from n bs ≡ some ds → escape_from n bs ≡ flat_map escape_char ds)
        → escape_next o (λ n. escape_from n bs) ≡ flat_map escape_char cs
    go none e ih = never e
    go (some c) e ih = on c.0 c.1 (scalars_from c.1 bs) refl e ih

pub escape_is : (t : List ℕ) → is_utf8 t ≡ true → escape_from 0 t ≡ escape t
unfolding escape is_utf8 is_some
escape_is t e = go (scalars_from 0 t) refl e
  where
    go : (o : Option (List ℕ)) → scalars_from 0 t ≡ o → is_some o ≡ true → escape_from 0 t ≡ flat_map escape_char (Option.get_or o [])
    go none q e = let z : ◌≡◌ {A = ℕ} 0 1 = cc in absurd (omega arith)
    go (some cs) q e = scalars_escaped 0 t cs q

-- THE LETTER, test by test
module _ (c : ℕ) where
  pub letter_none :
      (c ≡ 0x09 → ⊥) → (c ≡ 0x0D → ⊥) → (c ≡ 0x0A → ⊥) → (c ≡ 0x27 → ⊥) → (c ≡ 0x22 → ⊥) → (c ≡ 0x5C → ⊥) → 0 ≡ letter_of c
  unfolding letter_of
  letter_none a b d e f g =
      sym (simp (ne_eqb c 0x09 a, ne_eqb c 0x0D b, ne_eqb c 0x0A d, ne_eqb c 0x27 e, ne_eqb c 0x22 f, ne_eqb c 0x5C g))

-- a part by another name of its bytes
pub put_as : {a b : List ℕ} (room : List ℕ) (r : ℕ) (after : List ℕ) → a ≡ b → Put a room r after → Put b room r after
put_as room r after e p = subst (λ (x : List ℕ). Put x room r after) e p

-- a part that is to come has room in the rest that is lent
pub part_room :
    {whole room left : List ℕ} {s : State ℕ} (f : Emits whole room left s) (part left' : List ℕ) → left ≡ part ++ left'
    → length part ≤ length (rest s)
part_room {s} f part left' e =
    rw (part_to_end s.out s.at, length-drop) (omega (arith, has_room f, ap length e, length-append part left'))

-- A ROW OF THE LINE TABLE, cell by cell
pub column-wide : (width : ℕ) (t : List ℕ) → length t ≤ width → width ≡ length (to_right width t)
column-wide width t h = sym (right_length width t h)

pub column_narrow : (width : ℕ) (t : List ℕ) → width < length t → length t ≡ length (to_right width t)
column_narrow width t h = ap length (right_full width t (omega arith))

pub memory_length : (o : Option ℕ) → length (memory_text o) ≡ 4
unfolding ascii hex4 digits_of
memory_length none = refl
memory_length (some v) = refl

-- five cells and a newline
pub line-parts : (a b c d e : List ℕ) → text_line (a ++ b ++ c ++ d ++ e) ≡ a ++ (b ++ (c ++ (d ++ text_line e)))
line-parts a b c d e =
    append_assoc (a ++ b ++ c ++ d) e (0x0A ∷ []) ∙ append_assoc (a ++ b ++ c) d (text_line e) ∙ append_assoc (a ++ b) c (d ++ text_line e)
    ∙ append_assoc a b (c ++ (d ++ text_line e))

pub line-length : (width number : ℕ) (o : Option ℕ) (cell : List ℕ)
    → length (line_line width number o cell) ≡ 11 + length (to_right width (decimal number)) + length cell
unfolding ascii
line-length width number o cell =
    let a = to_right width (decimal number) in
    let m = memory_text o in
    omega (
      arith,
      ap length (line-parts a table_div m table_div cell),
      length-append a (table_div ++ (m ++ (table_div ++ text_line cell))),
      length-append m (table_div ++ text_line cell),
      length-append cell (0x0A ∷ []),
      memory_length o,
    )

-- up to the last cell, and that with its newline
pub row-parts : (width number : ℕ) (o : Option ℕ) (cell : List ℕ)
    → line_line width number o cell ≡ row_head width number o ++ text_line cell
row-parts width number o cell =
    let a = to_right width (decimal number) in
    let m = memory_text o in
    line-parts a table_div m table_div cell ∙ regroup a table_div m table_div (text_line cell)
  where
    regroup : (a b c d e : List ℕ) → a ++ (b ++ (c ++ (d ++ e))) ≡ a ++ (b ++ (c ++ d)) ++ e
    regroup a b c d e = simp append_assoc

pub plain_parts : (span : List ℕ) → text_line (span ++ (0x5C ∷ 0x6E ∷ [])) ≡ span ++ newline_bytes
plain_parts span = append_assoc span (0x5C ∷ 0x6E ∷ []) (0x0A ∷ [])
