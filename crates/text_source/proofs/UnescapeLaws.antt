-- Escapes at a cursor.
-- Assumes nothing.
use Rattle.std.proofs.Common.{◌≡◌, ℕ, zero, suc, ◌+◌, ◌-◌, ◌*◌, ◌%◌, ◌^◌, ◌<◌, ◌≤◌, Bool, true, false, ◌&&◌, eqb, ltb, leb, List, [], ◌∷◌, ◌++◌, map, length, get_or, take, drop, sym, refl, ap, ◌∙◌, subst, true≢false, append-nil, pow-suc, add-one, arith, length-append, length-drop, drop-drop, ltb-false, ltb-true, le-ltb, lt-ltb, eq-eqb, ne_eqb, eqb-true, le-leb}
use mathlib.Core.List.{flat_map}
use mathlib.Core.Option.{Option, none, some}
use native.Mathlib.Nat.{pow-zero, pow-le-pow_right}
use borrow.Author.Tests.{lt-leb, eqb-false}
use Rattle.std.specs.Prelude.{if◌then◌else◌}
use Rattle.format.specs.Basics.{Outcome, refused, given, ◌>>=◌, ask, begins_with, ascii, is_some}
use Rattle.format.proofs.ListLaws.{flat_map-append}
use Rattle.format.specs.Tokens.{tokens}
use Rattle.format.specs.Utf8.{encode_scalar, is_scalar, is_between}
use Rattle.format.specs.TextReader.{digit_value, digits_from, hex_digits, scalar_of, unicode_escape, after_backslash, unescape_at, unescape}
use Rattle.format.proofs.Laws.{tokens-step, tokens_stop}
use Rattle.text_cells.specs.Cells.{digit_or16}
use Rattle.trim.specs.Span.{part}
use Rattle.text_lines.proofs.LineLaws.{length_part}
use Rattle.text_source.specs.Stream.{bytes_left, source_from, at_most}
use Rattle.text_source.proofs.StreamLaws.{part_front, part_end, part_most, at_most_lem}
use Rattle.format.specs.Calls.{Measured}
use Rattle.std.specs.Prelude as std
use Rattle.std.specs.Prelude.{Some, None, Result, Ok, Err}
use Rattle.units.specs.declared.refusal.Refusal.{Refusal}
use Rattle.text_source.specs.Unescape.{escape_byte, ends_escape, EscapeAt, tokens_left, Plain, TokenAt, TokenIs, NextToken, NextDigits, NextEscape, UnescapedIs}
use Rattle.text_source.specs.declared.Source.{Source}
use Rattle.text_source.specs.declared.Token.{Token}
use Rattle.text_source.specs.declared.Token.TheVariants as tk
use Rattle.text_lines.proofs.TestLaws.{by_test, and_no, within-yes, within_low, within-high}

digit_no : (b : ℕ) → 16 ≤ digit_or16 b → digit_value 16 b ≡ none
unfolding digit_value digit_or16
digit_no b h = simp (le-ltb (digit_or16 b) 16 h)

digit_yes : (b : ℕ) → digit_or16 b < 16 → digit_value 16 b ≡ some (digit_or16 b)
unfolding digit_value digit_or16
digit_yes b h = simp (lt-ltb (digit_or16 b) 16 h)

-- after n digits of `all` that give v, `rest` is left
pub record Digits (all rest : List ℕ) (n v : ℕ) : Type 0 where
  pub few : n ≤ 6
  pub small : v < 16 ^ n
  pub count : hex_digits all ≡ n + hex_digits rest
  pub value : (m : ℕ) → digits_from 16 0 (take (n + m) all) ≡ digits_from 16 v (take m rest)
  pub left : drop n all ≡ rest

pub digits_begin : (all : List ℕ) → Digits all all 0 0
digits_begin all =
    record {
      few = omega arith;
      small = rw pow-zero (omega arith);
      count = omega arith;
      value = λ m. let k : 0 + m ≡ m = omega arith in ap (λ (j : ℕ). digits_from 16 0 (take j all)) k;
      left = refl;
    }

hex_more : (b : ℕ) (bs : List ℕ) → digit_or16 b < 16 → hex_digits (b ∷ bs) ≡ suc (hex_digits bs)
unfolding hex_digits is_some
hex_more b bs h = rw (digit_yes b h)

hex_stop : (b : ℕ) (bs : List ℕ) → 16 ≤ digit_or16 b → hex_digits (b ∷ bs) ≡ 0
unfolding hex_digits is_some
hex_stop b bs h = rw (digit_no b h)

from_more : (v m b : ℕ) (bs : List ℕ) → digit_or16 b < 16 → digits_from 16 v (take (suc m) (b ∷ bs)) ≡ digits_from 16 (v * 16 + digit_or16 b) (take m bs)
unfolding digits_from
from_more v m b bs h = rw (digit_yes b h)

pub digits_on : (all rest : List ℕ) (n v b : ℕ) (bs : List ℕ) (d : ℕ) → Digits all rest n v → rest ≡ b ∷ bs → d ≡ digit_or16 b → d < 16 → (n ≡ 6 → ⊥) → Digits all bs (n + 1) (v * 16 + d)
digits_on all rest n v b bs d i e q h ne =
    let h2 : digit_or16 b < 16 = rw q at h in
    let f : n ≤ 6 = i.few in
    let s : v < 16 ^ n = i.small in
    let p : 16 ^ (n + 1) ≡ 16 ^ n * 16 = rw add-one (pow-suc 16 n) in
    record {
      few = omega arith;
      small = rw p (omega arith);
      count = i.count ∙ ap (λ (r : List ℕ). n + hex_digits r) e ∙ ap (λ (x : ℕ). n + x) (hex_more b bs h2) ∙ (let k : n + suc (hex_digits bs) ≡ n + 1 + hex_digits bs = omega arith in k);
      value = λ m.
          (let k : n + 1 + m ≡ n + suc m = omega arith in ap (λ (j : ℕ). digits_from 16 0 (take j all)) k)
          ∙ i.value (suc m) ∙ ap (λ (r : List ℕ). digits_from 16 v (take (suc m) r)) e ∙ from_more v m b bs h2 ∙ ap (λ (x : ℕ). digits_from 16 (v * 16 + x) (take m bs)) (sym q);
      left = sym (drop-drop 1 n all) ∙ ap (drop 1) (i.left ∙ e);
    }

-- the two questions of an escape
uni : (all : List ℕ) (b : Bool) → (is_between 1 6 (hex_digits all) && begins_with (125 ∷ []) (drop (1 + hex_digits all) (123 ∷ all))) ≡ b
    → unicode_escape (123 ∷ all) ≡ (ask 30 b >>= λ _. scalar_of (digits_from 16 0 (take (hex_digits all) all)) >>= λ c. given (encode_scalar c, 1 + (1 + hex_digits all + 1)))
unfolding unicode_escape begins_with ascii
uni all b e = rw e

pub uni_brace : (b : ℕ) (bs : List ℕ) → (b ≡ 123 → ⊥) → unicode_escape (b ∷ bs) ≡ refused 30
unfolding unicode_escape begins_with ascii
uni_brace b bs h = rw (ne_eqb 123 b (λ q. h (sym q)))

pub uni_none : unicode_escape [] ≡ refused 30
unfolding unicode_escape begins_with ascii
uni_none = refl

starts_no : (b : ℕ) (bs : List ℕ) → (b ≡ 125 → ⊥) → begins_with (125 ∷ []) (b ∷ bs) ≡ false
unfolding begins_with
starts_no b bs h = rw (ne_eqb 125 b (λ q. h (sym q)))

starts-yes : (b : ℕ) (bs : List ℕ) → b ≡ 125 → begins_with (125 ∷ []) (b ∷ bs) ≡ true
unfolding begins_with
starts-yes b bs h = rw h

starts_none : begins_with (125 ∷ []) [] ≡ false
unfolding begins_with
starts_none = refl

hex_end : hex_digits [] ≡ 0
unfolding hex_digits
hex_end = refl

from_end : (v : ℕ) → digits_from 16 v [] ≡ some v
unfolding digits_from
from_end v = refl

-- the byte after the digits
module _ (b n v : ℕ) where
  pub ends-other : (b ≡ 0x7D → ⊥) → false ≡ ends_escape b n v
  unfolding ends_escape
  ends-other h = simp (ne_eqb b 0x7D h)

  pub ends-empty : n ≡ 0 → false ≡ ends_escape b n v
  unfolding ends_escape
  ends-empty h = by_test (eqb b 0x7D) (λ t. simp (t, eq-eqb n 0 h)) (λ t. simp t)

  pub ends-scalar : b ≡ 0x7D → (n ≡ 0 → ⊥) → is_scalar v ≡ ends_escape b n v
  unfolding ends_escape
  ends-scalar h k = simp (eq-eqb b 0x7D h, ne_eqb n 0 k)

module _ (all rest : List ℕ) (n v : ℕ) (i : Digits all rest n v) where
  -- no digit comes next
  module _ (z : hex_digits rest ≡ 0) where
    size : hex_digits all ≡ n
    size = i.count ∙ ap (λ (x : ℕ). n + x) z ∙ (let k : n + 0 ≡ n = omega arith in k)

    after : drop (1 + hex_digits all) (123 ∷ all) ≡ rest
    after = (let k : 1 + hex_digits all ≡ suc n = omega (arith, size) in ap (λ (j : ℕ). drop j (123 ∷ all)) k) ∙ i.left

    whole : digits_from 16 0 (take (hex_digits all) all) ≡ some v
    whole = (let k : hex_digits all ≡ n + 0 = omega (arith, size) in ap (λ (j : ℕ). digits_from 16 0 (take j all)) k) ∙ i.value 0 ∙ from_end v

    pub uni_close : begins_with (125 ∷ []) rest ≡ false → unicode_escape (123 ∷ all) ≡ refused 30
    uni_close h = uni all false (ap (λ (r : List ℕ). is_between 1 6 (hex_digits all) && begins_with (125 ∷ []) r) after ∙ ap (λ (t : Bool). is_between 1 6 (hex_digits all) && t) h ∙ and_no (is_between 1 6 (hex_digits all)))

    pub uni_empty : n ≡ 0 → unicode_escape (123 ∷ all) ≡ refused 30
    uni_empty h = uni all false (simp (within_low 1 6 (hex_digits all) (omega (arith, size))))

    uni_scalar : (1 ≤ n) → begins_with (125 ∷ []) rest ≡ true → unicode_escape (123 ∷ all) ≡ (scalar_of (some v) >>= λ c. given (encode_scalar c, 1 + (1 + hex_digits all + 1)))
    uni_scalar l h =
        uni all true (simp (within-yes 1 6 (hex_digits all) (omega (arith, size)) (omega (arith, size, i.few))) (ap (begins_with (125 ∷ [])) after ∙ h))
        ∙ ap (λ (o : Option ℕ). scalar_of o >>= λ c. given (encode_scalar c, 1 + (1 + hex_digits all + 1))) whole

    pub uni_bad : (1 ≤ n) → begins_with (125 ∷ []) rest ≡ true → is_scalar v ≡ false → unicode_escape (123 ∷ all) ≡ refused 30
    uni_bad l h s = uni_scalar l h ∙ simp s

    pub uni_good : (1 ≤ n) → begins_with (125 ∷ []) rest ≡ true → is_scalar v ≡ true → unicode_escape (123 ∷ all) ≡ given (encode_scalar v, 1 + (1 + n + 1))
    uni_good l h s = uni_scalar l h ∙ simp s (ap (λ (x : ℕ). given (encode_scalar v, 1 + (1 + x + 1))) size)

  pub uni_long : (b : ℕ) (bs : List ℕ) → rest ≡ b ∷ bs → digit_or16 b < 16 → n ≡ 6 → unicode_escape (123 ∷ all) ≡ refused 30
  uni_long b bs e h z =
      let c : hex_digits all ≡ n + suc (hex_digits bs) = i.count ∙ ap (λ (r : List ℕ). n + hex_digits r) e ∙ ap (λ (x : ℕ). n + x) (hex_more b bs h) in
      uni all false (simp (within-high 1 6 (hex_digits all) (omega arith)))

  -- by the byte that comes next
  pub esc_none : rest ≡ [] → unicode_escape (123 ∷ all) ≡ refused 30
  esc_none e = uni_close (ap hex_digits e ∙ hex_end) (ap (begins_with (125 ∷ [])) e ∙ starts_none)

  module _ (b : ℕ) (bs : List ℕ) (e : rest ≡ b ∷ bs) (h : 16 ≤ digit_or16 b) where
    stop : hex_digits rest ≡ 0
    stop = ap hex_digits e ∙ hex_stop b bs h

    esc_other : (b ≡ 125 → ⊥) → unicode_escape (123 ∷ all) ≡ refused 30
    esc_other x = uni_close stop (ap (begins_with (125 ∷ [])) e ∙ starts_no b bs x)

    esc_empty : n ≡ 0 → unicode_escape (123 ∷ all) ≡ refused 30
    esc_empty z = uni_empty stop z

    module _ (x : b ≡ 125) (z : n ≡ 0 → ⊥) where
      close : begins_with (125 ∷ []) rest ≡ true
      close = ap (begins_with (125 ∷ [])) e ∙ starts-yes b bs x

      esc_bad : is_scalar v ≡ false → unicode_escape (123 ∷ all) ≡ refused 30
      esc_bad s = uni_bad stop (omega arith) close s

      esc_good : is_scalar v ≡ true → (k : ℕ) × (unicode_escape (123 ∷ all) ≡ given (encode_scalar v, 1 + (1 + k + 1))) × (drop (k + 1) all ≡ bs) × (is_scalar v ≡ true)
      esc_good s = (n, uni_good stop (omega arith) close s, sym (drop-drop 1 n all) ∙ ap (drop 1) (i.left ∙ e), s)

    -- whether it ends the escape
    pub esc_no : ends_escape b n v ≡ false → unicode_escape (123 ∷ all) ≡ refused 30
    esc_no s =
        by_test (eqb b 0x7D)
        (λ p. let x = eqb-true b 0x7D p in
        by_test (eqb n 0) (λ q. esc_empty (eqb-true n 0 q)) (λ q. let z = eqb-false n 0 q in esc_bad x z (ends-scalar b n v x z ∙ s)))
        (λ p. esc_other (eqb-false b 0x7D p))

    pub esc_yes : ends_escape b n v ≡ true → (k : ℕ) × (unicode_escape (123 ∷ all) ≡ given (encode_scalar v, 1 + (1 + k + 1))) × (drop (k + 1) all ≡ bs) × (is_scalar v ≡ true)
    esc_yes s =
        by_test (eqb b 0x7D)
        (λ p. let x = eqb-true b 0x7D p in
        by_test (eqb n 0) (λ q. absurd (true≢false (sym s ∙ sym (ends-empty b n v (eqb-true n 0 q)))))
        (λ q. let z = eqb-false n 0 q in esc_good x z (ends-scalar b n v x z ∙ s)))
        (λ p. absurd (true≢false (sym s ∙ sym (ends-other b n v (eqb-false b 0x7D p)))))

module _ (v : ℕ) where
  pub scalar-low : v < 0xD800 → is_scalar v ≡ true
  unfolding is_scalar
  scalar-low h = simp (lt-ltb v 0xD800 h)

  pub scalar-not : 0xD800 ≤ v → v < 0xE000 → is_scalar v ≡ false
  unfolding is_scalar
  scalar-not h k = simp (le-ltb v 0xD800 h, lt-leb 0xE000 v k)

  pub scalar-high : 0xE000 ≤ v → leb v 0x10FFFF ≡ is_scalar v
  unfolding is_scalar
  scalar-high h = simp (le-ltb v 0xD800 (omega arith), le-leb 0xE000 v h)

pub digits_small : (all rest : List ℕ) (n v : ℕ) → Digits all rest n v → (n ≡ 6 → ⊥) → v < 1048576
digits_small all rest n v i h =
    let f : n ≤ 6 = i.few in
    let k : n ≤ 5 = omega arith in
    let p : 16 ^ n ≤ 16 ^ 5 = pow-le-pow_right (omega arith) k in
    let s : v < 16 ^ n = i.small in
    omega arith

-- after a backslash
pub no_letter : (e : ℕ) → (e ≡ 0x74 → ⊥) → (e ≡ 0x72 → ⊥) → (e ≡ 0x6E → ⊥) → (e ≡ 0x27 → ⊥) → (e ≡ 0x22 → ⊥) → (e ≡ 0x5C → ⊥) → 0 ≡ escape_byte e
unfolding escape_byte
no_letter e a b c d f g =
    simp (ne_eqb 0x74 e (λ q. a (sym q)), ne_eqb 0x72 e (λ q. b (sym q)), ne_eqb 0x6E e (λ q. c (sym q)), ne_eqb 0x27 e (λ q. d (sym q)), ne_eqb 0x22 e (λ q. f (sym q)), ne_eqb 0x5C e (λ q. g (sym q)))

starts1 : (x b : ℕ) (bs : List ℕ) → begins_with (x ∷ []) (b ∷ bs) ≡ eqb x b
unfolding begins_with
starts1 x b bs = by_test (eqb x b) (λ t. simp t) (λ t. simp t)

module _ (e : ℕ) (bs : List ℕ) where
  chain : after_backslash (e ∷ bs)
      ≡ (if eqb 0x74 e then given (0x09 ∷ [], 1)
      else if eqb 0x72 e then given (0x0D ∷ [], 1)
      else if eqb 0x6E e then given (0x0A ∷ [], 1)
      else if eqb 0x27 e then given (0x27 ∷ [], 1)
      else if eqb 0x22 e then given (0x22 ∷ [], 1)
      else if eqb 0x5C e then given (0x5C ∷ [], 1)
      else if eqb 0x75 e then unicode_escape bs
      else refused 30)
  unfolding after_backslash ascii
  chain = rw (starts1 0x74 e bs, starts1 0x72 e bs, starts1 0x6E e bs, starts1 0x27 e bs, starts1 0x22 e bs, starts1 0x5C e bs, starts1 0x75 e bs)

  pub after_plain : (escape_byte e ≡ 0 → ⊥) → after_backslash (e ∷ bs) ≡ given (escape_byte e ∷ [], 1)
  unfolding escape_byte
  after_plain h =
      chain
      ∙ by_test (eqb 0x74 e) (λ t. simp t)
      (λ t1. by_test (eqb 0x72 e) (λ t. simp (t1, t))
      (λ t2. by_test (eqb 0x6E e) (λ t. simp (t1, t2, t))
      (λ t3. by_test (eqb 0x27 e) (λ t. simp (t1, t2, t3, t))
      (λ t4. by_test (eqb 0x22 e) (λ t. simp (t1, t2, t3, t4, t))
      (λ t5. by_test (eqb 0x5C e) (λ t. simp (t1, t2, t3, t4, t5, t))
      (λ t6. absurd (h (simp (t1, t2, t3, t4, t5, t6)))))))))

  none_of : escape_byte e ≡ 0 → after_backslash (e ∷ bs) ≡ (if eqb 0x75 e then unicode_escape bs else refused 30)
  unfolding escape_byte
  none_of h =
      chain
      ∙ by_test (eqb 0x74 e) (λ t. absurd (no (simp t at h)))
      (λ t1. by_test (eqb 0x72 e) (λ t. absurd (no (simp (t1, t) at h)))
      (λ t2. by_test (eqb 0x6E e) (λ t. absurd (no (simp (t1, t2, t) at h)))
      (λ t3. by_test (eqb 0x27 e) (λ t. absurd (no (simp (t1, t2, t3, t) at h)))
      (λ t4. by_test (eqb 0x22 e) (λ t. absurd (no (simp (t1, t2, t3, t4, t) at h)))
      (λ t5. by_test (eqb 0x5C e) (λ t. absurd (no (simp (t1, t2, t3, t4, t5, t) at h)))
      (λ t6. simp (t1, t2, t3, t4, t5, t6)))))))
    where
      no : {n : ℕ} → suc n ≡ 0 → ⊥
      no q = omega arith

  pub after_u : escape_byte e ≡ 0 → e ≡ 0x75 → after_backslash (e ∷ bs) ≡ unicode_escape bs
  after_u h q = none_of h ∙ simp (eq-eqb 0x75 e (sym q))

  pub after-bad : escape_byte e ≡ 0 → (e ≡ 0x75 → ⊥) → after_backslash (e ∷ bs) ≡ refused 30
  after-bad h q = none_of h ∙ simp (ne_eqb 0x75 e (λ r. q (sym r)))

pub after_none : after_backslash [] ≡ refused 30
unfolding after_backslash
after_none = refl

-- tokens at a cursor
at_plain : (b : ℕ) (bs : List ℕ) → (b ≡ 0x5C → ⊥) → unescape_at (b ∷ bs) ≡ given (b ∷ [], 0)
unfolding unescape_at
at_plain b bs h = rw (ne_eqb b 0x5C h)

at_escape : (b : ℕ) (bs : List ℕ) → b ≡ 0x5C → unescape_at (b ∷ bs) ≡ after_backslash bs
unfolding unescape_at
at_escape b bs h = rw (eq-eqb b 0x5C h)

module _ (t : List ℕ) (c d : Source) (b : ℕ) (k : bytes_left t c ≡ b ∷ bytes_left t d) where
  pub token_plain : (b ≡ 0x5C → ⊥) → TokenAt t c (b ∷ []) d
  unfolding flat_map
  token_plain h =
      record {
        less = rw k (omega arith);
        parts = (b ∷ []) ∷ [];
        bytes = append-nil (b ∷ []);
        same = ap (tokens unescape_at 0) k ∙ tokens-step unescape_at b (bytes_left t d) (b ∷ []) 0 (at_plain b (bytes_left t d) h);
      }

  pub token_cut : b ≡ 0x5C → bytes_left t d ≡ [] → tokens_left t c ≡ refused 30
  token_cut h e = ap (tokens unescape_at 0) k ∙ tokens_stop unescape_at b (bytes_left t d) 30 (at_escape b (bytes_left t d) h ∙ ap after_backslash e ∙ after_none)

  module _ (h : b ≡ 0x5C) (e : ℕ) (f : Source) (j : bytes_left t d ≡ e ∷ bytes_left t f) where
    escape : unescape_at (b ∷ bytes_left t d) ≡ after_backslash (e ∷ bytes_left t f)
    escape = at_escape b (bytes_left t d) h ∙ ap after_backslash j

    pub token_byte : (x : ℕ) → x ≡ escape_byte e → (x ≡ 0 → ⊥) → TokenAt t c (x ∷ []) f
    unfolding flat_map
    token_byte x q z =
        record {
          less = rw (k, j) (omega arith);
          parts = (x ∷ []) ∷ [];
          bytes = append-nil (x ∷ []);
          same = ap (tokens unescape_at 0) k
              ∙ tokens-step unescape_at b (bytes_left t d) (x ∷ []) 1 (escape ∙ after_plain e (bytes_left t f) (λ y. z (q ∙ y)) ∙ ap (λ (y : ℕ). given (y ∷ [], 1)) (sym q))
              ∙ ap (λ (r : List ℕ). tokens unescape_at 0 (drop 1 r) >>= λ ts. given ((x ∷ []) ∷ ts)) j;
        }

    pub token_bad : 0 ≡ escape_byte e → (e ≡ 0x75 → ⊥) → tokens_left t c ≡ refused 30
    token_bad q z = ap (tokens unescape_at 0) k ∙ tokens_stop unescape_at b (bytes_left t d) 30 (escape ∙ after-bad e (bytes_left t f) (sym q) z)

    pub token_none : 0 ≡ escape_byte e → e ≡ 0x75 → unicode_escape (bytes_left t f) ≡ refused 30 → tokens_left t c ≡ refused 30
    token_none q z u = ap (tokens unescape_at 0) k ∙ tokens_stop unescape_at b (bytes_left t d) 30 (escape ∙ after_u e (bytes_left t f) (sym q) z ∙ u)

    pub token_scalar : (v : ℕ) (g : Source) → 0 ≡ escape_byte e → e ≡ 0x75 → EscapeAt t f v g → TokenAt t c (encode_scalar v) g × (is_scalar v ≡ true)
    unfolding flat_map
    token_scalar v g q z u =
        let s : 1 + u.bytes ≡ suc u.bytes = omega arith in (
          record {
            less = rw (k, j) (let w : length (bytes_left t g) ≡ length (bytes_left t f) - u.bytes = ap length (sym u.rest) ∙ length-drop u.bytes (bytes_left t f) in omega arith);
            parts = encode_scalar v ∷ [];
            bytes = append-nil (encode_scalar v);
            same = ap (tokens unescape_at 0) k
                ∙ tokens-step unescape_at b (bytes_left t d) (encode_scalar v) (1 + u.bytes) (escape ∙ after_u e (bytes_left t f) (sym q) z ∙ u.read)
                ∙ ap (λ (r : List ℕ). tokens unescape_at 0 (drop (1 + u.bytes) r) >>= λ ts. given (encode_scalar v ∷ ts)) j
                ∙ ap (λ (n : ℕ). tokens unescape_at 0 (drop n (e ∷ bytes_left t f)) >>= λ ts. given (encode_scalar v ∷ ts)) s
                ∙ ap (λ (r : List ℕ). tokens unescape_at 0 r >>= λ ts. given (encode_scalar v ∷ ts)) u.rest;
          },
          u.scalar,
        )

-- A PLAIN STRETCH
abbrev singles : List ℕ → List (List ℕ)
singles bs = map (λ b. b ∷ []) bs

singles_bytes : (bs : List ℕ) → flat_map (λ x. x) (singles bs) ≡ bs
unfolding flat_map
singles_bytes [] = refl
singles_bytes (b ∷ bs) = ap (λ (l : List ℕ). b ∷ l) (singles_bytes bs)

none_more : {A : Type 0} (o : Outcome (List A)) → o ≡ (o >>= λ ts. given ([] ++ ts))
none_more (refused n) = refl
none_more (given ts) = refl

one_more : {A : Type 0} (o : Outcome (List A)) (a : A) (xs : List A)
    → ((o >>= λ ts. given (xs ++ ts)) >>= λ ts. given (a ∷ ts)) ≡ (o >>= λ ts. given ((a ∷ xs) ++ ts))
one_more (refused n) a xs = refl
one_more (given ts) a xs = refl

module _ (t : List ℕ) (end : ℕ) (inside : end ≤ length t) (rest : List ℕ) where
  abbrev from : ℕ → Outcome (List (List ℕ))
  from at = tokens unescape_at 0 (part at end t ++ rest)

  stretch : (k at : ℕ) → at + k ≤ end → Plain t at (at + k) → from at ≡ (from (at + k) >>= λ ts. given (singles (part at (at + k) t) ++ ts))
  stretch zero at h p =
      let z : at + 0 ≡ at = omega arith in
      rw z (rw (part_end t at at (omega arith)) (none_more (from at)))
  stretch (suc k) at h p =
      let z : at + suc k ≡ at + 1 + k = omega arith in
      rw z
      (rw (part_front t at (at + 1 + k) (omega arith) (omega arith))
      (ap (λ (l : List ℕ). tokens unescape_at 0 (l ++ rest)) (part_front t at end (omega arith) inside)
      ∙ tokens-step unescape_at (get_or t at 0) (part (at + 1) end t ++ rest) (get_or t at 0 ∷ []) 0 (at_plain _ _ (p at (omega arith) (omega arith)))
      ∙ ap (λ (o : Outcome (List (List ℕ))). o >>= λ ts. given ((get_or t at 0 ∷ []) ∷ ts)) (stretch k (at + 1) (omega arith) (λ i a b. p i (omega arith) (omega arith)))
      ∙ one_more (from (at + 1 + k)) (get_or t at 0 ∷ []) (singles (part (at + 1) (at + 1 + k) t))))

pub token_stretch : (t : List ℕ) (c : Source) (e p : ℕ) → e ≡ at_most c.end (length t) → c.at < p → p ≤ e → Plain t c.at p
    → (c.at ≤ p) × (p ≤ length t) × TokenAt t c (part c.at p t) (record { at = p; end = e; next = c.next })
token_stretch t c e p q h l n =
    let w : e ≤ length t = subst (λ (x : ℕ). x ≤ length t) (sym q) (at_most_lem c.end (length t)) in
    let z : c.at + (p - c.at) ≡ p = omega arith in
    let b : bytes_left t c ≡ part c.at e t ++ source_from t c.next =
    ap (λ (x : List ℕ). x ++ source_from t c.next) (sym (part_most t c.at c.end) ∙ ap (λ (x : ℕ). part c.at x t) (sym q)) in (
      omega arith,
      omega arith,
      record {
        less = rw b (simp length-append (omega (arith, length_part c.at e t (omega arith) w, length_part p e t l w)));
        parts = singles (part c.at p t);
        bytes = singles_bytes (part c.at p t);
        same = ap (tokens unescape_at 0) b ∙ (rw z at (stretch t e w (source_from t c.next) (p - c.at) c.at (omega arith) (λ i x y. n i x (omega arith))));
      },
    )

-- the braces
pub escape_some : (t : List ℕ) (c d : Source) (b : ℕ) → bytes_left t c ≡ b ∷ bytes_left t d → b ≡ 0x7B → (v : ℕ) (g : Source) (n : ℕ) → unicode_escape (0x7B ∷ bytes_left t d) ≡ given (encode_scalar v, 1 + (1 + n + 1)) → drop (n + 1) (bytes_left t d) ≡ bytes_left t g → is_scalar v ≡ true → EscapeAt t c v g
escape_some t c d b k h v g n e r z =
    record {
      bytes = 1 + n + 1;
      read = ap unicode_escape (k ∙ ap (λ (x : ℕ). x ∷ bytes_left t d) h) ∙ e;
      rest = ap (drop (1 + n + 1)) k ∙ (let s : 1 + n + 1 ≡ suc (n + 1) = omega arith in ap (λ (m : ℕ). drop m (b ∷ bytes_left t d)) s) ∙ r;
      scalar = z;
    }

pub escape-bad : (t : List ℕ) (c d : Source) (b : ℕ) → bytes_left t c ≡ b ∷ bytes_left t d → b ≡ 0x7B → unicode_escape (0x7B ∷ bytes_left t d) ≡ refused 30 → unicode_escape (bytes_left t c) ≡ refused 30
escape-bad t c d b k h e = ap unicode_escape (k ∙ ap (λ (x : ℕ). x ∷ bytes_left t d) h) ∙ e

-- a scalar value's length
pub length-one : (v : ℕ) → v < 0x80 → 1 ≡ length (encode_scalar v)
unfolding encode_scalar
length-one v h = rw (lt-ltb v 0x80 h) refl

pub length_two : (v : ℕ) → 0x80 ≤ v → v < 0x800 → 2 ≡ length (encode_scalar v)
unfolding encode_scalar
length_two v g h = rw (le-ltb v 0x80 g, lt-ltb v 0x800 h) refl

pub length_three : (v : ℕ) → 0x800 ≤ v → v < 0x10000 → 3 ≡ length (encode_scalar v)
unfolding encode_scalar
length_three v g h = rw (le-ltb v 0x80 (omega arith), le-ltb v 0x800 g, lt-ltb v 0x10000 h) refl

pub length-four : (v : ℕ) → 0x10000 ≤ v → 4 ≡ length (encode_scalar v)
unfolding encode_scalar
length-four v g = rw (le-ltb v 0x80 (omega arith), le-ltb v 0x800 (omega arith), le-ltb v 0x10000 g) refl

-- what a source comes to from a place on, after n bytes: its number, and the length of all, as 64 bits count
abbrev pub bytes_of : List (List ℕ) → ℕ
bytes_of ts = length (flat_map (λ (x : List ℕ). x) ts)

abbrev pub counted_from : ℕ → Outcome (List (List ℕ)) → ℕ × ℕ
counted_from n (refused m) = (m, 0)
counted_from n (given ts) = (0, (n + bytes_of ts) % 2 ^ 64)

more_bytes : (xs ys : List (List ℕ)) (bs : List ℕ) → flat_map (λ x. x) xs ≡ bs → bytes_of (xs ++ ys) ≡ length bs + bytes_of ys
more_bytes xs ys bs e = ap length (flat_map-append (λ x. x) xs ys) ∙ length-append (flat_map (λ x. x) xs) (flat_map (λ x. x) ys) ∙ ap (λ (l : List ℕ). length l + bytes_of ys) e

pub counted-on : (t : List ℕ) (c : Source) (bs : List ℕ) (d : Source) → TokenAt t c bs d → (n k m : ℕ) → k ≡ length bs → m ≡ (n + k) % 2 ^ 64
    → counted_from m (tokens_left t d) ≡ counted_from n (tokens_left t c)
counted-on t c bs d w n k m e q = go (tokens_left t d) ∙ ap (counted_from n) (sym w.same)
  where
    go : (o : Outcome (List (List ℕ))) → counted_from m o ≡ counted_from n (o >>= λ ts. given (w.parts ++ ts))
    go (refused j) = refl
    go (given ts) =
        let z : (m + bytes_of ts) % 2 ^ 64 ≡ (n + bytes_of (w.parts ++ ts)) % 2 ^ 64 = omega (arith, q, e, more_bytes w.parts ts bs w.bytes) in
        ap (λ (x : ℕ). (0, x)) z

-- how many bytes a part has
abbrev pub token_length : Token → ℕ
token_length (tk.Stretch a e) = e - a
token_length (tk.Plain b) = 1
token_length (tk.Scalar v) = length (encode_scalar v)

pub counted-token : (t : List ℕ) (c : Source) (k : Token) (d : Source) → TokenIs t c k d → (n len m : ℕ) → len ≡ token_length k
    → m ≡ (n + len) % 2 ^ 64 → counted_from m (tokens_left t d) ≡ counted_from n (tokens_left t c)
counted-token t c (tk.Stretch a e) d w n len m q r = counted-on t c (part a e t) d w.2 n len m (q ∙ sym (length_part a e t w.0 w.1)) r
counted-token t c (tk.Plain b) d w n len m q r = counted-on t c (b ∷ []) d w n len m q r
counted-token t c (tk.Scalar v) d w n len m q r = counted-on t c (encode_scalar v) d w.0 n len m q r

pub counted-bad : (t : List ℕ) (c : Source) (n : ℕ) → tokens_left t c ≡ refused 30 → (30, 0) ≡ counted_from n (tokens_left t c)
counted-bad t c n e = sym (ap (counted_from n) e)

pub counted-end : (t : List ℕ) (c : Source) (n : ℕ) → n < 2 ^ 64 → bytes_left t c ≡ [] → (0, n) ≡ counted_from n (tokens_left t c)
unfolding tokens flat_map
counted-end t c n h e =
    let z : n ≡ (n + 0) % 2 ^ 64 = omega arith in
    ap (λ (x : ℕ). (0, x)) z ∙ sym (ap (λ (bs : List ℕ). counted_from n (tokens unescape_at 0 bs)) e)

pub counted-all : (bs : List ℕ) (r : Measured) → (r.number, r.len) ≡ counted_from 0 (tokens unescape_at 0 bs) → UnescapedIs (unescape bs) r
unfolding unescape
counted-all bs r = go (tokens unescape_at 0 bs)
  where
    go : (o : Outcome (List (List ℕ))) → (r.number, r.len) ≡ counted_from 0 o → UnescapedIs (o >>= λ ts. given (flat_map (λ (x : List ℕ). x) ts)) r
    go (refused m) e = (ap (λ (x : ℕ × ℕ). x.0) e, ap (λ (x : ℕ × ℕ). x.1) e)
    go (given ts) e =
        let z : (0 + bytes_of ts) % 2 ^ 64 ≡ bytes_of ts % 2 ^ 64 = omega arith in (ap (λ (x : ℕ × ℕ). x.0) e, ap (λ (x : ℕ × ℕ). x.1) e ∙ z)

pub escape_of : (t : List ℕ) (c d : Source) (b : ℕ) → bytes_left t c ≡ b ∷ bytes_left t d → b ≡ 0x7B → (r : std.Option (ℕ × Source)) → NextDigits t d r → NextEscape t c r
escape_of t c d b k h (Some p) i = escape_some t c d b k h p.0 p.1 i.0 i.1 i.2 i.3
escape_of t c d b k h None i = escape-bad t c d b k h i

-- one byte more
pub plain_more : (t : List ℕ) (a e : ℕ) → Plain t a e → (get_or t e 0 ≡ 0x5C → ⊥) → Plain t a (e + 1)
plain_more t a e h n i p q x =
    by_test (ltb i e) (λ w. h i p (ltb-true i e w) x) (λ w. let z : i ≡ e = omega (arith, ltb-false i e w) in n (ap (λ (j : ℕ). get_or t j 0) (sym z) ∙ x))

-- one stretch after another
pub plain_join : (t : List ℕ) (a m e : ℕ) → Plain t a m → Plain t m e → Plain t a e
plain_join t a m e f g i p q = by_test (ltb i m) (λ w. f i p (ltb-true i m w)) (λ w. g i (ltb-false i m w) q)

-- what is said of a cursor is said of each with the same bytes left
module _ (t : List ℕ) (c d : Source) (q : bytes_left t c ≡ bytes_left t d) where
  token_at : (bs : List ℕ) (e : Source) → TokenAt t d bs e → TokenAt t c bs e
  token_at bs e k =
      record { less = rw q k.less; parts = k.parts; bytes = k.bytes; same = ap (tokens unescape_at 0) q ∙ k.same }

  pub token_same : (k : Token) (e : Source) → TokenIs t d k e → TokenIs t c k e
  token_same (tk.Stretch a b) e w = (w.0, w.1, token_at (part a b t) e w.2)
  token_same (tk.Plain b) e w = token_at (b ∷ []) e w
  token_same (tk.Scalar v) e w = (token_at (encode_scalar v) e w.0, w.1)

  pub next_same : (r : Result (std.Option (Token × Source)) Refusal) → NextToken t d r → NextToken t c r
  next_same (Ok (Some p)) k = token_same p.0 p.1 k
  next_same (Ok None) k = q ∙ k
  next_same (Err r) k = (k.0, ap (tokens unescape_at 0) q ∙ k.1)
