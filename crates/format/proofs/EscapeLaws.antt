-- Unescaping undoes escaping, and escaped text is printable ASCII. Assumes nothing.
use mathlib.Core.Path.{◌≡◌, refl, sym, ◌∙◌, ap, subst}
use mathlib.Core.Bool.{Bool, true, false, ◌&&◌}
use mathlib.Core.List.{List, [], ◌∷◌, ◌++◌, map, append_assoc, flat_map}
use mathlib.Core.Option.{some}
use Prim.Native.Nat.{ℕ, ◌+◌, ◌≤◌, ◌<◌}
use native.Mathlib.Omega.{arith}
use lib.ListN.{length, take, drop, length-append}
use lib.Seq.{take-append_seam, drop_at}
use lib.Dec.{leb, eqb}
use borrow.Author.Tests.{leb-true, lt-ltb, le-leb, eqb-true}
use Rattle.std.specs.Prelude.{if◌then◌else◌}
use Rattle.format.specs.Basics.{given, ◌>>=◌, ascii, begins_with, All, is_some}
use Rattle.format.specs.Tokens.{tokens}
use Rattle.format.specs.Utf8.{is_between, encode_scalar}
use Rattle.format.specs.TextWriter.{numeral, escape_char, escape}
use Rattle.format.specs.TextReader.{digit_value, digits_from, hex_digits, unicode_escape, after_backslash, unescape_at, unescape}
use Rattle.format.proofs.Laws.{tokens-step}
use Rattle.format.proofs.NumeralLaws.{digit_lower, numeral-back}
use Rattle.format.proofs.ListFacts.{and_left, and_right, all-flat_map}
use Rattle.format.proofs.ListLaws.{all_append, all_map, flat_map-map}
use Rattle.format.proofs.NumeralBack.{numeral-all, lower_numeric}
use Rattle.format.proofs.Utf8Laws.{Scalar, scalar_bound, Text, scalars_of_lem}

-- a property of digits holds of the bytes of a numeral
abbrev HexDigit : ℕ → Type 0
HexDigit b = is_some (digit_value 16 b) ≡ true

hex_run : (ds rest : List ℕ) → All HexDigit ds → hex_digits (ds ++ 0x7D ∷ rest) ≡ length ds
unfolding hex_digits digit_value is_some
hex_run [] rest h = refl
hex_run (d ∷ ds) rest h = rw (h.0, hex_run ds rest h.1)

-- from what follows the u
unicode_path :
    (bs : List ℕ) (n c : ℕ) → begins_with (ascii "{") bs ≡ true → hex_digits (drop 1 bs) ≡ n → is_between 1 6 n ≡ true → begins_with (ascii "}") (drop (1 + n) bs) ≡ true
    → digits_from 16 0 (take n (drop 1 bs)) ≡ some c → Scalar c → unicode_escape bs ≡ given (encode_scalar c, 1 + (1 + n + 1))
unfolding unicode_escape
unicode_path bs n c h1 h2 h3 h4 h5 h6 = rw (h1, h2, h3, h4, h5, h6)

module _ (c : ℕ) (s : Scalar c) (rest : List ℕ) where
  abbrev hexes : List ℕ
  hexes = numeral 5 16 c []

  digits_are : All HexDigit hexes × (1 ≤ length hexes) × (length hexes ≤ 6)
  unfolding is_some
  digits_are =
      let l = scalar_bound c s in
      numeral-all HexDigit 16 (omega arith) (λ d k. rw (digit_lower 16 d (omega arith) k)) 5 c [] (omega arith) tt

  unicode_back : unicode_escape (0x7B ∷ hexes ++ 0x7D ∷ rest) ≡ given (encode_scalar c, 1 + (1 + length hexes + 1))
  unfolding begins_with ascii digits_from
  unicode_back =
      let l = scalar_bound c s in
      let d = digits_are in
      let n1 : leb 1 (length hexes) ≡ true = le-leb 1 (length hexes) d.1 in
      let n2 : leb (length hexes) 6 ≡ true = le-leb (length hexes) 6 d.2 in
      let e : drop (1 + length hexes) (0x7B ∷ hexes ++ 0x7D ∷ rest) ≡ 0x7D ∷ rest = drop_at (0x7B ∷ hexes) (0x7D ∷ rest) (1 + length hexes) (omega arith) in
      unicode_path (0x7B ∷ hexes ++ 0x7D ∷ rest) (length hexes) c refl (hex_run hexes rest d.0) (rw (n1, n2)) (ap (begins_with (ascii "}")) e)
      (ap (digits_from 16 0) (take-append_seam hexes (0x7D ∷ rest)) ∙ numeral-back 16 (omega arith) (omega arith) 5 c [] (omega arith)) s

  unicode_token : tokens unescape_at 0 (0x5C ∷ 0x75 ∷ 0x7B ∷ (hexes ++ 0x7D ∷ [] ++ rest)) ≡ (tokens unescape_at 0 rest >>= λ ts. given (encode_scalar c ∷ ts))
  unfolding unescape_at after_backslash begins_with ascii
  unicode_token =
      let a : hexes ++ 0x7D ∷ [] ++ rest ≡ hexes ++ 0x7D ∷ rest = append_assoc hexes (0x7D ∷ []) rest in
      let k = length-append hexes (0x7D ∷ []) in
      let d : drop (1 + (1 + length hexes + 1)) (0x75 ∷ 0x7B ∷ (hexes ++ 0x7D ∷ [] ++ rest)) ≡ rest =
      drop_at (0x75 ∷ 0x7B ∷ (hexes ++ 0x7D ∷ [])) rest (1 + (1 + length hexes + 1)) (omega arith) in
      tokens-step unescape_at 0x5C (0x75 ∷ 0x7B ∷ (hexes ++ 0x7D ∷ [] ++ rest)) (encode_scalar c) (1 + (1 + length hexes + 1)) (ap (λ (r : List ℕ). unicode_escape (0x7B ∷ r)) a ∙ unicode_back)
      ∙ rw d

  pub escape_token : tokens unescape_at 0 (escape_char c ++ rest) ≡ (tokens unescape_at 0 rest >>= λ ts. given (encode_scalar c ∷ ts))
  unfolding escape_char unescape_at after_backslash begins_with ascii tokens encode_scalar
  escape_token = go (eqb c 0x09) refl (eqb c 0x0D) refl (eqb c 0x0A) refl (eqb c 0x27) refl (eqb c 0x22) refl (eqb c 0x5C) refl (leb 0x20 c && leb c 0x7E) refl
    where
      go : (t1 : Bool) → eqb c 0x09 ≡ t1 → (t2 : Bool) → eqb c 0x0D ≡ t2 → (t3 : Bool) → eqb c 0x0A ≡ t3 → (t4 : Bool) → eqb c 0x27 ≡ t4
          → (t5 : Bool) → eqb c 0x22 ≡ t5 → (t6 : Bool) → eqb c 0x5C ≡ t6 → (t7 : Bool) → leb 0x20 c && leb c 0x7E ≡ t7
          → tokens unescape_at 0 ((if t1 then ascii "\\t" else if t2 then ascii "\\r" else if t3 then ascii "\\n" else if t4 then ascii "\\'"
          else if t5 then ascii "\\\"" else if t6 then ascii "\\\\" else if t7 then c ∷ [] else ascii "\\u{" ++ hexes ++ ascii "}") ++ rest)
          ≡ (tokens unescape_at 0 rest >>= λ ts. given (encode_scalar c ∷ ts))
      go true e1 t2 e2 t3 e3 t4 e4 t5 e5 t6 e6 t7 e7 = rw (eqb-true c 0x09 e1)
      go false e1 true e2 t3 e3 t4 e4 t5 e5 t6 e6 t7 e7 = rw (eqb-true c 0x0D e2)
      go false e1 false e2 true e3 t4 e4 t5 e5 t6 e6 t7 e7 = rw (eqb-true c 0x0A e3)
      go false e1 false e2 false e3 true e4 t5 e5 t6 e6 t7 e7 = rw (eqb-true c 0x27 e4)
      go false e1 false e2 false e3 false e4 true e5 t6 e6 t7 e7 = rw (eqb-true c 0x22 e5)
      go false e1 false e2 false e3 false e4 false e5 true e6 t7 e7 = rw (eqb-true c 0x5C e6)
      go false e1 false e2 false e3 false e4 false e5 false e6 true e7 =
          let l = leb-true c 0x7E (and_right (leb 0x20 c) (leb c 0x7E) e7) in
          rw (e6, lt-ltb c 0x80 (omega arith))
      go false e1 false e2 false e3 false e4 false e5 false e6 false e7 = unicode_token

tokens_escaped : (cs : List ℕ) → All Scalar cs → tokens unescape_at 0 (flat_map escape_char cs) ≡ given (map encode_scalar cs)
unfolding flat_map tokens
tokens_escaped [] h = refl
tokens_escaped (c ∷ cs) h = escape_token c h.0 (flat_map escape_char cs) ∙ rw (tokens_escaped cs h.1)

pub unescape-flat_map : (cs : List ℕ) → All Scalar cs → unescape (flat_map escape_char cs) ≡ given (flat_map encode_scalar cs)
unfolding unescape
unescape-flat_map cs h = rw (tokens_escaped cs h, flat_map-map (λ (t : List ℕ). t) encode_scalar cs)

pub escape_of : (cs : List ℕ) → All Scalar cs → escape (flat_map encode_scalar cs) ≡ flat_map escape_char cs
unfolding escape
escape_of cs h = rw (scalars_of_lem cs h)

pub unescape-escape : (t : List ℕ) → Text t → unescape (escape t) ≡ given t
unescape-escape t x =
    ap (λ (r : List ℕ). unescape (escape r)) (sym x.2) ∙ rw (escape_of x.0 x.1, unescape-flat_map x.0 x.1, x.2)

-- printable ASCII
abbrev pub Printable : ℕ → Type 0
Printable b = (0x20 ≤ b) × (b < 0x7F)

pub printable_char : (c : ℕ) → Scalar c → All Printable (escape_char c)
unfolding escape_char ascii
printable_char c s = go (eqb c 0x09) (eqb c 0x0D) (eqb c 0x0A) (eqb c 0x27) (eqb c 0x22) (eqb c 0x5C) (leb 0x20 c && leb c 0x7E) refl
  where
    numbers : All Printable (numeral 5 16 c [])
    numbers = let l = scalar_bound c s in (numeral-all Printable 16 (omega arith) (λ d k. let n = lower_numeric d k in (omega (arith, n.0), omega (arith, n.1))) 5 c [] (omega arith) tt).0

    go : (t1 t2 t3 t4 t5 t6 t7 : Bool) → leb 0x20 c && leb c 0x7E ≡ t7
        → All Printable (if t1 then ascii "\\t" else if t2 then ascii "\\r" else if t3 then ascii "\\n" else if t4 then ascii "\\'"
        else if t5 then ascii "\\\"" else if t6 then ascii "\\\\" else if t7 then c ∷ [] else ascii "\\u{" ++ numeral 5 16 c [] ++ ascii "}")
    go true t2 t3 t4 t5 t6 t7 e7 = ((omega arith, omega arith), ((omega arith, omega arith), tt))
    go false true t3 t4 t5 t6 t7 e7 = ((omega arith, omega arith), ((omega arith, omega arith), tt))
    go false false true t4 t5 t6 t7 e7 = ((omega arith, omega arith), ((omega arith, omega arith), tt))
    go false false false true t5 t6 t7 e7 = ((omega arith, omega arith), ((omega arith, omega arith), tt))
    go false false false false true t6 t7 e7 = ((omega arith, omega arith), ((omega arith, omega arith), tt))
    go false false false false false true t7 e7 = ((omega arith, omega arith), ((omega arith, omega arith), tt))
    go false false false false false false true e7 =
        let l = leb-true c 0x7E (and_right (leb 0x20 c) (leb c 0x7E) e7) in
        ((leb-true 0x20 c (and_left (leb 0x20 c) (leb c 0x7E) e7), omega arith), tt)
    go false false false false false false false e7 =
        ((omega arith, omega arith), ((omega arith, omega arith), ((omega arith, omega arith), all_append Printable (numeral 5 16 c []) (0x7D ∷ []) numbers ((omega arith, omega arith), tt))))

pub printable_flat_map : (cs : List ℕ) → All Scalar cs → All Printable (flat_map escape_char cs)
printable_flat_map cs h = all-flat_map Printable escape_char cs (all_map (λ c s. printable_char c s) cs h)

pub printable_escape : (t : List ℕ) → Text t → All Printable (escape t)
printable_escape t x =
    let e : escape t ≡ flat_map escape_char x.0 = ap escape (sym x.2) ∙ escape_of x.0 x.1 in
    subst (λ (r : List ℕ). All Printable r) (sym e) (printable_flat_map x.0 x.1)
