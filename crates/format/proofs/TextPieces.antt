-- The pieces of a UTF-8 text are UTF-8: cut where a character begins, past ASCII bytes, trimmed, its lines, its cells, and what it
-- unescapes to. Assumes nothing.
use mathlib.Core.Path.{◌≡◌, refl, sym, ◌∙◌, ap, subst}
use mathlib.Core.Bool.{Bool, true, ◌&&◌}
use mathlib.Core.List.{List, [], ◌∷◌, ◌++◌, append-nil, flat_map}
use mathlib.Core.Option.{Option, none, some}
use Prim.Native.Nat.{ℕ, zero, suc, ◌+◌, ◌/◌, ◌%◌, ◌^◌, ◌≤◌, ◌<◌}
use native.Mathlib.Omega.{arith}
use lib.ListN.{length, take, drop, get_or, length-append, take-append-drop}
use lib.Seq.{append_snoc, drop-drop}
use lib.Dec.{eqb}
use borrow.Author.Tests.{lt-ltb, eqb-true}
use Rattle.std.specs.Prelude.{if◌then◌else◌}
use Rattle.format.specs.Basics.{Outcome, given, ◌>>=◌, and_then, is_some, is_empty, ascii, keep, begins_with, All}
use Rattle.format.specs.Tokens.{tokens}
use Rattle.format.specs.Utf8.{is_between, is_scalar, encode_scalar, char_at, scalars, is_utf8, is_white_space, white_space_length, pass_over, trim_from, trim_start, is_blank, trim_end, trim}
use Rattle.format.specs.TextReader.{on_first, lines, kept_lines, split_once, first_cell, splitn, cell_at, digits_from, hex_digits, scalar_of, unicode_escape, after_backslash, unescape_at, unescape}
use Rattle.format.proofs.ListLaws.{both, all_map}
use Rattle.format.proofs.ListFacts.{all-flat_map}
use Rattle.format.proofs.Outcomes.{by_if, by_option, Gives, Holds, gives_bind, gives_ask, holds_then}
use Rattle.format.proofs.Ranges.{Bytes}
use Rattle.format.proofs.Utf8Laws.{Scalar, Text, by_size, scalar_bound, char_middle, char_reads, scalars_char, text_of, text_utf8, text-append, text-ascii}

-- a byte 10xxxxxx
abbrev Follower : ℕ → Type 0
Follower b = (0x80 ≤ b) × (b < 0xC0)

-- the bytes of a character: one that begins it, and those that follow
abbrev Shape : List ℕ → Type 0
Shape e = (x : ℕ) × (ys : List ℕ) × (e ≡ x ∷ ys) × (x < 2 ^ 8) × All Follower ys

char_shape : (c : ℕ) → Scalar c → Shape (encode_scalar c)
char_shape c s =
    let bound = scalar_bound c s in
    by_size Shape c (λ l. (c, [], refl, omega arith, tt)) (λ _ l. (0xC0 + c / 64, (0x80 + c % 64) ∷ [], refl, omega arith, (low c, tt)))
    (λ _ l. (0xE0 + c / 4096, (0x80 + c / 64 % 64) ∷ (0x80 + c % 64) ∷ [], refl, omega arith, (low (c / 64), (low c, tt))))
    (λ l. (0xF0 + c / 262144, _, refl, omega arith, (low (c / 4096), (low (c / 64), (low c, tt)))))
  where
    low : (d : ℕ) → Follower (0x80 + d % 64)
    low d = (omega arith, omega arith)

char_bytes : (c : ℕ) → Scalar c → Bytes (encode_scalar c)
char_bytes c s =
    let e = char_shape c s in
    rw e.2 (e.3, all_map (λ y f. omega (arith, f.1)) e.1 e.4)

pub text-bytes : (t : List ℕ) → Text t → Bytes t
text-bytes t x = rw (← x.2) (all-flat_map (λ b. b < 2 ^ 8) encode_scalar x.0 (all_map char_bytes x.0 x.1))

pub text_char : (c : ℕ) → Scalar c → Text (encode_scalar c)
unfolding flat_map
text_char c s = (c ∷ [], (s, tt), append-nil (encode_scalar c))

-- a text less its first character
pub text-rest : (c : ℕ) (rest : List ℕ) → Scalar c → Text (encode_scalar c ++ rest) → Text rest
unfolding is_utf8 is_some
text-rest c rest s x =
    text_of rest (by_option (λ o. is_some (and_then o λ ds. some (c ∷ ds)) ≡ true → is_some o ≡ true) (scalars rest) (λ e. e) (λ _ _ _. refl)
    (ap is_some (sym (scalars_char c rest s)) ∙ text_utf8 (encode_scalar c ++ rest) x))

-- followers stand before a byte that is none
past_followers :
    (ys rest p : List ℕ) (b : ℕ) (bs : List ℕ) → All Follower ys → (Follower b → ⊥) → ys ++ rest ≡ p ++ b ∷ bs
    → (q : List ℕ) × (p ≡ ys ++ q) × (rest ≡ q ++ b ∷ bs)
past_followers [] rest p b bs f n e = (p, refl, e)
past_followers (y ∷ ys) rest [] b bs f n e = let q : y ≡ b = cc in absurd (n (rw (← q) f.0))
past_followers (y ∷ ys) rest (x ∷ p) b bs f n e =
    let r = past_followers ys rest p b bs f.1 n (cc) in
    let t : p ≡ ys ++ r.0 = r.1 in
    let q : x ∷ p ≡ y ∷ (ys ++ r.0) = cc in
    (r.0, q, r.2)

-- a text cut before a byte that is not in the middle of a character: two texts
cut_scalars :
    (cs p : List ℕ) (b : ℕ) (bs : List ℕ) → All Scalar cs → (Follower b → ⊥) → flat_map encode_scalar cs ≡ p ++ b ∷ bs
    → Text p × Text (b ∷ bs)
unfolding flat_map
cut_scalars [] p b bs s n e = let z = ap length e in absurd (omega (arith, length-append p (b ∷ bs)))
cut_scalars (c ∷ cs) p b bs s n e = go p e (λ q. cut_scalars cs q b bs s.1 n)
  where
    go : (p : List ℕ) → encode_scalar c ++ flat_map encode_scalar cs ≡ p ++ b ∷ bs
        → ((q : List ℕ) → flat_map encode_scalar cs ≡ q ++ b ∷ bs → Text q × Text (b ∷ bs)) → Text p × Text (b ∷ bs)
    go [] e ih = (text-ascii [] tt, (c ∷ cs, s, e))
    go (x ∷ p) e ih =
        let h = char_shape c s.0 in
        let w : h.0 ∷ (h.1 ++ flat_map encode_scalar cs) ≡ x ∷ (p ++ b ∷ bs) = rw h.2 at e in
        let r = past_followers h.1 (flat_map encode_scalar cs) p b bs h.4 n (cc) in
        let i = ih r.0 r.2 in
        let m : encode_scalar c ++ r.0 ≡ h.0 ∷ (h.1 ++ r.0) = ap (λ (y : List ℕ). y ++ r.0) h.2 in
        let k : p ≡ h.1 ++ r.0 = r.1 in
        let q : encode_scalar c ++ r.0 ≡ x ∷ p = cc in
        (subst (λ (y : List ℕ). Text y) q (text-append (encode_scalar c) r.0 (text_char c s.0) i.0), i.1)

pub text_cut : (p : List ℕ) (b : ℕ) (bs : List ℕ) → (Follower b → ⊥) → Text (p ++ b ∷ bs) → Text p × Text (b ∷ bs)
text_cut p b bs n x = cut_scalars x.0 p b bs x.1 n x.2

pub ascii-rest : (b : ℕ) (bs : List ℕ) → b < 0x80 → Text (b ∷ bs) → Text bs
unfolding encode_scalar is_scalar
ascii-rest b bs l x =
    let e : encode_scalar b ++ bs ≡ b ∷ bs = rw (lt-ltb b 0x80 l) in
    text-rest b bs (rw (lt-ltb b 0xD800 (omega arith))) (rw e x)

-- an ASCII byte parts a text
pub ascii_cut : (p : List ℕ) (b : ℕ) (bs : List ℕ) → b < 0x80 → Text (p ++ b ∷ bs) → Text p × Text bs
ascii_cut p b bs l x = let r = text_cut p b bs (λ f. omega (arith, f.0)) x in (r.0, ascii-rest b bs l r.1)

-- past ASCII bytes that a text begins with
pub ascii-past : (xs ys : List ℕ) → All (λ b. b < 0x80) xs → begins_with xs ys ≡ true → Text ys → Text (drop (length xs) ys)
unfolding begins_with
ascii-past [] ys h e x = x
ascii-past (a ∷ xs) [] h e x = x
ascii-past (a ∷ xs) (y ∷ ys) h e x =
    let p = both (eqb a y) (begins_with xs ys) e in
    let q = eqb-true a y p.0 in
    ascii-past xs ys h.1 p.1 (ascii-rest y ys (omega (arith, h.0)) x)

-- ASCII bytes part a text
ascii-parts :
    (p : List ℕ) (a : ℕ) (xs ys : List ℕ) → All (λ b. b < 0x80) (a ∷ xs) → begins_with (a ∷ xs) ys ≡ true → Text (p ++ ys)
    → Text p × Text (drop (length (a ∷ xs)) ys)
unfolding begins_with
ascii-parts p a xs [] h e x = let z : ◌≡◌ {A = ℕ} 0 1 = cc in absurd (omega arith)
ascii-parts p a xs (y ∷ ys) h e x =
    let t = both (eqb a y) (begins_with xs ys) e in
    let q = eqb-true a y t.0 in
    let r = ascii_cut p y ys (omega (arith, h.0)) x in
    (r.0, ascii-past xs ys h.1 t.1 r.1)

-- one byte more in front
front : (p : List ℕ) (b : ℕ) (bs : List ℕ) → Text (p ++ b ∷ bs) → Text (p ++ b ∷ [] ++ bs)
front p b bs x = rw (append_snoc p b bs) x

back : (p : List ℕ) (b : ℕ) (bs : List ℕ) → Text (p ++ b ∷ [] ++ bs) → Text (p ++ b ∷ bs)
back p b bs x = rw (append_snoc p b bs) at x

-- TRIMMED

start-text : (k : ℕ) (bs : List ℕ) → k ≤ length bs → Text (drop k bs) → Text (trim_from k bs)
unfolding trim_from
start-text zero [] l x = x
start-text (suc k) [] l x = x
start-text (suc k) (b ∷ bs) l x = start-text k bs (omega arith) x
start-text zero (b ∷ bs) l x =
    by_option (λ o. Text (pass_over (white_space_length o) (b ∷ bs) (λ n. trim_from n bs))) (char_at (b ∷ bs)) x λ c e.
    let r = char_reads b bs c.0 c.1 e in
    let i = start-text c.1 bs r.1 (text-rest c.0 (drop c.1 bs) r.2 (rw r.0 x)) in
    by_if (λ k. Text (pass_over k (b ∷ bs) (λ n. trim_from n bs))) (is_white_space c.0) _ _ (λ _. i) (λ _. x)

-- White_Space alone begins with a character
blank_begins : (b : ℕ) (bs : List ℕ) → is_blank (b ∷ bs) ≡ true → Follower b → ⊥
unfolding is_blank trim_start trim_from is_empty
blank_begins b bs e f =
    let m = char_middle b bs f.0 f.1 in
    let t : is_empty (b ∷ bs) ≡ true = rw m at e in
    let z : ◌≡◌ {A = ℕ} 0 1 = cc in omega arith

end-text : (p bs : List ℕ) → Text (p ++ bs) → Text (p ++ trim_end bs)
unfolding trim_end
end-text p [] x = x
end-text p (b ∷ bs) x =
    by_if (λ t. Text (p ++ t)) (is_blank (b ∷ bs)) _ _ (λ e. rw append-nil (text_cut p b bs (blank_begins b bs e) x).0)
    (λ _. back p b (trim_end bs) (end-text (p ++ b ∷ []) bs (front p b bs x)))

pub trim-text : (t : List ℕ) → Text t → Text (trim t)
unfolding trim trim_start
trim-text t x = end-text [] (trim_start t) (start-text 0 t (omega arith) x)

-- LINES

pub all_first : {A : Type 0} (P : A → Type 0) (d : A) (ls : List A) → P (get_or ls 0 d) × All P (drop 1 ls) → All P ls
all_first P d [] h = tt
all_first P d (l ∷ ls) h = (h.0, h.1)

module _ {A : Type 0} (P : A → Type 0) where
  pub all_keep : (p : A → Bool) (xs : List A) → All P xs → All P (keep p xs)
  unfolding keep
  all_keep p [] h = tt
  all_keep p (x ∷ xs) h = let i = all_keep p xs h.1 in by_if (All P) (p x) _ _ (λ _. (h.0, i)) (λ _. i)

  pub all_get_d : (d : A) (xs : List A) (i : ℕ) → P d → All P xs → P (get_or xs i d)
  all_get_d d [] i p h = p
  all_get_d d (x ∷ xs) zero p h = h.0
  all_get_d d (x ∷ xs) (suc i) p h = all_get_d d xs i p h.1

-- lines of what p is in front of
abbrev Lines : List ℕ → List (List ℕ) → Type 0
Lines p ls = Text (p ++ get_or ls 0 []) × All Text (drop 1 ls)

on-first : (p : List ℕ) (b : ℕ) (ls : List (List ℕ)) → Lines (p ++ b ∷ []) ls → Lines p (on_first b ls)
unfolding on_first
on-first p b [] h = (back p b [] h.0, tt)
on-first p b (l ∷ ls) h = (back p b l h.0, h.1)

lines-text : (p bs : List ℕ) → Text (p ++ bs) → Lines p (lines bs)
unfolding lines
lines-text p [] x = (x, tt)
lines-text p (b ∷ bs) x =
    by_if (Lines p) (eqb b 0x0A) _ _
    (λ e. let q = eqb-true b 0x0A e in let r = ascii_cut p b bs (omega arith) x in
    (rw append-nil r.0, all_first Text [] (lines bs) (lines-text [] bs r.1)))
    (λ _. by_if (Lines p) (eqb b 0x0D && begins_with (0x0A ∷ []) bs) _ _
    (λ e. let q = eqb-true b 0x0D (both (eqb b 0x0D) (begins_with (0x0A ∷ []) bs) e).0 in
    let r = ascii_cut p b bs (omega arith) x in lines-text p bs (text-append p bs r.0 r.1))
    (λ _. on-first p b (lines bs) (lines-text (p ++ b ∷ []) bs (front p b bs x))))

pub kept-text : (bs : List ℕ) → Text bs → All Text (kept_lines bs)
unfolding kept_lines
kept-text bs x = all_keep Text _ (lines (trim bs)) (all_first Text [] (lines (trim bs)) (lines-text [] (trim bs) (trim-text bs x)))

-- CELLS

abbrev Cells : List ℕ → List ℕ × List ℕ → Type 0
Cells p c = Text (p ++ c.0) × Text c.1

split_text : (p bs : List ℕ) → Text (p ++ bs) → Holds (Cells p) (split_once bs)
unfolding split_once begins_with ascii
split_text p [] x = tt
split_text p (b ∷ bs) x =
    by_if (Holds (Cells p)) (begins_with (ascii " | ") (b ∷ bs)) _ _
    (λ e. rw append-nil (ascii-parts p 0x20 (ascii "| ") (b ∷ bs) (omega arith, (omega arith, (omega arith, tt))) e x))
    (λ _. holds_then _ (Cells (p ++ b ∷ [])) (split_once bs) _ (split_text (p ++ b ∷ []) bs (front p b bs x)) λ c i.
    (back p b c.0 i.0, i.1))

cells_text : (k : ℕ) (bs : List ℕ) → Text bs → All Text (splitn k bs)
unfolding splitn
cells_text zero bs x = (x, tt)
cells_text (suc k) bs x =
    by_option (λ o. Holds (Cells []) o → All Text (first_cell bs (λ rest. splitn k rest) o)) (split_once bs) (λ _. (x, tt))
    (λ c _ r. (r.0, cells_text k c.1 r.1)) (split_text [] bs x)

pub cell-text : (k i : ℕ) (l : List ℕ) → Text l → Text (cell_at i (splitn k l))
cell-text k i l x = all_get_d Text [] (splitn k l) i (text-ascii [] tt) (cells_text k l x)

-- UNESCAPED

-- an escape gives a text and leaves one
abbrev Escaped : List ℕ → List ℕ × ℕ → Type 0
Escaped bs t = Text t.0 × Text (drop t.1 bs)

unicode_text : (u : ℕ) (bs : List ℕ) → Text bs → Gives (Escaped (u ∷ bs)) (unicode_escape bs)
unfolding unicode_escape ascii
unicode_text u bs x =
    let n : ℕ = hex_digits (drop 1 bs) in
    gives_ask _ 30 (begins_with (ascii "{") bs) _ λ e.
    gives_ask _ 30 (is_between 1 6 n && begins_with (ascii "}") (drop (1 + n) bs)) _ λ f.
    gives_bind _ Scalar (scalar_of (digits_from 16 0 (take n (drop 1 bs)))) _ (scalar (digits_from 16 0 (take n (drop 1 bs)))) λ c s.
    let close = (both (is_between 1 6 n) (begins_with (ascii "}") (drop (1 + n) bs)) f).1 in
    let rest = ascii-parts (take (1 + n) bs) 0x7D [] (drop (1 + n) bs) (omega arith, tt) close (rw (take-append-drop (1 + n) bs) x) in
    (text_char c s, rw (← drop-drop (1 + n + 1) 1 (u ∷ bs), ← drop-drop 1 (1 + n) bs) rest.1)
  where
    scalar : (o : Option ℕ) → Gives Scalar (scalar_of o)
    scalar none = tt
    scalar (some c) = by_if (Gives Scalar) (is_scalar c) _ _ (λ e. e) (λ _. tt)

after_text : (bs : List ℕ) → Text bs → Gives (Escaped bs) (after_backslash bs)
unfolding after_backslash ascii
after_text [] x = tt
after_text (b ∷ bs) x =
    short 0x74 0x09 _ (omega arith) (omega arith)
    (short 0x72 0x0D _ (omega arith) (omega arith)
    (short 0x6E 0x0A _ (omega arith) (omega arith)
    (short 0x27 0x27 _ (omega arith) (omega arith)
    (short 0x22 0x22 _ (omega arith) (omega arith)
    (short 0x5C 0x5C _ (omega arith) (omega arith)
    (by_if (Gives (Escaped (b ∷ bs))) (begins_with (ascii "u") (b ∷ bs)) _ _
    (λ e. unicode_text b bs (ascii-past (ascii "u") (b ∷ bs) (omega arith, tt) e x)) (λ _. tt)))))))
  where
    -- a letter that stands for a byte
    short : (a v : ℕ) (o : Outcome (List ℕ × ℕ)) → a < 0x80 → v < 0x80 → Gives (Escaped (b ∷ bs)) o
        → Gives (Escaped (b ∷ bs)) (if begins_with (a ∷ []) (b ∷ bs) then given (v ∷ [], 1) else o)
    short a v o l m k =
        by_if (Gives (Escaped (b ∷ bs))) (begins_with (a ∷ []) (b ∷ bs)) (given (v ∷ [], 1)) o
        (λ e. (text-ascii (v ∷ []) (m, tt), ascii-past (a ∷ []) (b ∷ bs) (l, tt) e x)) (λ _. k)

-- what is unescaped, after p, of the bytes that are not passed over
abbrev After : List ℕ → List (List ℕ) → Type 0
After p ts = Text (p ++ flat_map (λ t. t) ts)

tokens-text : (k : ℕ) (xs p : List ℕ) → Text (p ++ drop k xs) → Gives (After p) (tokens unescape_at k xs)
unfolding tokens unescape_at flat_map
tokens-text zero [] p x = x
tokens-text (suc k) [] p x = x
tokens-text (suc k) (b ∷ bs) p x = tokens-text k bs p x
tokens-text zero (b ∷ bs) p x =
    by_if (λ (o : Outcome (List ℕ × ℕ)). Gives (After p) (o >>= λ t. tokens unescape_at t.1 bs >>= λ ts. given (t.0 ∷ ts)))
    (eqb b 0x5C) _ _
    (λ e. let c = eqb-true b 0x5C e in let r = ascii_cut p b bs (omega arith) x in
    gives_bind _ (Escaped bs) (after_backslash bs) _ (after_text bs r.1) λ t q.
    gives_bind _ (After []) (tokens unescape_at t.1 bs) _ (tokens-text t.1 bs [] q.1) λ ts y.
    text-append p (t.0 ++ flat_map (λ t. t) ts) r.0 (text-append t.0 (flat_map (λ t. t) ts) q.0 y))
    (λ _. gives_bind _ (After (p ++ b ∷ [])) (tokens unescape_at 0 bs) _ (tokens-text 0 bs (p ++ b ∷ []) (front p b bs x)) λ ts y.
    back p b (flat_map (λ t. t) ts) y)

pub unescape-text : (bs : List ℕ) → Text bs → Gives Text (unescape bs)
unfolding unescape
unescape-text bs x = gives_bind _ (After []) (tokens unescape_at 0 bs) _ (tokens-text 0 bs [] x) λ ts y. y
