-- Newlines, counted by words. Assumes nothing.
use mathlib.Core.Path.{◌≡◌, refl, sym, ◌∙◌, ap}
use mathlib.Core.List.{List, [], ◌∷◌}
use Prim.Native.Nat.{ℕ, ◌+◌, ◌*◌, ◌/◌, ◌%◌, ◌≤◌, ◌<◌}
use native.Mathlib.Omega.{arith}
use lib.ListN.{length, drop, get_or}
use lib.Dec.{eqb}
use borrow.Author.Tests.{eq-eqb, ne_eqb, eqb-true, eqb-false}
use Rattle.format.specs.Source.{newlines}
use Rattle.format.proofs.ListLaws.{by_test}
use Rattle.format.proofs.Laws.{newlines-yes, newlines_no}
use Rattle.object.specs.Texts.{text_byte, text_bytes}
use Rattle.object.proofs.SpanLaws.{word_0, word_1, word_2}
use Rattle.word_chars.proofs.CharLaws.{byte_is, size_is}

-- of one byte
pub one-yes : (b : ℕ) → b ≡ 10 → 1 ≡ newlines (b ∷ [])
unfolding newlines
one-yes b e = sym (rw (eq-eqb b 10 e) refl)

pub one_no : (b : ℕ) → (b ≡ 10 → ⊥) → 0 ≡ newlines (b ∷ [])
unfolding newlines
one_no b e = sym (rw (ne_eqb b 10 e) refl)

pub one_small : (b : ℕ) → newlines (b ∷ []) ≤ 1
one_small b =
    by_test (eqb b 10) (λ t. omega (arith, one-yes b (eqb-true b 10 t))) (λ t. omega (arith, one_no b (eqb-false b 10 t)))

step :
    (s : List ℕ) (i b : ℕ) → i < length s → get_or s i 0 ≡ b → newlines (drop i s) ≡ newlines (b ∷ []) + newlines (drop (i + 1) s)
step s i b h e =
    by_test (eqb b 10)
    (λ t. let q = eqb-true b 10 t in omega (arith, newlines-yes s i h (e ∙ q), one-yes b q))
    (λ t. let q = eqb-false b 10 t in omega (arith, newlines_no s i h (λ z. q (sym e ∙ z)), one_no b q))

-- of a word's three bytes
module _ (ws : List ℕ) (at n k : ℕ) (h : 3 * k + 2 < n) where
  abbrev w : ℕ
  w = get_or ws (at + k) 0

  abbrev text : List ℕ
  text = text_bytes ws at n

  at_byte : (i b : ℕ) → i < n → text_byte ws at i ≡ b → newlines (drop i text) ≡ newlines (b ∷ []) + newlines (drop (i + 1) text)
  at_byte i b l e = step text i b (omega (arith, size_is ws at n)) (sym (byte_is ws at n i l) ∙ e)

  pub word-newlines :
      newlines (drop (3 * k) text)
      ≡ newlines (w % 256 ∷ []) + newlines (w / 256 % 256 ∷ []) + newlines (w / 65536 % 256 ∷ []) + newlines (drop (3 * (k + 1)) text)
  word-newlines =
      let e : 3 * k + 1 + 1 + 1 ≡ 3 * (k + 1) = omega arith in
      omega (
        arith,
        at_byte (3 * k) (w % 256) (omega arith) (word_0 ws at k),
        at_byte (3 * k + 1) (w / 256 % 256) (omega arith) (word_1 ws at k),
        at_byte (3 * k + 1 + 1) (w / 65536 % 256) (omega arith) (word_2 ws at k),
        ap (λ (j : ℕ). newlines (drop j text)) e,
      )
