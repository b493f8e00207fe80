-- UTF-8 from a place on, a character at a time and over a stretch of ASCII. Assumes nothing.
use mathlib.Core.Path.{◌≡◌, sym, ◌∙◌, ap}
use mathlib.Core.Bool.{true, false}
use mathlib.Core.List.{List}
use mathlib.Core.Option.{Option, none, some}
use Prim.Native.Nat.{ℕ, zero, suc, ◌+◌, ◌-◌, ◌≤◌, ◌<◌}
use native.Mathlib.Omega.{arith}
use lib.ListN.{length, drop, get_or, drop_of_length-le}
use lib.Seq.{drop-drop}
use lib.Dec.{ltb}
use borrow.Author.Tests.{ltb-true, ltb-false}
use Rattle.format.specs.Basics.{is_some}
use Rattle.format.specs.Utf8.{char_at, scalars_from, is_utf8}
use Rattle.format.proofs.ListLaws.{by_test}
use Rattle.format.proofs.Utf8Laws.{char_one}
use Rattle.utf8.specs.Utf8.{Ascii}
use Rattle.utf8.proofs.CharLaws.{front}
use Rattle.utf8.proofs.TableLaws.{go_on, first}

-- the bytes from a place to a place are at most so large
abbrev pub AtMost : ℕ → List ℕ → ℕ → ℕ → Type 0
AtMost m s a e = (j : ℕ) → a ≤ j → j < e → get_or s j 0 ≤ m

pub at_most_more : (m n : ℕ) (s : List ℕ) (a e : ℕ) → AtMost m s a e → m ≤ n → get_or s e 0 ≤ n → AtMost n s a (e + 1)
at_most_more m n s a e h l k j p q =
    by_test (ltb j e) (λ t. let o = h j p (ltb-true j e t) in omega arith)
    (λ t. let o : j ≡ e = omega (arith, ltb-false j e t) in rw o k)

pub ascii_join : (s : List ℕ) (a m e : ℕ) → Ascii s a m → Ascii s m e → Ascii s a e
ascii_join s a m e f g j p q = by_test (ltb j m) (λ t. f j p (ltb-true j m t)) (λ t. g j (ltb-false j m t) q)

pub ascii-one : (s : List ℕ) (a : ℕ) → get_or s a 0 < 0x80 → Ascii s a (a + 1)
ascii-one s a h j p q = let e : j ≡ a = omega arith in rw e h

module _ (s : List ℕ) (at : ℕ) where
  pub utf8_end : length s ≤ at → true ≡ is_utf8 (drop at s)
  unfolding is_utf8 scalars_from is_some
  utf8_end h = rw (drop_of_length-le s h)

  module _ (there : at < length s) where
    here : {o : Option (ℕ × ℕ)} → o ≡ char_at (drop at s) → is_utf8 (drop at s) ≡ go_on o (drop (at + 1) s)
    here {o} e =
        let f = front 0 s at there in
        ap is_utf8 f ∙ first (get_or s at 0) (drop (at + 1) s) ∙ ap (λ (c : Option (ℕ × ℕ)). go_on c (drop (at + 1) s))
        (ap char_at (sym f) ∙ sym e)

    pub utf8_bad : none ≡ char_at (drop at s) → false ≡ is_utf8 (drop at s)
    utf8_bad e = sym (here e)

    pub utf8_on : (v n : ℕ) → some (v, n) ≡ char_at (drop at s) → is_utf8 (drop (at + (n + 1)) s) ≡ is_utf8 (drop at s)
    utf8_on v n e =
        let k : at + (n + 1) ≡ at + 1 + n = omega arith in
        ap (λ (j : ℕ). is_utf8 (drop j s)) k ∙ ap is_utf8 (sym (drop-drop n (at + 1) s)) ∙ sym (here e)

over : (n : ℕ) (s : List ℕ) (a : ℕ) → a + n ≤ length s → Ascii s a (a + n) → is_utf8 (drop (a + n) s) ≡ is_utf8 (drop a s)
over zero s a h f = let e : a + 0 ≡ a = omega arith in rw e
over (suc n) s a h f =
    let e : a + suc n ≡ a + (0 + 1) + n = omega arith in
    let c = char_one (get_or s a 0) (drop (a + 1) s) (f a (omega arith) (omega arith)) in
    ap (λ (k : ℕ). is_utf8 (drop k s)) e
    ∙ over n s (a + (0 + 1)) (omega arith) (λ j p q. f j (omega arith) (omega arith))
    ∙ utf8_on s a (omega arith) (get_or s a 0) 0 (sym (ap char_at (front 0 s a (omega arith)) ∙ c))

-- past a stretch of ASCII
pub utf8_ascii : (s : List ℕ) (a e : ℕ) → a ≤ e → e ≤ length s → Ascii s a e → is_utf8 (drop e s) ≡ is_utf8 (drop a s)
utf8_ascii s a e h l f =
    let k : a + (e - a) ≡ e = omega arith in
    ap (λ (i : ℕ). is_utf8 (drop i s)) (sym k) ∙ over (e - a) s a (omega arith) (λ j p q. f j p (omega arith))
