-- The line table at places.
-- Assumes nothing.
use mathlib.Core.Path.{◌≡◌, refl, sym, ap, ◌∙◌}
use mathlib.Core.Bool.{Bool, true, false, true≢false}
use mathlib.Core.List.{List, [], ◌∷◌}
use mathlib.Core.Option.{Option, none, some}
use Prim.Native.Nat.{ℕ, suc, ◌+◌}
use native.Mathlib.Numerals.{add-one}
use lib.ListN.{get_or}
use lib.Dec.{eqb}
use Rattle.format.specs.Basics.{Outcome, refused, given, ◌>>=◌, ask, need, and_then}
use Rattle.format.specs.Utf8.{trim}
use Rattle.format.specs.TextReader.{splitn, parse_decimal, parse_number, maybe_hex2u16, parse_line_rows}
use Rattle.trim.specs.Span.{part}
use Rattle.text_lines.specs.Views.{StepAt}
use Rattle.format.specs.Calls.{refusal_of}
use Rattle.text_tables.specs.Debug.{Groups, line_view}
use Rattle.text_tables.specs.LineRows.{line_in, is_line}

module _ (l : List ℕ) where
  pub line-bad : none ≡ parse_number 10 18446744073709551616 (trim (get_or (splitn 2 l) 0 [])) → none ≡ line_in l
  unfolding line_in
  line-bad e = rw (← e)

  pub line_some : (n : ℕ) (o : Option (Option ℕ)) → some n ≡ parse_number 10 18446744073709551616 (trim (get_or (splitn 2 l) 0 [])) → o ≡ maybe_hex2u16 (trim (get_or (splitn 2 l) 1 [])) → and_then o (λ (a : Option ℕ). some (n, a)) ≡ line_in l
  unfolding line_in
  line_some n o e f = rw (← e, ← f)

-- the number of the rows, a row more
rows_code : (i : ℕ) (l : List ℕ) (ls : List (List ℕ)) (o : Option (ℕ × Option ℕ)) → line_in l ≡ o → refusal_of (parse_line_rows i (l ∷ ls)) ≡ refusal_of (need 28 o >>= λ r. ask 28 (eqb r.0 i) >>= λ _. parse_line_rows (suc i) ls)
unfolding parse_line_rows line_in
rows_code i l ls o e = go (parse_decimal 18446744073709551616 (trim (get_or (splitn 2 l) 0 []))) (maybe_hex2u16 (trim (get_or (splitn 2 l) 1 []))) ∙ ap (λ (x : Option (ℕ × Option ℕ)). refusal_of (need 28 x >>= λ r. ask 28 (eqb r.0 i) >>= λ _. parse_line_rows (suc i) ls)) e
  where
    last : (b : Bool) (a : Option ℕ) (q : Outcome (List (Option ℕ × List ℕ)))
        → refusal_of (ask 28 b >>= λ _. given a >>= λ a. q >>= λ rows. given ((a, get_or (splitn 2 l) 2 []) ∷ rows)) ≡ refusal_of (ask 28 b >>= λ _. q)
    last true a (refused n) = refl
    last true a (given rs) = refl
    last false a q = refl

    bad : (b : Bool) (q : Outcome (List (Option ℕ × List ℕ))) → refusal_of (ask 28 b >>= λ _. need {A = Option ℕ} 28 none >>= λ a. q >>= λ rows. given ((a, get_or (splitn 2 l) 2 []) ∷ rows)) ≡ 28
    bad true q = refl
    bad false q = refl

    go : (p : Option ℕ) (x : Option (Option ℕ))
        → refusal_of (need 28 p >>= λ n. ask 28 (eqb n i) >>= λ _. need 28 x >>= λ a. parse_line_rows (suc i) ls >>= λ rows. given ((a, get_or (splitn 2 l) 2 []) ∷ rows))
        ≡ refusal_of (need 28 (and_then {B = ℕ × Option ℕ} p λ n. and_then {B = ℕ × Option ℕ} x λ a. some (n, a)) >>= λ r. ask 28 (eqb r.0 i) >>= λ _. parse_line_rows (suc i) ls)
    go none x = refl
    go (some n) none = bad (eqb n i) (parse_line_rows (suc i) ls)
    go (some n) (some a) = last (eqb n i) a (parse_line_rows (suc i) ls)

row-yes : (i : ℕ) (l : List ℕ) (ls : List (List ℕ)) (o : Option (ℕ × Option ℕ)) → line_in l ≡ o → is_line i o ≡ true → refusal_of (parse_line_rows i (l ∷ ls)) ≡ refusal_of (parse_line_rows (suc i) ls)
row-yes i l ls none e h = absurd (true≢false (sym h))
row-yes i l ls (some r) e h = rows_code i l ls (some r) e ∙ simp h

row_no : (i : ℕ) (l : List ℕ) (ls : List (List ℕ)) (o : Option (ℕ × Option ℕ)) → line_in l ≡ o → is_line i o ≡ false → refusal_of (parse_line_rows i (l ∷ ls)) ≡ 28
row_no i l ls none e h = rows_code i l ls none e
row_no i l ls (some r) e h = rows_code i l ls (some r) e ∙ simp h

module _ (t : List ℕ) (at a e n : ℕ) (l : StepAt (line_view t) t at a e n) (i : ℕ) where
  first : (line_view t at).0 ≡ part a e t ∷ (line_view t n).0
  first = ap (λ (p : List (List ℕ) × Groups). p.0) l.same

  pub lines-on : is_line i (line_in (part a e t)) ≡ true → refusal_of (parse_line_rows (i + 1) (line_view t n).0) ≡ refusal_of (parse_line_rows i (line_view t at).0)
  lines-on h =
      ap (λ (j : ℕ). refusal_of (parse_line_rows j (line_view t n).0)) (add-one i)
      ∙ sym (ap (λ (ls : List (List ℕ)). refusal_of (parse_line_rows i ls)) first ∙ row-yes i (part a e t) (line_view t n).0 (line_in (part a e t)) refl h)

  pub lines-bad : is_line i (line_in (part a e t)) ≡ false → 28 ≡ refusal_of (parse_line_rows i (line_view t at).0)
  lines-bad h = sym (ap (λ (ls : List (List ℕ)). refusal_of (parse_line_rows i ls)) first ∙ row_no i (part a e t) (line_view t n).0 (line_in (part a e t)) refl h)

pub lines-done : (t : List ℕ) (at i : ℕ) → (line_view t at).0 ≡ [] → 0 ≡ refusal_of (parse_line_rows i (line_view t at).0)
unfolding parse_line_rows
lines-done t at i e = sym (ap (λ (ls : List (List ℕ)). refusal_of (parse_line_rows i ls)) e)
