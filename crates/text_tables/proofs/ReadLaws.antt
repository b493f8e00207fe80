-- Rows along a view; and a pass that parses and puts line by line is the definition's.
-- Assumes nothing.
use mathlib.Core.Path.{◌≡◌, refl, sym, ap, ◌∙◌}
use mathlib.Core.Bool.{true, false}
use mathlib.Core.List.{List, [], ◌∷◌, map}
use mathlib.Core.Option.{Option, none, some}
use Prim.Native.Nat.{ℕ, ◌-◌}
use lib.ListN.{length}
use Rattle.format.specs.Basics.{Outcome, given, ◌>>=◌, need, and_then, all_some}
use Rattle.format.specs.Tokens.{fold_outcome}
use Rattle.format.specs.Utf8.{trim}
use Rattle.format.specs.TextReader.{splitn, same_cells, rows_under}
use Rattle.trim.specs.Span.{part}
use Rattle.text_lines.specs.Views.{View, StepAt}
use Rattle.text_tables.specs.Reads.{read_from, ReadAt}
use Rattle.format.specs.Calls.{refusal_of}
use Rattle.text_lines.proofs.TestLaws.{by_test}

-- ROWS: a pass that parses each line and puts what it says is the lines parsed, and then all put
unfoldable pub foldl : {S R : Type 0} → (S → R → S) → S → List R → S
foldl set s [] = s
foldl set s (r ∷ rs) = foldl set (set s r) rs

module _ {S A R : Type 0} (one : S → A → Outcome S) (parse : A → Option R) (set : S → R → S) (n : ℕ) (splits : (s : S) (a : A) → one s a ≡ (need n (parse a) >>= λ r. given (set s r))) where
  pub through_parse : (s : S) (xs : List A) → fold_outcome one s xs ≡ (need n (all_some parse xs) >>= λ rs. given (foldl set s rs))
  unfolding fold_outcome all_some foldl
  through_parse s [] = refl
  through_parse s (a ∷ xs) = ap (λ (o : Outcome S). o >>= λ s'. fold_outcome one s' xs) (splits s a) ∙ go (parse a) (λ r. through_parse (set s r) xs)
    where
      tail : (s : S) (r : R) (o : Option (List R)) → (need n o >>= λ rs. given (foldl set (set s r) rs)) ≡ (need n (and_then o λ ys. some (r ∷ ys)) >>= λ rs. given (foldl set s rs))
      tail s r none = refl
      tail s r (some ys) = refl

      go : (o : Option R) → ((r : R) → fold_outcome one (set s r) xs ≡ (need n (all_some parse xs) >>= λ rs. given (foldl set (set s r) rs))) → ((need n o >>= λ r. given (set s r)) >>= λ s'. fold_outcome one s' xs) ≡ (need n (and_then o λ y. and_then (all_some parse xs) λ ys. some (y ∷ ys)) >>= λ rs. given (foldl set s rs))
      go none ih = refl
      go (some r) ih = ih r ∙ tail s r (all_some parse xs)

  pub through_code : (s : S) (xs : List A) → refusal_of (fold_outcome one s xs) ≡ refusal_of (need n (all_some parse xs))
  through_code s xs = ap refusal_of (through_parse s xs) ∙ code (all_some parse xs)
    where
      code : (o : Option (List R)) → refusal_of (need n o >>= λ rs. given (foldl set s rs)) ≡ refusal_of (need n o)
      code none = refl
      code (some rs) = refl

-- a table: a header with these columns, and rows; its number is of its lines alone, whichever state stands
module _ {S R : Type 0} (one : S → List ℕ → Outcome S) (parse : List ℕ → Option R) (set : S → R → S) (k : ℕ) (splits : (s : S) (a : List ℕ) → one s a ≡ (need k (parse a) >>= λ r. given (set s r))) (columns : List (List ℕ)) where
  abbrev pub table_of : S → List (List ℕ) → Outcome S
  table_of s ls = rows_under k columns ls >>= λ rows. fold_outcome one s rows

  pub table_none : (s : S) → refusal_of (table_of s []) ≡ 0
  unfolding rows_under fold_outcome
  table_none s = refl

  pub table_header : (s : S) (l : List ℕ) (ls : List (List ℕ)) → same_cells (map trim (splitn (length columns - 1) l)) columns ≡ false → refusal_of (table_of s (l ∷ ls)) ≡ k
  unfolding rows_under
  table_header s l ls e = rw e

  pub table_rows : (s : S) (l : List ℕ) (ls : List (List ℕ)) → same_cells (map trim (splitn (length columns - 1) l)) columns ≡ true → refusal_of (table_of s (l ∷ ls)) ≡ refusal_of (need k (all_some parse ls))
  unfolding rows_under
  table_rows s l ls e = rw e (through_code one parse set k splits s ls)

  pub table_any : (s u : S) (ls : List (List ℕ)) → refusal_of (table_of s ls) ≡ refusal_of (table_of u ls)
  table_any s u [] = table_none s ∙ sym (table_none u)
  table_any s u (l ∷ ls) =
      by_test (same_cells (map trim (splitn (length columns - 1) l)) columns)
      (λ t. table_rows s l ls t ∙ sym (table_rows u l ls t))
      (λ t. table_header s l ls t ∙ sym (table_header u l ls t))

more-code : {R : Type 0} (n : ℕ) (r : R) (o : Option (List R)) → refusal_of (need n (and_then o λ rs. some (r ∷ rs))) ≡ refusal_of (need n o)
more-code n r none = refl
more-code n r (some rs) = refl

module _ {C R : Type 0} (parse : List ℕ → Option R) (v : View C) (t : List ℕ) where
  -- a line of the view that reads, and one that does not
  module _ (at a e n : ℕ) (l : StepAt v t at a e n) where
    lines-on : (v at).0 ≡ part a e t ∷ (v n).0
    lines-on = ap (λ (p : List (List ℕ) × C). p.0) l.same

    pub read-on : (r : R) → parse (part a e t) ≡ some r → ReadAt parse v t at r n
    unfolding read_from all_some
    read-on r h =
        record { on = l.on; next = l.next; after = sym (ap (λ (p : List (List ℕ) × C). p.1) l.same); same = ap (all_some parse) lines-on ∙ rw h }

    pub read-bad : parse (part a e t) ≡ none → read_from parse v at ≡ none
    unfolding read_from all_some
    read-bad h = ap (all_some parse) lines-on ∙ rw h

  pub read_done : (at : ℕ) → (v at).0 ≡ [] → read_from parse v at ≡ some []
  unfolding read_from all_some
  read_done at e = ap (all_some parse) e

  module _ (at : ℕ) (r : R) (n : ℕ) (l : ReadAt parse v t at r n) where
    pub code-on : (k : ℕ) → refusal_of (need k (read_from parse v n)) ≡ refusal_of (need k (read_from parse v at))
    code-on k = sym (ap (λ (o : Option (List R)). refusal_of (need k o)) l.same ∙ more-code k r (read_from parse v n))

-- a table that stands in a view: its number, from the lines left of it
module _ {S R C : Type 0} (one : S → List ℕ → Outcome S) (parse : List ℕ → Option R) (set : S → R → S) (k : ℕ)
    (splits : (s : S) (a : List ℕ) → one s a ≡ (need k (parse a) >>= λ r. given (set s r))) (columns : List (List ℕ)) (v : View C) (t : List ℕ) (s : S)
    (at : ℕ) where
  abbrev number : List (List ℕ) → ℕ
  number ls = refusal_of (table_of one parse set k splits columns s ls)

  pub at_none : (v at).0 ≡ [] → number (v at).0 ≡ 0
  at_none e = ap number e ∙ table_none one parse set k splits columns s

  module _ (a e n : ℕ) (l : StepAt v t at a e n) where
    first : (v at).0 ≡ part a e t ∷ (v n).0
    first = ap (λ (p : List (List ℕ) × C). p.0) l.same

    pub at_header : same_cells (map trim (splitn (length columns - 1) (part a e t))) columns ≡ false → number (v at).0 ≡ k
    at_header h = ap number first ∙ table_header one parse set k splits columns s (part a e t) (v n).0 h

    pub at_rows_lem : same_cells (map trim (splitn (length columns - 1) (part a e t))) columns ≡ true → refusal_of (need k (read_from parse v n)) ≡ number (v at).0
    unfolding read_from
    at_rows_lem h = sym (ap number first ∙ table_rows one parse set k splits columns s (part a e t) (v n).0 h)
