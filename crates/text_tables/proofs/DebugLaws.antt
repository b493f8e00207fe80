-- .DEBUG's tables at places.
-- Assumes nothing.
use mathlib.Core.Path.{◌≡◌, refl, sym, ap, ◌∙◌}
use mathlib.Core.Bool.{Bool, true, false, true≢false, not}
use mathlib.Core.List.{List, [], ◌∷◌}
use mathlib.Core.Option.{Option, none, some}
use Prim.Native.Nat.{ℕ}
use native.Mathlib.Omega.{arith}
use Rattle.std.specs.Prelude.{if◌then◌else◌}
use Rattle.format.specs.Basics.{and_then, begins_with, ascii, is_some, is_empty}
use Rattle.format.specs.TextReader.{Split, in_front, split_at_bar, up_to_bar, is_bar}
use Rattle.trim.specs.Span.{part}
use Rattle.text_lines.specs.Views.{StepAt}
use Rattle.text_lines.specs.Groups.{parts_from, RowAt}
use Rattle.text_tables.specs.Debug.{Groups, label_view, but_last, line_view, BarAt}
use Rattle.text_lines.proofs.TestLaws.{by_test}
use Rattle.text_lines.proofs.RowLaws.{rows_on, row-groups}

split_bar : (l : List ℕ) (ls : List (List ℕ)) → begins_with (61 ∷ []) l ≡ true → split_at_bar (l ∷ ls) ≡ record { before = []; after = some ls }
unfolding split_at_bar ascii
split_bar l ls t = rw t

split_on : (l : List ℕ) (ls : List (List ℕ)) → begins_with (61 ∷ []) l ≡ false → split_at_bar (l ∷ ls) ≡ in_front l (split_at_bar ls)
unfolding split_at_bar ascii
split_on l ls t = rw t

-- whether the last of these lines begins with =; b says it of the line before them
unfoldable pub last_bar : Bool → List (List ℕ) → Bool
last_bar b [] = b
last_bar b (l ∷ ls) = last_bar (begins_with (61 ∷ []) l) ls

some_if : {A : Type 0} (b : Bool) (a : A) → is_some (if b then some a else none) ≡ b
unfolding is_some
some_if true a = refl
some_if false a = refl

some_then : (l : List ℕ) (o : Option (List (List ℕ))) → is_some (and_then o λ ks. some (l ∷ ks)) ≡ is_some o
unfolding is_some
some_then l none = refl
some_then l (some ks) = refl

pub last_bar_lem : (ls : List (List ℕ)) → last_bar false ls ≡ is_some (up_to_bar ls)
unfolding last_bar up_to_bar is_some ascii
last_bar_lem [] = refl
last_bar_lem (l ∷ []) = sym (some_if (begins_with (61 ∷ []) l) [])
last_bar_lem (l ∷ m ∷ ls) = last_bar_lem (m ∷ ls) ∙ sym (some_then l (up_to_bar (m ∷ ls)))

last_line_lem : (l : List ℕ) (ls : List (List ℕ)) → not (is_empty ls) ≡ false → but_last (l ∷ ls) ≡ []
unfolding but_last is_empty
last_line_lem l [] q = refl
last_line_lem l (k ∷ ls) q = absurd (true≢false q)

more-lines : (l : List ℕ) (ls : List (List ℕ)) → not (is_empty ls) ≡ true → but_last (l ∷ ls) ≡ l ∷ but_last ls
unfolding but_last is_empty
more-lines l [] q = absurd (true≢false (sym q))
more-lines l (k ∷ ls) q = refl

module _ (t : List ℕ) (at a e n : ℕ) (l : RowAt t at a e n) where
  abbrev first : List ℕ
  first = part a e t

  split_at : (p : Split) → split_at_bar (first ∷ (parts_from t n).before) ≡ p → split_at_bar (parts_from t at).before ≡ p
  split_at p q = ap split_at_bar (rows_on t at a e n l) ∙ q

  pub bar_here : begins_with (61 ∷ []) first ≡ true → BarAt t at n
  bar_here h =
      record { on = l.on; next = l.next; groups = row-groups t at a e n l; after = ap (λ (p : Split). p.after) (split_at _ (split_bar first (parts_from t n).before h)) }

  pub bar_later : begins_with (61 ∷ []) first ≡ false → (split_at_bar (parts_from t at).before).after ≡ (split_at_bar (parts_from t n).before).after
  bar_later h = ap (λ (p : Split). p.after) (split_at _ (split_on first (parts_from t n).before h))

  pub label-line : begins_with (61 ∷ []) first ≡ false → StepAt (label_view t) t at a e n
  label-line h =
      let s = split_at _ (split_on first (parts_from t n).before h) in
      record {
        ordered = l.ordered;
        inside = l.inside;
        on = l.on;
        next = l.next;
        same = ap (λ (p : Split). (p.before, (p.after, (parts_from t at).groups))) s
            ∙ ap (λ (g : Groups). (first ∷ (split_at_bar (parts_from t n).before).before, ((split_at_bar (parts_from t n).before).after, g))) (sym (row-groups t at a e n l));
      }

  pub label-end : begins_with (61 ∷ []) first ≡ true → (label_view t at).0 ≡ []
  label-end h = ap (λ (p : Split). p.before) (split_at _ (split_bar first (parts_from t n).before h))

  pub last_on : (b : Bool) → last_bar (begins_with (61 ∷ []) first) (parts_from t n).before ≡ last_bar b (parts_from t at).before
  unfolding last_bar
  last_on b = sym (ap (last_bar b) (rows_on t at a e n l))

  -- the last line of the group is no line of the table
  pub source-end : not (is_empty (parts_from t n).before) ≡ false → (line_view t at).0 ≡ []
  source-end q = ap but_last (rows_on t at a e n l) ∙ last_line_lem first (parts_from t n).before q

  pub source-line : not (is_empty (parts_from t n).before) ≡ true → StepAt (line_view t) t at a e n
  source-line q =
      record {
        ordered = l.ordered;
        inside = l.inside;
        on = l.on;
        next = l.next;
        same = ap (λ (ls : List (List ℕ)). (but_last ls, (parts_from t at).groups)) (rows_on t at a e n l)
            ∙ ap (λ (ls : List (List ℕ)). (ls, (parts_from t at).groups)) (more-lines first (parts_from t n).before q)
            ∙ ap (λ (g : Groups). (first ∷ but_last (parts_from t n).before, g)) (sym (row-groups t at a e n l));
      }

module _ (t : List ℕ) (at : ℕ) (q : (parts_from t at).before ≡ []) where
  pub bar_none : (split_at_bar (parts_from t at).before).after ≡ none
  unfolding split_at_bar
  bar_none = ap (λ (ls : List (List ℕ)). (split_at_bar ls).after) q

  pub label-done : (label_view t at).0 ≡ []
  unfolding split_at_bar
  label-done = ap (λ (ls : List (List ℕ)). (split_at_bar ls).before) q

  pub source-done : (line_view t at).0 ≡ []
  unfolding but_last
  source-done = ap but_last q

  pub last_done : (b : Bool) → last_bar b (parts_from t at).before ≡ b
  unfolding last_bar
  last_done b = ap (last_bar b) q

-- where the last line begins with =, the lines up to it are all but the last
pub up_all : (ls ks : List (List ℕ)) → up_to_bar ls ≡ some ks → ks ≡ but_last ls
unfolding up_to_bar but_last
up_all [] ks e = let z : ◌≡◌ {A = ℕ} 0 1 = cc in absurd (omega arith)
up_all (l ∷ []) ks e =
    by_test (is_bar l)
    (λ h. let q : some [] ≡ some ks = simp h at e in cc)
    (λ h. let q : none ≡ some ks = simp h at e in let z : ◌≡◌ {A = ℕ} 0 1 = cc in absurd (omega arith))
up_all (l ∷ m ∷ ls) ks e = go (up_to_bar (m ∷ ls)) (λ k. up_all (m ∷ ls) k) e
  where
    go : (o : Option (List (List ℕ))) → ((k : List (List ℕ)) → o ≡ some k → k ≡ but_last (m ∷ ls)) → (and_then o λ k. some (l ∷ k)) ≡ some ks → ks ≡ l ∷ but_last (m ∷ ls)
    go none q f = let z : ◌≡◌ {A = ℕ} 0 1 = cc in absurd (omega arith)
    go (some k) q f = let p : l ∷ k ≡ ks = cc in sym p ∙ ap (λ (x : List (List ℕ)). l ∷ x) (q k refl)
