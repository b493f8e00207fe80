-- A text file that reads: its object's blocks, labels and relocations are those of its rows. Assumes nothing.
use mathlib.Core.Path.{◌≡◌, refl, sym, ap, ◌∙◌, subst}
use mathlib.Core.Bool.{Bool, true, false, ◌&&◌, not}
use mathlib.Core.List.{List, [], ◌∷◌, ◌++◌, map, flat_map}
use Prim.Native.Nat.{ℕ}
use native.Mathlib.Omega.{arith}
use lib.Dec.{eqb}
use borrow.Author.Tests.{eqb-true}
use Rattle.std.specs.Prelude.{if◌then◌else◌}
use Rattle.format.specs.Basics.{given, is_empty, is_some, ascii, eqs, begins_with}
use Rattle.format.specs.Utf8.{is_utf8, trim}
use Rattle.format.specs.Tokens.{parts_at, fold_outcome}
use Rattle.format.specs.Sorted.{upsert_all, sorted}
use Rattle.format.specs.ObjectFile.{ObjectFile, Label, label_key}
use Rattle.format.specs.Records.{Record, block, label, relocation, empty_object, drop_stray_relocations, text_questions, ask_all, concluded}
use Rattle.format.specs.TextReader.{kept_lines, after_magic, parse_group, text_object, split_at_bar}
use Rattle.format.proofs.ListLaws.{map-append}
use Rattle.format.proofs.RisesLaws.{rises_sorted}
use Rattle.format.proofs.Outcomes.{Gives, gives_bind, gives_ask}
use Rattle.text_lines.specs.Lines.{is_kept, kept}
use Rattle.text_lines.specs.Groups.{parts_from, kind_of}
use Rattle.text_lines.proofs.TestLaws.{by_test}
use Rattle.text_rows.specs.Rows.{row_key, symbol_row, label_row, under_header, rows_in, group_rows, rows_of, labels_in, join_labels}
use Rattle.text_rows.proofs.JoinLaws.{joined-none, joined_is}
use Rattle.text_rows.proofs.TakenLaws.{upsert-made, labels-more, symbol-rows, start-rows, TakenOf, groups_taken, gives_after}

-- ROWS THAT ARE LABELS
abbrev AllLabels : List Record → Type 0
AllLabels rs = rs ≡ map label (labels_in rs)

labels-back : (ls : List Label) → labels_in (map label ls) ≡ ls
unfolding labels_in
labels-back [] = refl
labels-back (l ∷ ls) = ap (λ (z : List Label). l ∷ z) (labels-back ls)

all_of : (rs : List Record) (ls : List Label) → rs ≡ map label ls → AllLabels rs
all_of rs ls e = e ∙ ap (map label) (sym (ap labels_in e ∙ labels-back ls))

made_twice : (f : List ℕ → Label) (ls : List (List ℕ)) → map (λ l. label (f l)) ls ≡ map label (map f ls)
made_twice f [] = refl
made_twice f (l ∷ ls) = ap (λ (z : List Record). label (f l) ∷ z) (made_twice f ls)

symbols_all : (ls : List (List ℕ)) → AllLabels (rows_in 1 0 ls)
symbols_all ls = all_of (rows_in 1 0 ls) (map symbol_row ls) (symbol-rows ls ∙ made_twice symbol_row ls)

starts-all : (ls : List (List ℕ)) → AllLabels (rows_in 3 0 ls)
starts-all ls = all_of (rows_in 3 0 ls) (map label_row (split_at_bar ls).before) (start-rows ls ∙ made_twice label_row (split_at_bar ls).before)

groups-all : (kind : ℕ) → ((ls : List (List ℕ)) → AllLabels (rows_in kind 0 ls)) → (gs : List (List ℕ × List (List ℕ))) → AllLabels (flat_map (group_rows kind) gs)
unfolding flat_map group_rows labels_in
groups-all kind all [] = refl
groups-all kind all (g ∷ gs) = join (group_rows kind g) (flat_map (group_rows kind) gs) (go (eqb (kind_of g.0) kind)) (groups-all kind all gs)
  where
    go : (t : Bool) → AllLabels (if t then rows_in kind 0 (under_header kind g.1) else [])
    go true = all (under_header kind g.1)
    go false = refl

    join : (rs qs : List Record) → AllLabels rs → AllLabels qs → AllLabels (rs ++ qs)
    join rs qs e f =
        ap (λ (z : List Record). z ++ qs) e ∙ ap (λ (z : List Record). map label (labels_in rs) ++ z) f
        ∙ sym (map-append label (labels_in rs) (labels_in qs)) ∙ ap (map label) (sym (labels-more rs qs))

upsert_all-made : (ls acc : List Label) → upsert_all row_key (map label ls) (map label acc) ≡ map label (upsert_all label_key ls acc)
unfolding upsert_all row_key
upsert_all-made [] acc = refl
upsert_all-made (l ∷ ls) acc = ap (upsert_all row_key (map label ls)) (sym (upsert-made label_key row_key label (λ x. refl) l acc)) ∙ upsert_all-made ls _

labels-sorted : (rs : List Record) → AllLabels rs → sorted label_key (labels_in rs) ≡ labels_in (sorted row_key rs)
labels-sorted rs e =
    sym (ap (λ (z : List Record). labels_in (sorted row_key z)) e ∙ ap labels_in (upsert_all-made (labels_in rs) []) ∙ labels-back (sorted label_key (labels_in rs)))

-- THE FILE: the first kept line opens no group
eqs-same : (xs ys : List ℕ) → eqs xs ys ≡ true → xs ≡ ys
unfolding eqs
eqs-same [] [] e = refl
eqs-same [] (y ∷ ys) e = let z : ◌≡◌ {A = ℕ} 0 1 = cc in absurd (omega arith)
eqs-same (x ∷ xs) [] e = let z : ◌≡◌ {A = ℕ} 0 1 = cc in absurd (omega arith)
eqs-same (x ∷ xs) (y ∷ ys) e =
    by_test (eqb x y)
    (λ t. let p : x ≡ y = eqb-true x y t in let q : xs ≡ ys = eqs-same xs ys (simp t at e) in cc)
    (λ t. let f : false ≡ true = simp t at e in let z : ◌≡◌ {A = ℕ} 0 1 = cc in absurd (omega arith))

abbrev dotted : List ℕ → Bool
dotted l = begins_with (ascii ".") l

magic_body : (ls : List (List ℕ)) → Gives (λ ks. (parts_at dotted ks).groups ≡ (parts_at dotted ls).groups) (after_magic ls)
unfolding after_magic parts_at begins_with ascii
magic_body [] = tt
magic_body (l ∷ ls) = gives_ask (λ ks. (parts_at dotted ks).groups ≡ (parts_at dotted (l ∷ ls)).groups) 21 (eqs l (ascii "LC-3 OBJ FILE")) (given ls) (λ t. go (eqs-same l (ascii "LC-3 OBJ FILE") t))
  where
    no : (l : List ℕ) → l ≡ ascii "LC-3 OBJ FILE" → dotted l ≡ false
    no l e = ap dotted e

    go : l ≡ ascii "LC-3 OBJ FILE" → (parts_at dotted ls).groups ≡ (parts_at dotted (l ∷ ls)).groups
    go e = simp (no l e)

-- the parts of an object that the rows of a trimmed file make
pub record PartsOf (t : List ℕ) (h : ObjectFile) : Type 0 where
  pub blocks : map block h.blocks ≡ sorted row_key (rows_of 0 t)
  pub labels : h.labels ≡ join_labels (labels_in (sorted row_key (rows_of 1 t))) (labels_in (sorted row_key (rows_of 3 t)))
  pub relocations : map relocation h.relocations
      ≡ (if is_empty h.labels && not (is_some h.source) then [] else sorted row_key (rows_of 2 t))

module _ (t : List ℕ) (h : ObjectFile) (k : TakenOf (parts_from t 0).groups empty_object h) where
  abbrev rows : ℕ → List Record
  rows kind = flat_map (group_rows kind) (parts_from t 0).groups

  join_taken : h.labels ≡ join_labels (labels_in (sorted row_key (rows 1))) (labels_in (sorted row_key (rows 3)))
  unfolding empty_object
  join_taken =
      joined_is (sorted label_key (labels_in (rows 1))) (sorted label_key (labels_in (rows 3))) h.labels (rises_sorted label_key (labels_in (rows 1)))
      (rises_sorted label_key (labels_in (rows 3))) (k.labels [] [] joined-none)
      ∙ ap (λ (z : List Label). join_labels z (sorted label_key (labels_in (rows 3)))) (labels-sorted (rows 1) (groups-all 1 symbols_all (parts_from t 0).groups))
      ∙ ap (join_labels (labels_in (sorted row_key (rows 1)))) (labels-sorted (rows 3) (groups-all 3 starts-all (parts_from t 0).groups))

  parts_taken : PartsOf t (drop_stray_relocations h)
  unfolding drop_stray_relocations rows_of empty_object
  parts_taken =
      by_test (is_empty h.labels && not (is_some h.source))
      (λ u. rw u (record { blocks = k.blocks; labels = join_taken; relocations = rw u refl }))
      (λ u. rw u (record { blocks = k.blocks; labels = join_taken; relocations = k.relocations ∙ rw u refl }))

kept_from : (bs : List ℕ) → (parts_at dotted (kept_lines bs)).groups ≡ (parts_from (trim bs) 0).groups
unfolding parts_from kept kept_lines is_kept
kept_from bs = refl

-- THE LAW: of a text file that reads, the parts of its object
pub text-parts : (bs : List ℕ) → Gives (PartsOf (trim bs)) (text_object bs)
unfolding text_object concluded
text-parts bs =
    gives_ask P 20 (is_utf8 bs) _ λ _.
    gives_bind P (λ ls. (parts_at dotted ls).groups ≡ (parts_at dotted (kept_lines bs)).groups) (after_magic (kept_lines bs)) _ (magic_body (kept_lines bs)) λ ls e.
    gives_ask P 22 (is_empty (parts_at dotted ls).before) _ λ _.
    gives_bind P (TakenOf (parts_at dotted ls).groups empty_object) (fold_outcome parse_group empty_object (parts_at dotted ls).groups) _ (groups_taken empty_object (parts_at dotted ls).groups) λ h k.
    gives_after P (ask_all text_questions h) _ λ _.
    parts_taken (trim bs) h (subst (λ (gs : List (List ℕ × List (List ℕ))). TakenOf gs empty_object h) (e ∙ kept_from bs) k)
  where
    P : ObjectFile → Type 0
    P = PartsOf (trim bs)
