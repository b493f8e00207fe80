-- Whether an object has blocks only, record by record. Assumes nothing.
use mathlib.Core.Path.{◌≡◌, refl, sym, ap, subst, ◌∙◌}
use mathlib.Core.Bool.{Bool, true, false, ◌&&◌, ◌||◌, not, true≢false}
use mathlib.Core.List.{List, [], ◌∷◌, ◌++◌}
use mathlib.Core.Option.{Option, none, some, get_or}
use Prim.Native.Nat.{ℕ, ◌+◌, ◌≤◌, ◌<◌}
use native.Mathlib.Omega.{arith}
use lib.ListN.{length}
use lib.Dec.{eqb}
use borrow.Author.Tests.{eq-eqb, ne_eqb, eqb-true}
use Rattle.format.specs.Basics.{given_or, and_then, is_empty, is_some}
use Rattle.format.specs.ObjectFile.{ObjectFile}
use Rattle.format.specs.Records.{Record, placed, empty_object}
use Rattle.format.specs.Calls.{checked}
use Rattle.format.specs.TextWriter.{line_table, bar_line, blocks_only}
use Rattle.format.proofs.ListLaws.{by_test}
use Rattle.object.specs.Bodies.{body_at}
use Rattle.object.specs.Access.{kind_at, record_at}
use Rattle.object.proofs.Formed.{formed}
use Rattle.object.proofs.BodyLaws.{body_fits}
use Rattle.source_info.proofs.RecordLaws.{Left, start, finish, here, on}
use Rattle.text_lines_out.specs.Walk.{line_blocks_in, source_table}
use Rattle.text_write.specs.Tables.{object_in}

and-false : (a b : Bool) → (a && false && b) ≡ false
and-false true b = refl
and-false false b = refl

and_last : (a b : Bool) → (a && b && false) ≡ false
and_last true true = refl
and_last true false = refl
and_last false b = refl

module _ (ws : List ℕ) (at : ℕ) (rs : List Record) where
  abbrev k : ℕ
  k = kind_at ws at

  only_plain : (eqb k 0 || eqb k 3) ≡ true → blocks_only (placed rs) ≡ blocks_only (placed (record_at ws at ∷ rs))
  unfolding record_at placed blocks_only
  only_plain e =
      by_test (eqb k 0) (λ t. simp t)
      (λ t. let z : eqb k 3 ≡ true = simp t at e in
      let y : eqb k 2 ≡ false = ne_eqb k 2 (λ q. let w = eqb-true k 3 z in omega arith) in simp (t, y, z))

  only_symbolic : (eqb k 0 || eqb k 3) ≡ false → false ≡ blocks_only (placed (record_at ws at ∷ rs))
  unfolding record_at placed blocks_only is_empty is_some
  only_symbolic e =
      by_test (eqb k 0) (λ t. let z : true ≡ false = simp t at e in let y : ◌≡◌ {A = ℕ} 0 1 = cc in absurd (omega arith))
      (λ t. let z : eqb k 3 ≡ false = simp t at e in
      by_test (eqb k 2) (λ u. simp (t, u))
      (λ u. by_test (eqb k 4)
      (λ v. simp (t, u, z, v) (sym (and-false (is_empty (placed rs).labels) (is_empty (placed rs).relocations))))
      (λ v. simp (t, u, z, v) (sym (and_last (is_empty (placed rs).labels) (not (is_some (placed rs).source)))))))

not-true : (a : Bool) → not a ≡ true → a ≡ false
not-true true e = sym e
not-true false e = refl

not-false : (a : Bool) → not a ≡ false → a ≡ true
not-false true e = refl
not-false false e = sym e

module _ (ws : List ℕ) where
  pub only-start : checked ws ≡ 0 → Left ws 0 blocks_only (blocks_only (object_in ws))
  only-start e =
      let f = formed ws e in
      let q : object_in ws ≡ f.object = ap (λ o. given_or o empty_object) f.is in
      subst (λ (h : ObjectFile). Left ws 0 blocks_only (blocks_only h)) (sym q) (start ws blocks_only f.object f.is)

  pub only_end : (at : ℕ) (v : Bool) → length ws ≤ at → Left ws at blocks_only v → true ≡ v
  unfolding empty_object blocks_only is_empty is_some
  only_end at v h l = finish ws blocks_only at v h l

  module _ (at : ℕ) (v : Bool) (h : at < length ws) (l : Left ws at blocks_only v) where
    pub only-not : not (eqb (kind_at ws at) 0 || eqb (kind_at ws at) 3) ≡ true → false ≡ v
    only-not e =
        let g = here ws blocks_only at v h l in
        only_symbolic ws at g.rest (not-true (eqb (kind_at ws at) 0 || eqb (kind_at ws at) 3) e) ∙ g.same

    pub only-on : (n : ℕ) → n ≡ at + 1 + length (body_at ws (at + 1)) → not (eqb (kind_at ws at) 0 || eqb (kind_at ws at) 3) ≡ false
        → Left ws n blocks_only v
    only-on n z e =
        let g = here ws blocks_only at v h l in
        on ws blocks_only blocks_only at n v g z
        (only_plain ws at g.rest (not-false (eqb (kind_at ws at) 0 || eqb (kind_at ws at) 3) e))

    pub only-less : (n : ℕ) → n ≡ at + 1 + length (body_at ws (at + 1)) → (at < n) × (n ≤ length ws)
    only-less n e = (omega arith, omega (arith, body_fits ws (at + 1) (omega arith)))

-- by the kind
module _ (k : ℕ) where
  pub kind-block : k ≡ 0 → false ≡ not (eqb k 0 || eqb k 3)
  kind-block e = rw (eq-eqb k 0 e) refl

  pub kind-lines : (k ≡ 0 → ⊥) → k ≡ 3 → false ≡ not (eqb k 0 || eqb k 3)
  kind-lines n e = rw (ne_eqb k 0 n) (rw (eq-eqb k 3 e) refl)

  pub kind_symbolic : (k ≡ 0 → ⊥) → (k ≡ 3 → ⊥) → true ≡ not (eqb k 0 || eqb k 3)
  kind_symbolic n m = rw (ne_eqb k 0 n) (rw (ne_eqb k 3 m) refl)

-- an object of blocks only has no source
source-none : (a b : Bool) (o : Option (List ℕ)) (f : List ℕ → Option (List ℕ)) → (a && not (is_some o) && b) ≡ true
    → get_or (and_then o f) [] ≡ []
unfolding is_some
source-none a b none f e = refl
source-none a b (some x) f e = absurd (true≢false (sym e ∙ and-false a b))

pub only_bare : (ws : List ℕ) → blocks_only (object_in ws) ≡ true → source_table ws ≡ []
unfolding blocks_only source_table
only_bare ws e =
    let h : ObjectFile = object_in ws in
    source-none (is_empty h.labels) (is_empty h.relocations) h.source (λ s. some (line_table s (line_blocks_in ws) ++ bar_line)) e
