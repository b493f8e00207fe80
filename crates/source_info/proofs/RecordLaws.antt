-- A walk along the records of a well formed object, for a question F of which the records that are left decide. Assumes nothing.
use mathlib.Core.Path.{◌≡◌, sym, ◌∙◌, ap, subst}
use mathlib.Core.List.{List, [], ◌∷◌}
use mathlib.Core.Option.{some}
use Prim.Native.Nat.{ℕ, ◌+◌, ◌≤◌, ◌<◌}
use native.Mathlib.Omega.{arith}
use lib.ListN.{length, get_or}
use lib.Dec.{eqb}
use borrow.Author.Tests.{eq-eqb, ne_eqb}
use Rattle.format.specs.Basics.{given}
use Rattle.format.specs.ObjectFile.{ObjectFile}
use Rattle.format.specs.Records.{Record, placed, empty_object}
use Rattle.format.specs.Words.{object_of, record_from, records_from}
use Rattle.format.proofs.ListLaws.{by_test}
use Rattle.object.specs.Bodies.{body_at, groups_at, text_at, Text}
use Rattle.object.specs.Access.{kind_at, line_block_at, record_at}
use Rattle.object.proofs.Formed.{held}
use Rattle.object.proofs.AccessLaws.{next, done, record_is, source_is}

-- the records left from a head on decide the question
pub record Left {A : Type 0} (ws : List ℕ) (at : ℕ) (F : ObjectFile → A) (v : A) : Type 0 where
  pub records : List Record
  pub stops : body_at ws at ≡ []
  pub read : records_from (groups_at ws at) ≡ given records
  pub same : F (placed records) ≡ v

-- the record at a head, and those after it
pub record Here {A : Type 0} (ws : List ℕ) (at : ℕ) (F : ObjectFile → A) (v : A) : Type 0 where
  pub rest : List Record
  pub head : record_from (get_or ws at 0, body_at ws (at + 1)) ≡ given (record_at ws at)
  pub stops : body_at ws (at + 1 + length (body_at ws (at + 1))) ≡ []
  pub read : records_from (groups_at ws (at + 1 + length (body_at ws (at + 1)))) ≡ given rest
  pub same : F (placed (record_at ws at ∷ rest)) ≡ v

module _ {A : Type 0} (ws : List ℕ) (F : ObjectFile → A) where
  pub start : (h : ObjectFile) → object_of ws ≡ given h → Left ws 0 F (F h)
  start h e = let a = held ws h e in record { records = a.records; stops = a.starts; read = a.read; same = ap F a.is }

  pub finish : (at : ℕ) (v : A) → length ws ≤ at → Left ws at F v → F empty_object ≡ v
  unfolding placed
  finish at v l a = ap (λ rs. F (placed rs)) (sym (done ws at a.records a.read l)) ∙ a.same

  pub here : (at : ℕ) (v : A) → at < length ws → Left ws at F v → Here ws at F v
  here at v l a =
      let n = next ws at a.records a.read l a.stops in
      let q = record_is ws at n.first n.head l a.stops in
      record {
        rest = n.rest;
        head = n.head ∙ ap given q;
        stops = n.stops;
        read = n.tail;
        same = ap (λ r. F (placed (r ∷ n.rest))) (sym q) ∙ ap (λ rs. F (placed rs)) (sym n.all) ∙ a.same;
      }

-- past a record that does not count, or by a question that it has changed
pub on : {A : Type 0} (ws : List ℕ) (F G : ObjectFile → A) (at n : ℕ) (v : A) (a : Here ws at F v)
    → n ≡ at + 1 + length (body_at ws (at + 1)) → G (placed a.rest) ≡ F (placed (record_at ws at ∷ a.rest)) → Left ws n G v
on ws F G at n v a e q =
    subst (λ k. Left ws k G v) (sym e) (record { records = a.rest; stops = a.stops; read = a.read; same = q ∙ a.same })

-- what a record adds
module _ (ws : List ℕ) (at : ℕ) (rs : List Record) where
  abbrev k : ℕ
  k = kind_at ws at

  pub source-here : k ≡ 4 → (placed (record_at ws at ∷ rs)).source ≡ some (text_at ws (at + 1))
  unfolding record_at placed
  source-here e = simp (ne_eqb k 0 (λ z. omega arith), ne_eqb k 2 (λ z. omega arith), ne_eqb k 3 (λ z. omega arith), eq-eqb k 4 e)

  pub source-other : (k ≡ 4 → ⊥) → (placed rs).source ≡ (placed (record_at ws at ∷ rs)).source
  unfolding record_at placed
  source-other n =
      by_test (eqb k 0) (λ t. simp t)
      (λ t. by_test (eqb k 2) (λ t2. simp (t, t2)) (λ t2. by_test (eqb k 3) (λ t3. simp (t, t2, t3))
      (λ t3. simp (t, t2, t3, ne_eqb k 4 n))))

  pub lines-here : k ≡ 3 → (placed (record_at ws at ∷ rs)).line_blocks ≡ line_block_at ws at ∷ (placed rs).line_blocks
  unfolding record_at placed
  lines-here e = simp (ne_eqb k 0 (λ z. omega arith), ne_eqb k 2 (λ z. omega arith), eq-eqb k 3 e)

  pub lines_other : (k ≡ 3 → ⊥) → (placed rs).line_blocks ≡ (placed (record_at ws at ∷ rs)).line_blocks
  unfolding record_at placed
  lines_other n =
      by_test (eqb k 0) (λ t. simp t)
      (λ t. by_test (eqb k 2) (λ t2. simp (t, t2)) (λ t2. by_test (eqb k 4) (λ t3. simp (t, t2, ne_eqb k 3 n, t3))
      (λ t3. simp (t, t2, ne_eqb k 3 n, t3))))

-- the text of a source record
pub source-text : {A : Type 0} (ws : List ℕ) (F : ObjectFile → A) (at : ℕ) (v : A) → Here ws at F v → kind_at ws at ≡ 4
    → Text (body_at ws (at + 1))
source-text ws F at v a e = (source_is ws at (record_at ws at) a.head e).1
