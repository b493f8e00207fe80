-- Line blocks asked by line and by address, record by record. Assumes nothing.
use mathlib.Core.Path.{◌≡◌, refl, sym, ◌∙◌, ap, subst}
use mathlib.Core.List.{List, [], ◌∷◌, map}
use mathlib.Core.Option.{Option, none, some, or_else}
use Prim.Native.Nat.{ℕ, zero, suc, ◌+◌, ◌%◌, ◌^◌, ◌≤◌, ◌<◌}
use native.Mathlib.Omega.{arith}
use native.Mathlib.Nat.{add-zero}
use lib.ListN.{length, get_or, get_elem?}
use borrow.Author.Tests.{le-leb, lt-leb, lt-ltb, eq-eqb, ne_eqb}
use Rattle.format.specs.Basics.{Outcome, refused, given, ◌>>=◌, need, and_then}
use Rattle.format.specs.ObjectFile.{ObjectFile, LineBlock}
use Rattle.format.specs.Records.{placed, empty_object}
use Rattle.format.specs.Words.{object_of}
use Rattle.format.specs.Source.{last_starting, get_address, offset_of, find_line}
use Rattle.format.specs.Calls.{Value, source_in, value_answer, query_get, query_find}
use Rattle.format.proofs.WordsOnly.{bind_given, given-same}
use Rattle.object.specs.Bodies.{body_at, number_at}
use Rattle.object.specs.Access.{kind_at, address_in, line_block_at}
use Rattle.source_info.proofs.RecordLaws.{Left, Here, start, finish, on, lines-here, lines_other}
use Rattle.line_tables.specs.Tables.{line_by, address_by, block_in}
use Rattle.source_info.proofs.SourceLaws.{source_of}

-- an offset from the middle: so many addresses are passed
abbrev pub offset_from : ℕ → ℕ → List ℕ → Option ℕ
offset_from passed a xs = and_then (offset_of a xs) λ k. some (passed + k)

pub offset_start : (a : ℕ) (xs : List ℕ) → offset_from 0 a xs ≡ offset_of a xs
offset_start a xs = go (offset_of a xs)
  where
    go : (o : Option ℕ) → (and_then o λ k. some (0 + k)) ≡ o
    go none = refl
    go (some k) = let e : 0 + k ≡ k = omega arith in ap some e

module _ (passed a x : ℕ) (xs : List ℕ) where
  pub offset_here : x ≡ a → offset_from passed a (x ∷ xs) ≡ some passed
  unfolding offset_of
  offset_here e = rw (eq-eqb x a e) (ap some (add-zero passed))

  pub offset_next : (x ≡ a → ⊥) → offset_from passed a (x ∷ xs) ≡ offset_from (passed + 1) a xs
  unfolding offset_of
  offset_next n = rw (ne_eqb x a n) (go (offset_of a xs))
    where
      go : (o : Option ℕ) → (and_then (and_then o λ i. some (suc i)) λ k. some (passed + k)) ≡ (and_then o λ k. some (passed + 1 + k))
      go none = refl
      go (some k) = let e : passed + suc k ≡ passed + 1 + k = omega arith in ap some e

pub offset_end : (passed a : ℕ) → offset_from passed a [] ≡ none
unfolding offset_of
offset_end passed a = refl

-- the first block that has the address
abbrev pub answered : Option ℕ → Value
answered o = value_answer (need 6 o)

pub answered_none : record { number = 6; value = 0 } ≡ answered none
unfolding value_answer
answered_none = refl

pub answered_some : (v : ℕ) → record { number = 0; value = v } ≡ answered (some v)
unfolding value_answer
answered_some v = refl

pub find_none : (a : ℕ) → record { number = 6; value = 0 } ≡ answered (find_line [] a)
unfolding find_line value_answer
find_none a = refl

module _ (l : LineBlock) (ls : List LineBlock) (a : ℕ) where
  pub find_found : (x : ℕ) → some x ≡ line_by l a → some x ≡ find_line (l ∷ ls) a
  unfolding find_line or_else
  find_found x e = ap (λ o. or_else o (find_line ls a)) e

  pub find_next : none ≡ line_by l a → find_line ls a ≡ find_line (l ∷ ls) a
  unfolding find_line or_else
  find_next e = ap (λ o. or_else o (find_line ls a)) e

-- by one block
pub line_some : (l : LineBlock) (a i f v : ℕ) → f ≡ l.first → some i ≡ offset_of a l.addresses → v ≡ (f + i) % 2 ^ 64 → some v ≡ line_by l a
line_some l a i f v e o q =
    ap some (q ∙ ap (λ k. (k + i) % 2 ^ 64) e) ∙ ap (λ p. and_then p λ k. some ((l.first + k) % 2 ^ 64)) o

pub line-none : (l : LineBlock) (a : ℕ) → none ≡ offset_of a l.addresses → none ≡ line_by l a
line-none l a o = ap (λ p. and_then p λ k. some ((l.first + k) % 2 ^ 64)) o

-- along the records
abbrev pub find_in : ℕ → ObjectFile → Option ℕ
find_in a h = find_line h.line_blocks a

pub find_done : (ws : List ℕ) (a at : ℕ) (v : Option ℕ) → length ws ≤ at → Left ws at (find_in a) v → record { number = 6; value = 0 }
    ≡ answered v
unfolding empty_object
find_done ws a at v l f = find_none a ∙ ap answered (finish ws (find_in a) at v l f)

module _ (ws : List ℕ) (a at : ℕ) (v : Option ℕ) (f : Here ws at (find_in a) v) where
  abbrev tail : List LineBlock
  tail = (placed f.rest).line_blocks

  module _ (k : kind_at ws at ≡ 3) where
    pub find_take : (x : ℕ) → some x ≡ line_by (line_block_at ws at) a → record { number = 0; value = x } ≡ answered v
    find_take x e =
        answered_some x ∙ ap answered (find_found (line_block_at ws at) tail a x e)
        ∙ ap (λ xs. answered (find_line xs a)) (sym (lines-here ws at f.rest k)) ∙ ap answered f.same

    pub find_skip : (n : ℕ) → n ≡ at + 1 + length (body_at ws (at + 1)) → none ≡ line_by (line_block_at ws at) a → Left ws n (find_in a) v
    find_skip n p e =
        on ws (find_in a) (find_in a) at n v f p
        (find_next (line_block_at ws at) tail a e ∙ ap (λ xs. find_line xs a) (sym (lines-here ws at f.rest k)))

  pub find_other : (n : ℕ) → n ≡ at + 1 + length (body_at ws (at + 1)) → (kind_at ws at ≡ 3 → ⊥) → Left ws n (find_in a) v
  find_other n p k = on ws (find_in a) (find_in a) at n v f p (ap (λ xs. find_line xs a) (lines_other ws at f.rest k))

-- the last block that begins at or before a line, with a best one so far
abbrev pub last_with : ℕ → Option LineBlock → ObjectFile → Option LineBlock
last_with line best h = or_else (last_starting line h.line_blocks) best

pub block_some : (ws : List ℕ) (at : ℕ) → at < length ws → block_in ws at ≡ some (line_block_at ws at)
unfolding block_in
block_some ws at h = rw (lt-ltb at (length ws) h)

pub last_none : (line : ℕ) (h : ObjectFile) → last_with line none h ≡ last_starting line h.line_blocks
unfolding or_else
last_none line h = go (last_starting line h.line_blocks)
  where
    go : (o : Option LineBlock) → or_else o none ≡ o
    go none = refl
    go (some l) = refl

module _ (line : ℕ) (best : Option LineBlock) (l : LineBlock) (ls : List LineBlock) where
  pub last_better : l.first ≤ line → or_else (last_starting line ls) (some l) ≡ or_else (last_starting line (l ∷ ls)) best
  unfolding last_starting or_else
  last_better h = rw (le-leb l.first line h) (go (last_starting line ls))
    where
      go : (o : Option LineBlock) → or_else o (some l) ≡ or_else (or_else o (some l)) best
      go none = refl
      go (some m) = refl

  pub last-later : (l.first ≤ line → ⊥) → or_else (last_starting line ls) best ≡ or_else (last_starting line (l ∷ ls)) best
  unfolding last_starting or_else
  last-later n = rw (lt-leb l.first line (omega (arith, n))) (go (last_starting line ls))
    where
      go : (o : Option LineBlock) → or_else o best ≡ or_else (or_else o none) best
      go none = refl
      go (some m) = refl

-- along the records
pub last-start : (ws : List ℕ) (line : ℕ) (h : ObjectFile) → object_of ws ≡ given h
    → Left ws 0 (last_with line none) (last_starting line h.line_blocks)
last-start ws line h e = subst (λ v. Left ws 0 (last_with line none) v) (last_none line h) (start ws (last_with line none) h e)

pub last_done : (ws : List ℕ) (line at : ℕ) (best v : Option LineBlock) → length ws ≤ at → Left ws at (last_with line best) v → best ≡ v
unfolding empty_object last_starting or_else
last_done ws line at best v l a = finish ws (last_with line best) at v l a

module _ (ws : List ℕ) (line at n : ℕ) (best v : Option LineBlock) (a : Here ws at (last_with line best) v)
    (e : n ≡ at + 1 + length (body_at ws (at + 1))) where
  abbrev F : Option LineBlock → ObjectFile → Option LineBlock
  F b = last_with line b

  abbrev ls : List LineBlock
  ls = (placed a.rest).line_blocks

  pub last-take : at < length ws → kind_at ws at ≡ 3 → number_at ws (at + 1) ≤ line → Left ws n (F (block_in ws at)) v
  last-take l k h =
      on ws (F best) (F (block_in ws at)) at n v a e
      (ap (λ b. or_else (last_starting line ls) b) (block_some ws at l) ∙ last_better line best (line_block_at ws at) ls h
      ∙ ap (λ xs. or_else (last_starting line xs) best) (sym (lines-here ws at a.rest k)))

  pub last_skip : kind_at ws at ≡ 3 → (number_at ws (at + 1) ≤ line → ⊥) → Left ws n (F best) v
  last_skip k h =
      on ws (F best) (F best) at n v a e
      (last-later line best (line_block_at ws at) ls h
      ∙ ap (λ xs. or_else (last_starting line xs) best) (sym (lines-here ws at a.rest k)))

  pub last-other : (kind_at ws at ≡ 3 → ⊥) → Left ws n (F best) v
  last-other k = on ws (F best) (F best) at n v a e (ap (λ xs. or_else (last_starting line xs) best)
      (lines_other ws at a.rest k))

-- an address word by its place
pub elem_some : (xs : List ℕ) (i : ℕ) → i < length xs → get_elem? (map address_in xs) i ≡ some (address_in (get_or xs i 0))
elem_some [] i h = absurd (omega arith)
elem_some (x ∷ xs) zero h = refl
elem_some (x ∷ xs) (suc i) h = elem_some xs i (omega arith)

pub elem_none : (xs : List ℕ) (i : ℕ) → length xs ≤ i → get_elem? (map address_in xs) i ≡ none
elem_none [] i h = refl
elem_none (x ∷ xs) zero h = absurd (omega arith)
elem_none (x ∷ xs) (suc i) h = elem_none xs i (omega arith)

-- the object whose source was given
pub record Object (ws : List ℕ) : Type 0 where
  pub both : ObjectFile × List ℕ
  pub source : source_in ws ≡ given both
  pub is : object_of ws ≡ given both.0

pub source-object : (ws s : List ℕ) → given s ≡ source_of ws → Object ws
unfolding source_in
source-object ws s e =
    let f = bind_given (source_in ws) (λ x. given x.1) s (sym e) in
    let g = bind_given (object_of ws) (λ h. need 4 h.source >>= λ t. given (h, t)) f.0 f.1 in
    let d = bind_given (need 4 g.0.source) (λ t. given (g.0, t)) f.0 g.2 in
    record { both = f.0; source = f.1; is = g.1 ∙ ap (λ (x : ObjectFile × List ℕ). given x.0) (given-same d.2) }

refused-first : {B : Type 0} (ws : List ℕ) (n : ℕ) (f : ObjectFile × List ℕ → Outcome B) → refused n ≡ source_of ws → (source_in ws >>= f)
    ≡ refused n
refused-first ws n f e = go (source_in ws) e
  where
    go : (o : Outcome (ObjectFile × List ℕ)) → refused n ≡ (o >>= λ x. given x.1) → (o >>= f) ≡ refused n
    go (refused m) q = let r : n ≡ m = cc in ap refused (sym r)
    go (given x) q = let z : ◌≡◌ {A = ℕ} 0 1 = cc in absurd (omega arith)

module _ (ws : List ℕ) (n : ℕ) (e : refused n ≡ source_of ws) where
  pub get_refused : (line : ℕ) → record { number = n; value = 0 } ≡ query_get ws line
  unfolding query_get value_answer
  get_refused line = sym (ap value_answer (refused-first ws n (λ x. need 6 (get_address x.0.line_blocks line)) e))

  pub find_refused : (a : ℕ) → record { number = n; value = 0 } ≡ query_find ws a
  unfolding query_find value_answer
  find_refused a = sym (ap value_answer (refused-first ws n (λ x. need 6 (find_line x.0.line_blocks a)) e))

module _ (ws : List ℕ) (o : Object ws) where
  pub get_is : (line : ℕ) → answered (address_by (last_starting line o.both.0.line_blocks) line) ≡ query_get ws line
  unfolding query_get get_address
  get_is line = sym (ap (λ p. value_answer (p >>= λ x. need 6 (get_address x.0.line_blocks line))) o.source)

  pub find_is : (a : ℕ) → answered (find_line o.both.0.line_blocks a) ≡ query_find ws a
  unfolding query_find
  find_is a = sym (ap (λ p. value_answer (p >>= λ x. need 6 (find_line x.0.line_blocks a))) o.source)
