-- Whether an object is fair, by its records. Assumes nothing.
use mathlib.Core.Path.{◌≡◌, refl, sym, ◌∙◌, ap, subst}
use mathlib.Core.Bool.{Bool, true, false, ◌&&◌, ◌||◌, not, cond}
use mathlib.Core.List.{List, [], ◌∷◌, map}
use mathlib.Core.Option.{Option, none, some}
use Prim.Native.Nat.{ℕ, ◌+◌, ◌-◌, ◌≤◌, ◌<◌}
use native.Mathlib.Omega.{arith}
use native.Mathlib.Numerals.{add-one}
use lib.ListN.{length, get_or}
use lib.Dec.{leb, ltb, eqb}
use borrow.Author.Tests.{eq-eqb, ne_eqb, eqb-false, le-leb, lt-leb, ltb-true, ltb-false, leb-true, leb-false}
use Rattle.std.specs.Prelude.{if◌then◌else◌}
use Rattle.format.specs.Basics.{Outcome, refused, given, is_given, every, chain, is_empty, is_some}
use Rattle.format.specs.ObjectFile.{LineBlock, ObjectFile, line_end, strictly_rise, never_fall, apart, names_of, source_text, consistent}
use Rattle.format.specs.Records.{Record, block, label, line_block, source, relocation, placed, empty_object}
use Rattle.format.specs.Source.{newlines, line_count}
use Rattle.units.specs.Refusal.{number_of}
use Rattle.units.specs.declared.refusal.Refusal.{Refusal}
use Rattle.units.specs.declared.refusal.Refusal.TheVariants as refusal
use Rattle.well_formed.proofs.NumberLaws.{number_some}
use Rattle.format.specs.Calls.{Value, source_in, value_answer, query_count_lines, fair_answer, checked, refusal_of}
use Rattle.format.specs.Fair.{is_fair_name, is_fair_line_block, gaps_between, is_fair_by, is_fair}
use Rattle.format.proofs.ListLaws.{by_test, both, every_append}
use Rattle.format.specs.Utf8.{is_utf8}
use Rattle.format.specs.Words.{object_of, record_from}
use Rattle.object.specs.Bodies.{body_at}
use Rattle.object.specs.Access.{kind_at, label_at, line_block_at, relocation_at, record_at}
use Rattle.object.proofs.WordLaws.{head-kind}
use Rattle.object.proofs.BodyLaws.{head_at}
use Rattle.object.proofs.Formed.{held}
use Rattle.object.proofs.RefusalLaws.{refusal_of_lem}
use Rattle.source_info.proofs.RecordLaws.{Left, Here, start, finish, here, on}
use Rattle.fair.specs.FairRecords.{fair_lines, fair_lines_from, fair_parts, fair_step, FairIn, BlocksIn}

-- numbers that rise from a least one on
unfoldable pub rise_from : ℕ → List ℕ → Bool
rise_from least [] = true
rise_from least (x ∷ xs) = leb least x && rise_from (x + 1) xs

leb-suc : (a b : ℕ) → leb (a + 1) b ≡ ltb a b
leb-suc a b =
    by_test (ltb a b)
    (λ t. le-leb (a + 1) b (omega (arith, ltb-true a b t)) ∙ sym t)
    (λ t. lt-leb (a + 1) b (omega (arith, ltb-false a b t)) ∙ sym t)

rise_tail : (x : ℕ) (xs : List ℕ) → rise_from (x + 1) xs ≡ strictly_rise (x ∷ xs)
unfolding rise_from chain
rise_tail x [] = refl
rise_tail x (y ∷ ys) = rw (leb-suc x y) (ap (λ t. ltb x y && t) (rise_tail y ys))

pub rise_start : (xs : List ℕ) → rise_from 0 xs ≡ strictly_rise xs
unfolding rise_from chain
rise_start [] = refl
rise_start (x ∷ xs) = rw (le-leb 0 x (omega arith)) (rise_tail x xs)

pub rise_end : (least : ℕ) → rise_from least [] ≡ true
unfolding rise_from
rise_end least = refl

pub rise_next : (least x : ℕ) (xs : List ℕ) → least ≤ x → rise_from least (x ∷ xs) ≡ rise_from (x + 1) xs
unfolding rise_from
rise_next least x xs h = rw (le-leb least x h)

pub rise_falls : (least x : ℕ) (xs : List ℕ) → x < least → rise_from least (x ∷ xs) ≡ false
unfolding rise_from
rise_falls least x xs h = rw (lt-leb least x h)

-- LINE BLOCKS

-- one after the other, from a least first line on
unfoldable gaps_from : ℕ → List LineBlock → Bool
gaps_from least [] = true
gaps_from least (l ∷ ls) = leb least l.first && gaps_from (line_end l + 1) ls

gaps-tail : (l : LineBlock) (ls : List LineBlock) → gaps_from (line_end l + 1) ls ≡ gaps_between (l ∷ ls)
unfolding gaps_from gaps_between chain
gaps-tail l [] = refl
gaps-tail l (m ∷ ms) = rw (leb-suc (line_end l) m.first) (ap (λ t. ltb (line_end l) m.first && t) (gaps-tail m ms))

gaps-start : (ls : List LineBlock) → gaps_from 0 ls ≡ gaps_between ls
unfolding gaps_from gaps_between chain
gaps-start [] = refl
gaps-start (l ∷ ls) = rw (le-leb 0 l.first (omega arith)) (gaps-tail l ls)

first_out : (a b c d e : Bool) → (a && b && c && d && e) ≡ (a && (b && c && d && e))
first_out true b c d e = refl
first_out false b c d e = refl

exchange : (a b c d : Bool) → ((a && b) && (c && d)) ≡ ((b && c) && (a && d))
exchange true true c d = refl
exchange true false c d = refl
exchange false true true d = refl
exchange false true false d = refl
exchange false false c d = refl

lines-from : (s : List ℕ) (least : ℕ) (ls : List LineBlock)
    → fair_lines_from (newlines s) least ls ≡ (every (is_fair_line_block s) ls && gaps_from least ls)
unfolding fair_lines_from fair_lines is_fair_line_block gaps_from every
lines-from s least [] = refl
lines-from s least (l ∷ ls) =
    let n = length l.addresses in
    let f : Bool = leb 1 n && leb n 65535 && strictly_rise l.addresses && leb (line_end l) (newlines s) in
    ap (λ t. t && fair_lines_from (newlines s) (line_end l + 1) ls)
    (first_out (leb least l.first) (leb 1 n) (leb n 65535) (strictly_rise l.addresses) (leb (line_end l) (newlines s)))
    ∙ ap (λ t. leb least l.first && f && t) (lines-from s (line_end l + 1) ls)
    ∙ exchange (leb least l.first) f (every (is_fair_line_block s) ls) (gaps_from (line_end l + 1) ls)

-- the questions of one line block, in the order asked
module _ (last least : ℕ) (l : LineBlock) where
  abbrev count : ℕ
  count = length l.addresses

  pub lines_early : l.first < least → false ≡ fair_lines last least l
  unfolding fair_lines
  lines_early h = rw (lt-leb least l.first h)

  pub lines-few : least ≤ l.first → count < 1 → false ≡ fair_lines last least l
  unfolding fair_lines
  lines-few h f = rw (le-leb least l.first h, lt-leb 1 count f)

  module _ (h : least ≤ l.first) (f : 1 ≤ count) where
    pub lines_many : 65535 < count → false ≡ fair_lines last least l
    unfolding fair_lines
    lines_many m = rw (le-leb least l.first h, le-leb 1 count f, lt-leb count 65535 m)

    module _ (m : count ≤ 65535) where
      pub lines_fall : strictly_rise l.addresses ≡ false → false ≡ fair_lines last least l
      unfolding fair_lines
      lines_fall r = rw (le-leb least l.first h, le-leb 1 count f, le-leb count 65535 m, r)

      module _ (r : strictly_rise l.addresses ≡ true) where
        pub lines_late : last < l.first → false ≡ fair_lines last least l
        unfolding fair_lines
        lines_late e =
            rw (le-leb least l.first h, le-leb 1 count f, le-leb count 65535 m, r, lt-leb (line_end l) last (omega arith))

        pub lines_fit : l.first ≤ last → leb count (last - l.first) ≡ fair_lines last least l
        unfolding fair_lines
        lines_fit e =
            rw (le-leb least l.first h, le-leb 1 count f, le-leb count 65535 m, r)
            (by_test (leb count (last - l.first))
            (λ t. t ∙ sym (le-leb (line_end l) last (omega (arith, leb-true count (last - l.first) t))))
            (λ t. t ∙ sym (lt-leb (line_end l) last (omega (arith, leb-false count (last - l.first) t)))))

  -- a fair line block ends in the source
  pub lines_end : fair_lines last least l ≡ true → line_end l ≤ last
  unfolding fair_lines
  lines_end e =
      leb-true (line_end l) last
      (both (leb least l.first && leb 1 count && leb count 65535 && strictly_rise l.addresses) (leb (line_end l) last) e).1

regroup : (a b c : Bool) → (a && (b && c)) ≡ (a && b && c)
regroup true b c = refl
regroup false b c = refl

-- an object with a source is fair by its names and its line blocks
pub parts-fair : (s : List ℕ) (h : ObjectFile) → fair_parts (newlines s) 0 h ≡ is_fair_by (some s) h
unfolding fair_parts is_fair_by
parts-fair s h =
    ap (λ t. every is_fair_name (names_of h) && t)
    (lines-from s 0 h.line_blocks ∙ ap (λ t. every (is_fair_line_block s) h.line_blocks && t) (gaps-start h.line_blocks))
    ∙ regroup (every is_fair_name (names_of h)) (every (is_fair_line_block s) h.line_blocks) (gaps_between h.line_blocks)

-- RECORDS

abbrev pub stepped : Option ℕ → (ℕ → Bool) → Bool
stepped none f = false
stepped (some least) f = f least

name-first : (p q r : Bool) (least : ℕ) (f : ℕ → Bool) → f least ≡ (q && r) → (p && q && r) ≡ stepped (if p then some least else none) f
name-first true q r least f e = sym e
name-first false q r least f e = refl

name-inside : (p a b r : Bool) (least : ℕ) (f : ℕ → Bool) → f least ≡ (a && b && r)
    → (a && (p && b) && r) ≡ stepped (if p then some least else none) f
name-inside true a b r least f e = sym e
name-inside false true b r least f e = refl
name-inside false false b r least f e = refl

lines-first : (p q r : Bool) (least : ℕ) (f : ℕ → Bool) → f least ≡ (q && r) → (q && (p && r)) ≡ stepped (if p then some least else none) f
lines-first true q r least f e = sym e
lines-first false true r least f e = refl
lines-first false false r least f e = refl

pub parts-step : (last least : ℕ) (r : Record) (rs : List Record)
    → fair_parts last least (placed (r ∷ rs)) ≡ stepped (fair_step last least r) (λ k. fair_parts last k (placed rs))
unfolding fair_parts fair_step placed names_of fair_lines_from every
parts-step last least (block b) rs = refl
parts-step last least (label l) rs =
    name-first (is_fair_name l.name) (every is_fair_name (names_of (placed rs))) (fair_lines_from last least (placed rs).line_blocks) least
    (λ k. fair_parts last k (placed rs)) refl
parts-step last least (line_block l) rs =
    lines-first (fair_lines last least l) (every is_fair_name (names_of (placed rs)))
    (fair_lines_from last (line_end l + 1) (placed rs).line_blocks) (line_end l + 1) (λ k. fair_parts last k (placed rs)) refl
parts-step last least (source s) rs = refl
parts-step last least (relocation r) rs =
    let ls = map (λ l. l.name) (placed rs).labels in
    let qs = map (λ q. q.name) (placed rs).relocations in
    ap (λ t. t && fair_lines_from last least (placed rs).line_blocks) (every_append is_fair_name ls (r.name ∷ qs))
    ∙ name-inside (is_fair_name r.name) (every is_fair_name ls) (every is_fair_name qs) (fair_lines_from last least (placed rs).line_blocks) least
    (λ k. fair_parts last k (placed rs))
    (ap (λ t. t && fair_lines_from last least (placed rs).line_blocks) (every_append is_fair_name ls qs))

pub parts_none : (last least : ℕ) → fair_parts last least (placed []) ≡ true
unfolding fair_parts placed names_of fair_lines_from every empty_object
parts_none last least = refl

-- WITHOUT A SOURCE

-- blocks only: nothing of the other parts, of which the source is known to be missing
abbrev pub blocks_only : ObjectFile → Bool
blocks_only h = is_empty h.labels && is_empty h.line_blocks && not (is_some h.source) && is_empty h.relocations

no_source : (a b c : Bool) (s : Option (List ℕ)) → s ≡ none → (a && b && not (is_some s) && c) ≡ (a && b && c)
unfolding is_some
no_source true true c none e = refl
no_source true false c none e = refl
no_source false b c none e = refl
no_source a b c (some s) e = let z : ◌≡◌ {A = ℕ} 0 1 = cc in absurd (omega arith)

abbrev is_block : Record → Bool
is_block (block b) = true
is_block (label l) = false
is_block (line_block l) = false
is_block (source s) = false
is_block (relocation r) = false

not-block : (ws : List ℕ) (at : ℕ) → (kind_at ws at ≡ 0 → ⊥) → is_block (record_at ws at) ≡ false
unfolding record_at
not-block ws at n =
    let k = kind_at ws at in
    by_test (eqb k 2) (λ t. simp (ne_eqb k 0 n, t))
    (λ t. by_test (eqb k 3) (λ t2. simp (ne_eqb k 0 n, t, t2)) (λ t2. by_test (eqb k 4) (λ t3. simp (ne_eqb k 0 n, t, t2, t3))
    (λ t3. simp (ne_eqb k 0 n, t, t2, t3))))

not-only : (r : Record) (rs : List Record) → is_block r ≡ false → blocks_only (placed (r ∷ rs)) ≡ false
unfolding placed is_empty is_some
not-only (block b) rs e = let z : ◌≡◌ {A = ℕ} 0 1 = cc in absurd (omega arith)
not-only (label l) rs e = refl
not-only (line_block l) rs e = go (is_empty (placed rs).labels)
  where
    go : (a : Bool) → (a && false && not (is_some (placed rs).source) && is_empty (placed rs).relocations) ≡ false
    go true = refl
    go false = refl
not-only (source s) rs e = go (is_empty (placed rs).labels) (is_empty (placed rs).line_blocks)
  where
    go : (a b : Bool) → (a && b && false && is_empty (placed rs).relocations) ≡ false
    go true true = refl
    go true false = refl
    go false b = refl
not-only (relocation r) rs e = go (is_empty (placed rs).labels) (is_empty (placed rs).line_blocks) (not (is_some (placed rs).source))
  where
    go : (a b c : Bool) → (a && b && c && false) ≡ false
    go true true true = refl
    go true true false = refl
    go true false c = refl
    go false b c = refl

module _ (ws : List ℕ) where
  pub only-start : (h : ObjectFile) → object_of ws ≡ given h → h.source ≡ none → Left ws 0 blocks_only (is_fair_by none h)
  unfolding is_fair_by
  only-start h e s =
      subst (λ v. Left ws 0 blocks_only v)
      (no_source (is_empty h.labels) (is_empty h.line_blocks) (is_empty h.relocations) h.source s) (start ws blocks_only h e)

  pub only_end : (at : ℕ) (v : Bool) → length ws ≤ at → Left ws at blocks_only v → true ≡ v
  unfolding empty_object is_empty is_some
  only_end at v l a = finish ws blocks_only at v l a

  module _ (at : ℕ) (v : Bool) (a : Here ws at blocks_only v) where
    pub only-block : kind_at ws at ≡ 0 → (n : ℕ) → n ≡ at + 1 + length (body_at ws (at + 1)) → Left ws n blocks_only v
    unfolding placed record_at
    only-block k n e = on ws blocks_only blocks_only at n v a e (simp (eq-eqb (kind_at ws at) 0 k))

    pub only-other : (kind_at ws at ≡ 0 → ⊥) → false ≡ v
    only-other n = sym (not-only (record_at ws at) a.rest (not-block ws at n)) ∙ a.same

-- WITH A SOURCE

-- every name of the records from a head on is UTF-8, and they are as fair as the object
pub record Going (ws : List ℕ) (at last least : ℕ) (v : Bool) : Type 0 where
  pub fairness : Left ws at (fair_parts last least) v
  pub texts : Left ws at (λ h. every is_utf8 (names_of h)) true

names_of_lem : (r : Record) (rs : List Record) → every is_utf8 (names_of (placed (r ∷ rs))) ≡ true
    → (every is_utf8 (names_of (placed (r ∷ []))) ≡ true) × (every is_utf8 (names_of (placed rs)) ≡ true)
unfolding placed empty_object names_of every
names_of_lem (block b) rs e = (refl, e)
names_of_lem (label l) rs e =
    let p = both (is_utf8 l.name) (every is_utf8 (names_of (placed rs))) e in (ap (λ t. t && true) p.0, p.1)
names_of_lem (line_block l) rs e = (refl, e)
names_of_lem (source s) rs e = (refl, e)
names_of_lem (relocation r) rs e =
    let ls = map (λ l. l.name) (placed rs).labels in
    let qs = map (λ q. q.name) (placed rs).relocations in
    let p = both (every is_utf8 ls) (every is_utf8 (r.name ∷ qs)) (sym (every_append is_utf8 ls (r.name ∷ qs)) ∙ e) in
    let q = both (is_utf8 r.name) (every is_utf8 qs) p.1 in
    (ap (λ t. t && true) q.0, every_append is_utf8 ls qs ∙ ap (λ t. t && every is_utf8 qs) p.0 ∙ q.1)

-- the texts of a well formed object are UTF-8
of_object : (ws : List ℕ) (h : ObjectFile) → object_of ws ≡ given h → every is_utf8 (names_of h) ≡ true
unfolding consistent
of_object ws h e =
    let a : Bool = every (λ b. leb (length b.words) 65535) h.blocks && apart h.line_blocks
    && every (λ l. never_fall l.addresses) h.line_blocks && (is_empty h.line_blocks || is_some h.source) in
    let x = held ws h e in
    let w : consistent h ≡ true = ap consistent (sym x.is) ∙ x.whole in
    (both a (every is_utf8 (names_of h)) (both (a && every is_utf8 (names_of h)) (is_utf8 (source_text h.source)) w).0).1

module _ (ws : List ℕ) (last : ℕ) where
  pub going_start : (h : ObjectFile) → object_of ws ≡ given h → Going ws 0 last 0 (fair_parts last 0 h)
  going_start h e =
      let t = of_object ws h e in
      record { fairness = start ws (fair_parts last 0) h e; texts = subst (λ v. Left ws 0 (λ h. every is_utf8 (names_of h)) v) t (start ws (λ h. every is_utf8 (names_of h)) h e) }

  pub going_end : (at least : ℕ) (v : Bool) → length ws ≤ at → Going ws at last least v → true ≡ v
  unfolding placed empty_object
  going_end at least v l g = sym (parts_none last least) ∙ finish ws (fair_parts last least) at v l g.fairness

  module _ (at least : ℕ) (v : Bool) (l : at < length ws) (g : Going ws at last least v) where
    abbrev fair-here : Here ws at (fair_parts last least) v
    fair-here = here ws (fair_parts last least) at v l g.fairness

    abbrev texts-here : Here ws at (λ h. every is_utf8 (names_of h)) true
    texts-here = here ws (λ h. every is_utf8 (names_of h)) at true l g.texts

    pub head_stops : body_at ws at ≡ []
    head_stops = g.fairness.stops

    pub head-reads : record_from (get_or ws at 0, body_at ws (at + 1)) ≡ given (record_at ws at)
    head-reads = fair-here.head

    pub head-texts : every is_utf8 (names_of (placed (record_at ws at ∷ []))) ≡ true
    head-texts = (names_of_lem (record_at ws at) texts-here.rest texts-here.same).0

    pub going_unfair : fair_step last least (record_at ws at) ≡ none → false ≡ v
    going_unfair e =
        sym (parts-step last least (record_at ws at) fair-here.rest
        ∙ ap (λ o. stepped o (λ k. fair_parts last k (placed fair-here.rest))) e) ∙ fair-here.same

    pub going_on : (next n : ℕ) → fair_step last least (record_at ws at) ≡ some next → n ≡ at + 1 + length (body_at ws (at + 1))
        → Going ws n last next v
    going_on next n e q =
        record {
          fairness = on ws (fair_parts last least) (fair_parts last next) at n v fair-here q
              (sym (parts-step last least (record_at ws at) fair-here.rest
              ∙ ap (λ o. stepped o (λ k. fair_parts last k (placed fair-here.rest))) e));
          texts = on ws (λ h. every is_utf8 (names_of h)) (λ h. every is_utf8 (names_of h)) at n true texts-here q
              ((names_of_lem (record_at ws at) texts-here.rest texts-here.same).1 ∙ sym texts-here.same);
        }

-- ONE RECORD, by its kind
module _ (ws : List ℕ) (at last least : ℕ) where
  abbrev k : ℕ
  k = kind_at ws at

  pub step_label : k ≡ 2 → (if is_fair_name (label_at ws at).name then some least else none) ≡ fair_step last least (record_at ws at)
  unfolding record_at fair_step
  step_label e = simp (ne_eqb k 0 (λ z. omega arith), eq-eqb k 2 e)

  pub step-relocation : k ≡ 5 → (if is_fair_name (relocation_at ws at).name then some least else none) ≡ fair_step last least (record_at ws at)
  unfolding record_at fair_step
  step-relocation e =
      simp (ne_eqb k 0 (λ z. omega arith), ne_eqb k 2 (λ z. omega arith), ne_eqb k 3 (λ z. omega arith), ne_eqb k 4 (λ z. omega arith))

  pub step_lines : k ≡ 3 → (if fair_lines last least (line_block_at ws at) then some (line_end (line_block_at ws at) + 1) else none)
      ≡ fair_step last least (record_at ws at)
  unfolding record_at fair_step
  step_lines e = simp (ne_eqb k 0 (λ z. omega arith), ne_eqb k 2 (λ z. omega arith), eq-eqb k 3 e)

  pub text-label : k ≡ 2 → every is_utf8 (names_of (placed (record_at ws at ∷ []))) ≡ true → is_utf8 (label_at ws at).name ≡ true
  unfolding record_at placed empty_object names_of every
  text-label e t =
      let q : (is_utf8 (label_at ws at).name && true) ≡ true = simp (ne_eqb k 0 (λ z. omega arith), eq-eqb k 2 e) at t in
      (both (is_utf8 (label_at ws at).name) true q).0

  pub text-relocation : k ≡ 5 → every is_utf8 (names_of (placed (record_at ws at ∷ []))) ≡ true → is_utf8 (relocation_at ws at).name ≡ true
  unfolding record_at placed empty_object names_of every
  text-relocation e t =
      let q : (is_utf8 (relocation_at ws at).name && true) ≡ true =
      simp (ne_eqb k 0 (λ z. omega arith), ne_eqb k 2 (λ z. omega arith), ne_eqb k 3 (λ z. omega arith), ne_eqb k 4 (λ z. omega arith)) at t in
      (both (is_utf8 (relocation_at ws at).name) true q).0

-- of a head, 1 is no kind
pub step_other : (ws : List ℕ) (at last least : ℕ) → at < length ws → body_at ws at ≡ [] → (kind_at ws at ≡ 2 → ⊥) → (kind_at ws at ≡ 5 → ⊥)
    → (kind_at ws at ≡ 3 → ⊥) → some least ≡ fair_step last least (record_at ws at)
unfolding record_at fair_step
step_other ws at last least l b n2 n5 n3 =
    let k = kind_at ws at in
    by_test (eqb k 0) (λ t. simp t)
    (λ t. by_test (eqb k 4) (λ t4. simp (t, ne_eqb k 2 n2, ne_eqb k 3 n3, t4))
    (λ t4. absurd (n5 (head-kind (get_or ws at 0) (head_at ws at l b) (eqb-false k 0 t) n2 n3 (eqb-false k 4 t4)))))

-- THE CALL

-- what the count of lines says of an object
pub data Counted (ws : List ℕ) (v : Value) : Type 0 where
  ill_formed : object_of ws ≡ refused 1 → v.number ≡ 1 → Counted ws v
  no_source_in : (h : ObjectFile) → object_of ws ≡ given h → h.source ≡ none → v.number ≡ 4 → Counted ws v
  source_in_lem : (h : ObjectFile) (s : List ℕ) → object_of ws ≡ given h → h.source ≡ some s → v.number ≡ 0 → v.value ≡ newlines s + 1
      → Counted ws v

by_source : (ws : List ℕ) (h : ObjectFile) → object_of ws ≡ given h → (o : Option (List ℕ)) → h.source ≡ o → Counted ws (query_count_lines ws)
unfolding query_count_lines source_in value_answer line_count
by_source ws h e none q = no_source_in h e q (rw (e, q) refl)
by_source ws h e (some s) q = source_in_lem h s e q (rw (e, q) refl) (rw (e, q) (sym (add-one (newlines s))))

refused-count : (ws : List ℕ) (n : ℕ) → object_of ws ≡ refused n → (query_count_lines ws).number ≡ n
unfolding query_count_lines source_in value_answer
refused-count ws n e = rw e refl

refused-one : (ws : List ℕ) (n : ℕ) → object_of ws ≡ refused n → n ≡ 1
unfolding checked
refused-one ws n e = sym (ap refusal_of e) ∙ refusal_of_lem ws ∙ ap (λ o. cond (is_given o) 0 1) e

pub counted : (ws : List ℕ) → Counted ws (query_count_lines ws)
counted ws = go (object_of ws) refl
  where
    go : (o : Outcome ObjectFile) → object_of ws ≡ o → Counted ws (query_count_lines ws)
    go (refused n) e =
        let one = refused-one ws n e in ill_formed (e ∙ ap refused one) (refused-count ws n e ∙ one)
    go (given h) e = by_source ws h e h.source refl

pub fair-refused : (ws : List ℕ) → object_of ws ≡ refused 1 → record { number = 1; fair = false } ≡ fair_answer (object_of ws)
unfolding fair_answer
fair-refused ws e = rw e refl

pub fair-given : (ws : List ℕ) (h : ObjectFile) (o : Option (List ℕ)) (r : Bool) → object_of ws ≡ given h → h.source ≡ o → r ≡ is_fair_by o h
    → record { number = 0; fair = r } ≡ fair_answer (object_of ws)
unfolding fair_answer is_fair
fair-given ws h o r e s q = rw e (ap (λ b. record { number = 0; fair = b }) (q ∙ ap (λ x. is_fair_by x h) (sym s)))

-- by the number of the count
module _ (ws : List ℕ) (v : Value) where
  pub answer_1 : Counted ws v → v.number ≡ 1 → record { number = 1; fair = false } ≡ fair_answer (object_of ws)
  answer_1 (ill_formed e n) q = fair-refused ws e
  answer_1 (no_source_in h e s n) q = absurd (omega arith)
  answer_1 (source_in_lem h s e q n l) p = absurd (omega arith)

  pub answer_4 : Counted ws v → v.number ≡ 4 → (r : Bool) → BlocksIn ws r → record { number = 0; fair = r } ≡ fair_answer (object_of ws)
  answer_4 (ill_formed e n) q r b = absurd (omega arith)
  answer_4 (no_source_in h e s n) q r b = fair-given ws h none r e s (b h e s)
  answer_4 (source_in_lem h s e q n l) p r b = absurd (omega arith)

  module _ (n1 : v.number ≡ 1 → ⊥) (n4 : v.number ≡ 4 → ⊥) where
    pub some_lines : Counted ws v → v.value ≡ 0 → ⊥
    some_lines (ill_formed e n) q = n1 n
    some_lines (no_source_in h e s n) q = n4 n
    some_lines (source_in_lem h s e q n l) p = absurd (omega arith)

    pub well_formed : Counted ws v → checked ws ≡ 0
    unfolding checked
    well_formed (ill_formed e n) = absurd (n1 n)
    well_formed (no_source_in h e s n) = absurd (n4 n)
    well_formed (source_in_lem h s e q n l) = ap refusal_of e

    pub answer_0 : Counted ws v → (last : ℕ) → last + 1 ≡ v.value → (r : Bool) → FairIn ws last r
        → record { number = 0; fair = r } ≡ fair_answer (object_of ws)
    answer_0 (ill_formed e n) last q r f = absurd (n1 n)
    answer_0 (no_source_in h e s n) last q r f = absurd (n4 n)
    answer_0 (source_in_lem h s e q n l) last p r f =
        let k : last ≡ newlines s = omega arith in
        fair-given ws h (some s) r e q (f h e ∙ ap (λ x. fair_parts x 0 h) k ∙ parts-fair s h)

-- the question with number 4
is_no_source : (r : Refusal) → number_of r ≡ 4 → r ≡ refusal.NoSource
is_no_source refusal.NotWellFormed e = absurd (omega arith)
is_no_source refusal.TooManyAddresses e = absurd (omega arith)
is_no_source refusal.ShortBuffer e = absurd (omega arith)
is_no_source refusal.NoSource e = refl
is_no_source refusal.NoSuchLine e = absurd (omega arith)
is_no_source refusal.NotMapped e = absurd (omega arith)
is_no_source refusal.NoHeader e = absurd (omega arith)
is_no_source refusal.UnknownRecord e = absurd (omega arith)
is_no_source refusal.MissingBytes e = absurd (omega arith)
is_no_source refusal.RecordNotUtf8 e = absurd (omega arith)
is_no_source refusal.UnsortedAddresses e = absurd (omega arith)
is_no_source refusal.OverlappingLines e = absurd (omega arith)
is_no_source refusal.FileNotUtf8 e = absurd (omega arith)
is_no_source refusal.NoMagicLine e = absurd (omega arith)
is_no_source refusal.LooseLine e = absurd (omega arith)
is_no_source refusal.UnknownGroup e = absurd (omega arith)
is_no_source refusal.BadBlock e = absurd (omega arith)
is_no_source refusal.RepeatedBlock e = absurd (omega arith)
is_no_source refusal.BadLabels e = absurd (omega arith)
is_no_source refusal.NoDivider e = absurd (omega arith)
is_no_source refusal.BadLines e = absurd (omega arith)
is_no_source refusal.SecondLineTable e = absurd (omega arith)
is_no_source refusal.BadEscape e = absurd (omega arith)
is_no_source refusal.FallingAddresses e = absurd (omega arith)
is_no_source refusal.TooManyWords e = absurd (omega arith)

-- another question than that for the source
pub answer_other : (ws : List ℕ) (r : Refusal) → Counted ws (record { number = number_of r; value = 0 }) → (r ≡ refusal.NoSource → ⊥)
    → record { number = number_of r; fair = false } ≡ fair_answer (object_of ws)
answer_other ws r (ill_formed e n) other = ap (λ k. record { number = k; fair = false }) n ∙ fair-refused ws e
answer_other ws r (no_source_in h e s n) other = absurd (other (is_no_source r n))
answer_other ws r (source_in_lem h s e q n l) other = let some = number_some r in absurd (omega arith)
