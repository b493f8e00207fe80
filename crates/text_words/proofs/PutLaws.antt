-- Parts written one after the other, and rows handed out a window at a time. Assumes nothing.
use mathlib.Core.Path.{◌≡◌, refl, sym, ap, ap₂, ◌∙◌, subst}
use mathlib.Core.List.{List, [], ◌∷◌, ◌++◌, map, flat_map, append_assoc, append-nil}
use Prim.Native.Nat.{ℕ, suc, ◌+◌, ◌-◌, ◌≤◌, ◌<◌}
use native.Mathlib.Omega.{arith}
use native.Mathlib.Numerals.{add-one}
use lib.ListN.{length, take, drop, get_or, length-append, length-drop, length-take, length-map, take-append-drop, drop_of_length-le}
use lib.Seq.{drop-cons, drop-append-add, take_all, length-take-le}
use lib.Dec.{leb}
use borrow.Author.Tests.{leb-true, leb-false}
use borrow.Author.Rules.{part_to_end}
use borrow.Rule.Slice.PartMut.{mid_of, post_of, put_mid}
use Rattle.format.specs.Sorted.{upsert, upsert_all, sorted}
use Rattle.format.specs.Records.{Record}
use Rattle.format.specs.Words.{record_words}
use Rattle.format.proofs.ListLaws.{by_test, map-append}
use Rattle.writing.specs.Written.{filled, written, Put}
use Rattle.writing.proofs.WriteLaws.{length-into}
use Rattle.writing.proofs.Parts.{State, Emits, rest, after, begin, emit, emitted}
use Rattle.gather.proofs.OrderLaws.{held_front}
use Rattle.text_rows.specs.Rows.{number_of, row_key, rows_from, rows_of, row_at}
use Rattle.text_rows.specs.Steps.{FoundAt, BeginsAt}
use Rattle.text_gather.specs.declared.Sorting.{Sorting}
use Rattle.text_gather.specs.declared.Rest.TheVariants as rest
use Rattle.text_gather.specs.Order.{left, HandsOut}
use Rattle.text_words.specs.Written.{words_at, put_each, PutEach}

-- ONE PART
filled_small : (p room : List ℕ) → filled p room ≤ length room
unfolding filled
filled_small p room = by_test (leb (length p) (length room)) (λ u. rw u (leb-true (length p) (length room) u)) (λ u. rw u (omega arith))

written-long : (p room : List ℕ) → length (written p room) ≡ length room
unfolding written
written-long p room = by_test (leb (length p) (length room)) (λ u. rw u (length-into p room (leb-true (length p) (length room) u))) (λ u. rw u refl)

-- what comes back of the rest that is lent
pub lent_back : (at : ℕ) (out ys : List ℕ) → put_mid at (length out - at) out ys ≡ take at out ++ ys
lent_back at out ys =
    let past : post_of at (length out - at) out ≡ [] = drop_of_length-le (drop at out) {i = length out - at} (omega (arith, length-drop at out)) in
    ap (λ (z : List ℕ). take at out ++ (ys ++ z)) past ∙ ap (λ (z : List ℕ). take at out ++ z) (append-nil ys)

lent : (at : ℕ) (out : List ℕ) → mid_of at (length out - at) out ≡ drop at out
lent at out = part_to_end out at

-- SEVERAL PARTS
front_take : (front room : List ℕ) (k : ℕ) → take (length front + k) (front ++ room) ≡ front ++ take k room
front_take [] room k = let e : length {A = ℕ} [] + k ≡ k = omega arith in ap (λ (j : ℕ). take j room) e
front_take (x ∷ front) room k =
    let e : length (x ∷ front) + k ≡ suc (length front + k) = omega arith in
    ap (λ (j : ℕ). take j (x ∷ front ++ room)) e ∙ ap (λ (z : List ℕ). x ∷ z) (front_take front room k)

-- in a room that has something before it
put_behind : (ps : List (List ℕ)) (front room : List ℕ) (at k : ℕ) → k ≤ length room → at ≡ length front + k
    → put_each ps at (front ++ room) ≡ (length front + (put_each ps k room).0, front ++ (put_each ps k room).1)
unfolding put_each
put_behind [] front room at k h e = ap (λ (j : ℕ). (j, front ++ room)) e
put_behind (p ∷ ps) front room at k h e =
    let d : drop at (front ++ room) ≡ drop k room = ap (λ (j : ℕ). drop j (front ++ room)) e ∙ drop-append-add front room k in
    let t : take at (front ++ room) ≡ front ++ take k room = ap (λ (j : ℕ). take j (front ++ room)) e ∙ front_take front room k in
    let room' : List ℕ = take k room ++ written p (drop k room) in
    let k' : ℕ = k + filled p (drop k room) in
    let l : k' ≤ length room' =
    omega (arith, filled_small p (drop k room), length-append (take k room) (written p (drop k room)), written-long p (drop k room), length-take-le k room h, length-drop k room) in
    let a : at + filled p (drop k room) ≡ length front + k' = omega arith in
    ap₂ (λ (x y : List ℕ). put_each ps (at + filled p x) (y ++ written p x)) d t
    ∙ ap (put_each ps (at + filled p (drop k room))) (append_assoc front (take k room) (written p (drop k room)))
    ∙ put_behind ps front room' (at + filled p (drop k room)) k' l a

-- in the rest that is lent
put_rest : (ps : List (List ℕ)) (at : ℕ) (out : List ℕ) → at ≤ length out
    → put_each ps at out ≡ (at + (put_each ps 0 (drop at out)).0, take at out ++ (put_each ps 0 (drop at out)).1)
put_rest ps at out h =
    let l : length (take at out) ≡ at = length-take-le at out h in
    ap (put_each ps at) (sym (take-append-drop at out))
    ∙ put_behind ps (take at out) (drop at out) at 0 (omega arith) (omega arith)
    ∙ ap (λ (j : ℕ). (j + (put_each ps 0 (drop at out)).0, take at out ++ (put_each ps 0 (drop at out)).1)) l

put-more : (ps qs : List (List ℕ)) (at : ℕ) (out : List ℕ) → put_each (ps ++ qs) at out ≡ put_each qs (put_each ps at out).0 (put_each ps at out).1
unfolding put_each
put-more [] qs at out = refl
put-more (p ∷ ps) qs at out = put-more ps qs (at + filled p (drop at out)) (take at out ++ written p (drop at out))

put-inside : (ps : List (List ℕ)) (at : ℕ) (out : List ℕ) → at ≤ length out
    → ((put_each ps at out).0 ≤ length out) × (length (put_each ps at out).1 ≡ length out)
unfolding put_each
put-inside [] at out h = (h, refl)
put-inside (p ∷ ps) at out h =
    let out' : List ℕ = take at out ++ written p (drop at out) in
    let l : length out' ≡ length out =
    omega (arith, length-append (take at out) (written p (drop at out)), written-long p (drop at out), length-take-le at out h, length-drop at out) in
    let i = put-inside ps (at + filled p (drop at out)) out' (omega (arith, filled_small p (drop at out), length-drop at out)) in
    (omega (arith, i.0), i.1 ∙ l)

-- THE LAW for who writes several parts: where they fit, they stand one after the other
abbrev joined : List (List ℕ) → List ℕ
joined ps = flat_map (λ p. p) ps

emits_all : (ps : List (List ℕ)) (whole room : List ℕ) (s : State ℕ) → Emits whole room (joined ps) s
    → Emits whole room [] (record { at = (put_each ps s.at s.out).0; out = (put_each ps s.at s.out).1 })
unfolding put_each flat_map
emits_all [] whole room s f = f
emits_all (p ∷ ps) whole room s f =
    let g = emit f p (joined ps) {ys = written p (rest s)} {r = filled p (rest s)} refl (refl, refl) in
    let d = lent s.at s.out in
    emits_all ps whole room (record { at = s.at + filled p (drop s.at s.out); out = take s.at s.out ++ written p (drop s.at s.out) })
    (subst (λ (x : List ℕ). Emits whole room (joined ps) (record { at = s.at + filled p x; out = take s.at s.out ++ written p x })) d
    (subst (λ (x : List ℕ). Emits whole room (joined ps) (record { at = s.at + filled p (rest s); out = x })) (lent_back s.at s.out (written p (rest s))) g))

pub put-fits : (ps : List (List ℕ)) (room : List ℕ) (r : ℕ) (after : List ℕ) → length (joined ps) ≤ length room → PutEach ps room r after
    → Put (joined ps) room r after
put-fits ps room r after h e =
    let w = emitted (emits_all ps (joined ps) room (record { at = 0; out = room }) (begin (joined ps) room h)) refl in
    (ap (λ (x : ℕ × List ℕ). x.0) e ∙ w.0, ap (λ (x : ℕ × List ℕ). x.1) e ∙ w.1)

-- A LOOP over parts: the same answer from here
pub record Puts (ps all : List (List ℕ)) (room out : List ℕ) (at : ℕ) : Type 0 where
  pub same : put_each ps at out ≡ put_each all 0 room
  pub inside : at ≤ length out
  pub long : length out ≡ length room

pub puts_begin : (ps : List (List ℕ)) (room : List ℕ) → Puts ps ps room room 0
puts_begin ps room = record { same = refl; inside = omega arith; long = refl }

pub puts_end : (ps all : List (List ℕ)) (room out : List ℕ) (at : ℕ) → Puts ps all room out at → ps ≡ [] → PutEach all room at out
unfolding put_each
puts_end ps all room out at s e = ap (λ (x : List (List ℕ)). put_each x at out) (sym e) ∙ s.same

module _ (ps qs rs all : List (List ℕ)) (room out ys : List ℕ) (at r : ℕ) (s : Puts rs all room out at) (e : rs ≡ ps ++ qs)
    (w : PutEach ps (mid_of at (length out - at) out) r ys) where
  step : put_each ps at out ≡ (at + r, put_mid at (length out - at) out ys)
  step =
      let v : (r, ys) ≡ put_each ps 0 (drop at out) = w ∙ ap (put_each ps 0) (lent at out) in
      put_rest ps at out s.inside
      ∙ ap (λ (x : ℕ × List ℕ). (at + x.0, take at out ++ x.1)) (sym v)
      ∙ ap (λ (x : List ℕ). (at + r, x)) (sym (lent_back at out ys))

  pub puts_on : Puts qs all room (put_mid at (length out - at) out ys) (at + r)
  puts_on =
      let i = put-inside ps at out s.inside in
      let a : (put_each ps at out).0 ≡ at + r = ap (λ (x : ℕ × List ℕ). x.0) step in
      let o : (put_each ps at out).1 ≡ put_mid at (length out - at) out ys = ap (λ (x : ℕ × List ℕ). x.1) step in
      let l : length (put_mid at (length out - at) out ys) ≡ length out = sym (ap length o) ∙ i.1 in
      record {
        same = sym (ap₂ (λ (j : ℕ) (z : List ℕ). put_each qs j z) a o) ∙ sym (put-more ps qs at out) ∙ ap (λ (x : List (List ℕ)). put_each x at out) (sym e) ∙ s.same;
        inside = omega (arith, i.0);
        long = l ∙ s.long;
      }

-- one part, by its own contract
pub put_one : (p room : List ℕ) (r : ℕ) (ys : List ℕ) → Put p room r ys → PutEach (p ∷ []) room r ys
unfolding put_each
put_one p room r ys w =
    let z : 0 + filled p room ≡ filled p room = omega arith in
    ap₂ (λ (j : ℕ) (x : List ℕ). (j, x)) (w.0 ∙ sym z) w.1

-- A WINDOW: the rows at its places from place i on
pub places_at : (f : ℕ → List ℕ) (ps : List ℕ) (i : ℕ) → i < length ps → map f (drop i ps) ≡ (f (get_or ps i 0) ∷ []) ++ map f (drop (i + 1) ps)
places_at f ps i h =
    let d : drop i ps ≡ get_or ps i 0 ∷ drop (i + 1) ps = rw (add-one i) (drop-cons ps i 0 h) in ap (map f) d

pub places-done : (f : ℕ → List ℕ) (ps : List ℕ) (i : ℕ) → length ps ≤ i → map f (drop i ps) ≡ []
places-done f ps i h = ap (map f) (drop_of_length-le ps {i = i} h)

-- ROWS AS THEY COME: the first of them, and those after it
pub found-words : (kind : ℕ) (t : List ℕ) (at p next : ℕ) → FoundAt kind t at p next
    → map record_words (rows_from kind t at) ≡ (words_at kind t p ∷ []) ++ map record_words (rows_from kind t next)
unfolding words_at
found-words kind t at p next f = ap (map record_words) f.same

-- none, and one alone, are in order
module _ (kind : ℕ) (t : List ℕ) (from : ℕ) (b : BeginsAt t from) where
  pub no_rows : rows_from kind t from ≡ [] → map record_words (sorted row_key (rows_of kind t)) ≡ []
  unfolding upsert_all
  no_rows e = ap (λ (rs : List Record). map record_words (sorted row_key rs)) (sym (b kind) ∙ e)

  pub one-row : (p next : ℕ) → FoundAt kind t from p next → rows_from kind t next ≡ []
      → map record_words (sorted row_key (rows_of kind t)) ≡ words_at kind t p ∷ []
  unfolding upsert_all upsert words_at
  one-row p next f e =
      ap (λ (rs : List Record). map record_words (sorted row_key rs)) (sym (b kind) ∙ f.same ∙ ap (λ (rs : List Record). row_at kind t p ∷ rs) e)

-- where the keys rise, they are the rows in order
pub straight-rows : (t : List ℕ) (o : Sorting) (at : ℕ) → o.rest ≡ rest.Rising at → rows_from (number_of o.kind) t at ≡ left t o
unfolding left
straight-rows t o at e = rw e refl

-- WINDOWS: what was handed out, and what is left
module _ (kind : ℕ) (t : List ℕ) (rows : List Record) (found now : List ℕ) (n : ℕ) (others : List Record) (h : HandsOut kind t rows found now n others) where
  counts : n ≡ length (take (length found) rows)
  counts = h.held.count ∙ sym (length-map h.places (row_at kind t)) ∙ ap length h.values

  pub window-fits : n ≤ length now
  window-fits = omega (arith, ap length h.held.holds, length-append h.places (drop n found), h.held.count)

  front : take (length found) rows ≡ take n rows
  front =
      by_test (leb (length found) (length rows))
      (λ u. let e : n ≡ length found = counts ∙ length-take-le (length found) rows (leb-true (length found) (length rows) u) in ap (λ (j : ℕ). take j rows) (sym e))
      (λ u. let g = leb-false (length found) (length rows) u in
      let e : n ≡ length rows = counts ∙ ap length (take_all (length found) rows (omega arith)) in
      take_all (length found) rows (omega arith) ∙ sym (take_all n rows (omega arith)))

  pub window-words : map record_words rows ≡ map (words_at kind t) (take n now) ++ map record_words others
  unfolding words_at
  window-words =
      let p : take n now ≡ h.places = held_front h.places found now n h.held in
      ap (map record_words) (sym (take-append-drop n rows)) ∙ map-append record_words (take n rows) (drop n rows)
      ∙ ap₂ (λ (x y : List Record). map record_words x ++ map record_words y) (sym front ∙ sym h.values) (sym h.others)
      ∙ ap (λ (x : List (List ℕ)). x ++ map record_words others) (twice h.places ∙ ap (map (words_at kind t)) (sym p))
    where
      twice : (ps : List ℕ) → map record_words (map (row_at kind t) ps) ≡ map (words_at kind t) ps
      twice [] = refl
      twice (p ∷ ps) = ap (λ (z : List (List ℕ)). record_words (row_at kind t p) ∷ z) (twice ps)

  pub window-last : n < length found → map record_words others ≡ []
  window-last k =
      let l : length rows ≤ n = omega (arith, counts, length-take (length found) rows) in
      ap (map record_words) (h.others ∙ drop_of_length-le rows {i = n} l)

  pub window-less : length found ≤ n → 0 < length found → length others < length rows
  window-less k z = omega (arith, ap length h.others, length-drop n rows, counts, length-take (length found) rows)

-- THE WALK over the windows: the rows that are left are to be written
pub record Walks (kind : ℕ) (t : List ℕ) (rows all : List Record) (room out win₀ win : List ℕ) (at k : ℕ) : Type 0 where
  pub same_kind : k ≡ kind
  pub window : length win ≡ length win₀
  pub puts : Puts (map record_words rows) (map record_words all) room out at

module _ (kind : ℕ) (t : List ℕ) (rows others all : List Record) (room out win₀ win win' ys : List ℕ) (at k n r : ℕ)
    (s : Walks kind t rows all room out win₀ win at k) (h : HandsOut k t rows win win' n others) (l : length win' ≡ length win) where
  hands : HandsOut kind t rows win win' n others
  hands = subst (λ (j : ℕ). HandsOut j t rows win win' n others) s.same_kind h

  pub walk-fits : n ≤ length win'
  walk-fits = window-fits kind t rows win win' n others hands

  module _ (w : PutEach (map (words_at kind t) (take n win')) (mid_of at (length out - at) out) r ys) where
    pub walk_puts : Puts (map record_words others) (map record_words all) room (put_mid at (length out - at) out ys) (at + r)
    walk_puts =
        puts_on (map (words_at kind t) (take n win')) (map record_words others) (map record_words rows) (map record_words all) room out ys at r s.puts
        (window-words kind t rows win win' n others hands) w

    pub walk-on : (j : ℕ) → j ≡ k → Walks kind t others all room (put_mid at (length out - at) out ys) win₀ win' (at + r) j
    walk-on j e = record { same_kind = e ∙ s.same_kind; window = l ∙ s.window; puts = walk_puts }

    pub walk_end : n < length win' → PutEach (map record_words all) room (at + r) (put_mid at (length out - at) out ys)
    walk_end z =
        puts_end (map record_words others) (map record_words all) room (put_mid at (length out - at) out ys) (at + r) walk_puts
        (window-last kind t rows win win' n others hands (omega arith))

  pub walk-less : length win' ≤ n → 0 < length win₀ → length others < length rows
  walk-less z p = window-less kind t rows win win' n others hands (omega arith) (omega (arith, s.window))
