-- The rows of the line table, and the line blocks that their runs give back. Assumes nothing.
use mathlib.Core.Path.{◌≡◌, refl, sym, ◌∙◌, ap}
use mathlib.Core.List.{List, [], ◌∷◌, ◌++◌, map, append_assoc, append-nil}
use mathlib.Core.Option.{Option, none, some}
use Prim.Native.Nat.{ℕ, zero, suc, ◌+◌, ◌-◌, ◌%◌, ◌^◌, ◌≤◌, ◌<◌, compare, Ordering}
use native.Mathlib.Nat.{mod-eq_of_lt}
use native.Mathlib.Omega.{arith}
use lib.ListN.{length, replicate, length-append, length-map, length-replicate, replicate-append-replicate}
use Rattle.format.specs.Basics.{All}
use Rattle.format.specs.Sorted.{order, upsert}
use Rattle.format.proofs.SortedLaws.{lt_of_compare, eq_of_compare, compare_self}
use Rattle.format.specs.ObjectFile.{LineBlock, line_end}
use Rattle.format.specs.TextWriter.{Row, row_key, plain_rows, add_rows, add_blocks}
use Rattle.format.specs.TextReader.{runs_from}
use Rattle.format.proofs.NumeralBack.{Full}
use Rattle.format.proofs.Ranges.{Word16}
use Rattle.format.proofs.RowLaws.{Numbered}

-- rows numbered from i on, with these addresses
unfoldable pub rows_from : ℕ → List (Option ℕ) → List Row
rows_from i [] = []
rows_from i (o ∷ os) = record { number = i; address = o } ∷ rows_from (suc i) os

pub plain_rows_lem : (i n : ℕ) → plain_rows i n ≡ rows_from i (replicate n none)
unfolding plain_rows rows_from
plain_rows_lem i zero = refl
plain_rows_lem i (suc n) = ap (λ (r : List Row). record { number = i; address = none } ∷ r) (plain_rows_lem (suc i) n)

compare_gt : (m n : ℕ) → n < m → compare m n ≡ Ordering.gt
compare_gt m n h = go (compare m n) refl
  where
    go : (o : Ordering) → compare m n ≡ o → o ≡ Ordering.gt
    go Ordering.lt e = absurd (let q = lt_of_compare m n e in omega arith)
    go Ordering.eq e = absurd (let q = eq_of_compare m n e in omega arith)
    go Ordering.gt e = refl

-- an address at a row's number replaces what stood there
replaces :
    (i j : ℕ) (xs : List (Option ℕ)) (o v : Option ℕ) (ys : List (Option ℕ)) → j ≡ i + length xs
    → upsert row_key (record { number = j; address = v }) (rows_from i (xs ++ o ∷ ys)) ≡ rows_from i (xs ++ v ∷ ys)
unfolding upsert rows_from order
replaces i j [] o v ys e =
    let q : j ≡ i = omega arith in
    rw (q, compare_self i)
replaces i j (x ∷ xs) o v ys e = rw (compare_gt j i (omega arith), replaces (suc i) j xs o v ys (omega arith))

pub add-rows :
    (xs : List (Option ℕ)) (ks : List ℕ) (ys : List (Option ℕ)) (j : ℕ) → j ≡ length xs → j + length ks ≤ 2 ^ 64
    → add_rows j ks (rows_from 0 (xs ++ (replicate (length ks) none ++ ys))) ≡ rows_from 0 (xs ++ (map some ks ++ ys))
unfolding add_rows
add-rows xs [] ys j e l = refl
add-rows xs (a ∷ ks) ys j e l =
    let m : j % 2 ^ 64 ≡ j = mod-eq_of_lt (omega arith) in
    let k = length-append xs (some a ∷ []) in
    let p1 : xs ++ some a ∷ [] ++ (replicate (length ks) none ++ ys) ≡ xs ++ some a ∷ (replicate (length ks) none ++ ys) = append_assoc xs (some a ∷ []) (replicate (length ks) none ++ ys) in
    let p2 : xs ++ some a ∷ [] ++ (map some ks ++ ys) ≡ xs ++ some a ∷ (map some ks ++ ys) = append_assoc xs (some a ∷ []) (map some ks ++ ys) in
    ap (λ (n : ℕ). add_rows (suc j) ks (upsert row_key (record { number = n; address = some a }) (rows_from 0 (xs ++ none ∷ (replicate (length ks) none ++ ys))))) m
    ∙ ap (λ (r : List Row). add_rows (suc j) ks r) (replaces 0 j xs none (some a) (replicate (length ks) none ++ ys) (omega arith) ∙ ap (λ (r : List (Option ℕ)). rows_from 0 r) (sym p1))
    ∙ add-rows (xs ++ some a ∷ []) ks ys (suc j) (omega arith) (omega arith) ∙ ap (λ (r : List (Option ℕ)). rows_from 0 r) p2

-- the addresses of n rows, from row p on: each block, and a row without an address behind it
unfoldable pub laid : ℕ → ℕ → List LineBlock → List (Option ℕ)
laid p n [] = replicate (n - p) none
laid p n (l ∷ ls) = replicate (l.first - p) none ++ (map some l.addresses ++ none ∷ laid (suc (line_end l)) n ls)

abbrev pub Spaced : ℕ → ℕ → List LineBlock → Type 0
Spaced p n [] = p ≤ n
Spaced p n (l ∷ ls) = (p ≤ l.first) × Full l.addresses × Spaced (suc (line_end l)) n ls

spaced_le : (p n : ℕ) (ls : List LineBlock) → Spaced p n ls → p ≤ n
spaced_le p n [] h = h
spaced_le p n (l ∷ ls) h = let k = spaced_le (suc (line_end l)) n ls h.2 in omega (arith, h.0, k)

split_none : (a b c : ℕ) → ◌≡◌ {A = List (Option ℕ)} (replicate (a + (b + suc c)) none) (replicate a none ++ (replicate b none ++ none ∷ replicate c none))
split_none a b c = sym (replicate-append-replicate a (b + suc c) none) ∙ ap (λ (r : List (Option ℕ)). replicate a none ++ r) (sym (replicate-append-replicate b (suc c) none))

pub add-blocks :
    (n : ℕ) (pre : List (Option ℕ)) (p : ℕ) (ls : List LineBlock) → length pre ≡ p → n ≤ 2 ^ 64 → Spaced p n ls
    → add_blocks ls (rows_from 0 (pre ++ replicate (n - p) none)) ≡ rows_from 0 (pre ++ laid p n ls)
unfolding add_blocks laid
add-blocks n pre p [] e b h = refl
add-blocks n pre p (l ∷ ls) e b h =
    let ks : List ℕ = l.addresses in
    let f : ℕ = l.first in
    let k : suc (f + length ks) ≤ n = spaced_le (suc (line_end l)) n ls h.2 in
    let c : ℕ = n - suc (f + length ks) in
    let h0 : p ≤ f = h.0 in
    let size : n - p ≡ (f - p) + (length ks + suc c) = omega arith in
    let xs : List (Option ℕ) = pre ++ replicate (f - p) none in
    let lx : length xs ≡ f = length-append pre (replicate (f - p) none) ∙ ap (λ (m : ℕ). length pre + m) (length-replicate (f - p) none) ∙ omega arith in
    let ys : List (Option ℕ) = none ∷ replicate c none in
    let s1 : pre ++ replicate (n - p) none ≡ xs ++ (replicate (length ks) none ++ ys) =
    ap (λ (m : ℕ). pre ++ replicate m none) size ∙ ap (λ (r : List (Option ℕ)). pre ++ r) (split_none (f - p) (length ks) c) ∙ sym (append_assoc pre (replicate (f - p) none) (replicate (length ks) none ++ ys)) in
    let s2 : add_rows f ks (rows_from 0 (xs ++ (replicate (length ks) none ++ ys))) ≡ rows_from 0 (xs ++ (map some ks ++ ys)) = add-rows xs ks ys f (sym lx) (omega arith) in
    let pre' : List (Option ℕ) = xs ++ (map some ks ++ none ∷ []) in
    let lp : length pre' ≡ suc (f + length ks) =
    length-append xs (map some ks ++ none ∷ []) ∙ ap (λ (m : ℕ). length xs + m) (length-append (map some ks) (none ∷ []) ∙ ap (λ (m : ℕ). m + 1) (length-map ks some)) ∙ omega (arith, lx) in
    let tail : (t : List (Option ℕ)) → pre' ++ t ≡ xs ++ (map some ks ++ none ∷ t) =
    λ t. append_assoc xs (map some ks ++ none ∷ []) t ∙ ap (λ (r : List (Option ℕ)). xs ++ r) (append_assoc (map some ks) (none ∷ []) t) in
    ap (λ (r : List (Option ℕ)). add_blocks ls (add_rows f ks (rows_from 0 r))) s1 ∙ ap (λ (r : List Row). add_blocks ls r) (s2 ∙ ap (λ (r : List (Option ℕ)). rows_from 0 r) (sym (tail (replicate c none))))
    ∙ add-blocks n pre' (suc (f + length ks)) ls lp b h.2
    ∙ ap (λ (r : List (Option ℕ)). rows_from 0 r) (tail (laid (suc (f + length ks)) n ls) ∙ append_assoc pre (replicate (f - p) none) (map some ks ++ none ∷ laid (suc (f + length ks)) n ls))

-- runs
runs_gap : (i g : ℕ) (os : List (Option ℕ)) (j : ℕ) → j ≡ i + g → runs_from i [] (replicate g none ++ os) ≡ runs_from j [] os
unfolding runs_from
runs_gap i zero os j e = let q : i ≡ j = omega arith in ap (λ (m : ℕ). runs_from m [] os) q
runs_gap i (suc g) os j e = runs_gap (suc i) g os j (omega arith)

runs_some : (i : ℕ) (run ks : List ℕ) (os : List (Option ℕ)) (j : ℕ) → j ≡ i + length ks → runs_from i run (map some ks ++ os) ≡ runs_from j (run ++ ks) os
unfolding runs_from
runs_some i run [] os j e = let q : i ≡ j = omega arith in ap (λ (m : ℕ). runs_from m run os) q ∙ ap (λ (r : List ℕ). runs_from j r os) (sym (append-nil run))
runs_some i run (a ∷ ks) os j e =
    runs_some (suc i) (run ++ a ∷ []) ks os j (omega arith) ∙ ap (λ (r : List ℕ). runs_from j r os) (append_assoc run (a ∷ []) ks)

runs_end : (i : ℕ) (run : List ℕ) (os : List (Option ℕ)) (f : ℕ) → Full run → i ≡ f + length run → runs_from i run (none ∷ os) ≡ record { first = f; addresses = run } ∷ runs_from (suc i) [] os
unfolding runs_from
runs_end i [] os f h e = absurd h
runs_end i (a ∷ run) os f h e =
    let q : i - suc (length run) ≡ f = omega arith in
    ap (λ (m : ℕ). record { first = m; addresses = a ∷ run } ∷ runs_from (suc i) [] os) q

runs_none : (i g : ℕ) → runs_from i [] (replicate g none) ≡ []
unfolding runs_from
runs_none i zero = refl
runs_none i (suc g) = runs_none (suc i) g

pub runs_back : (p n : ℕ) (ls : List LineBlock) → Spaced p n ls → runs_from p [] (laid p n ls) ≡ ls
unfolding laid
runs_back p n [] h = runs_none p (n - p)
runs_back p n (l ∷ ls) h =
    let ks : List ℕ = l.addresses in
    let more : List (Option ℕ) = laid (suc (line_end l)) n ls in
    let h0 : p ≤ l.first = h.0 in
    runs_gap p (l.first - p) (map some ks ++ none ∷ more) l.first (omega arith)
    ∙ runs_some l.first [] ks (none ∷ more) (line_end l) refl
    ∙ runs_end (line_end l) ks more l.first h.1 refl
    ∙ ap (λ (r : List LineBlock). l ∷ r) (runs_back (suc (line_end l)) n ls h.2)

pub laid_length : (p n : ℕ) (ls : List LineBlock) → Spaced p n ls → p + length (laid p n ls) ≡ n
unfolding laid
laid_length p n [] h = ap (λ (m : ℕ). p + m) (length-replicate (n - p) none) ∙ omega (arith, h)
laid_length p n (l ∷ ls) h =
    let ks : List ℕ = l.addresses in
    let more : List (Option ℕ) = laid (suc (line_end l)) n ls in
    let h0 : p ≤ l.first = h.0 in
    let ih : suc (l.first + length ks) + length more ≡ n = laid_length (suc (line_end l)) n ls h.2 in
    let gap : List (Option ℕ) = replicate (l.first - p) none in
    let e1 = length-append gap (map some ks ++ none ∷ more) in
    let e2 = length-append (map some ks) (none ∷ more) in
    let e3 : length gap ≡ l.first - p = length-replicate (l.first - p) none in
    let e4 : length (map some ks) ≡ length ks = length-map ks some in
    omega arith

-- the columns of the rows
pub rows-addresses : (i : ℕ) (os : List (Option ℕ)) → map (λ r. r.address) (rows_from i os) ≡ os
unfolding rows_from
rows-addresses i [] = refl
rows-addresses i (o ∷ os) = ap (λ (r : List (Option ℕ)). o ∷ r) (rows-addresses (suc i) os)

pub rows_numbered : (width : ℕ) (cell_of : ℕ → List ℕ) (i : ℕ) (os : List (Option ℕ)) → i + length os ≤ 2 ^ 64 → All Word16 os → Numbered width cell_of i (rows_from i os)
unfolding rows_from
rows_numbered width cell_of i [] h w = tt
rows_numbered width cell_of i (o ∷ os) h w = (refl, omega arith, w.0, rows_numbered width cell_of (suc i) os (omega arith) w.1)

pub laid_words : (p n : ℕ) (ls : List LineBlock) → All (λ l. All (λ a. a < 2 ^ 16) l.addresses) ls → All Word16 (laid p n ls)
unfolding laid
laid_words p n [] h = nones (n - p) [] tt
  where
    nones : (k : ℕ) (os : List (Option ℕ)) → All Word16 os → All Word16 (replicate k none)
    nones zero os w = tt
    nones (suc k) os w = (tt, nones k os w)
laid_words p n (l ∷ ls) h = front (l.first - p) (map some l.addresses ++ none ∷ laid (suc (line_end l)) n ls) (somes l.addresses (none ∷ laid (suc (line_end l)) n ls) h.0 (tt, laid_words (suc (line_end l)) n ls h.1))
  where
    front : (k : ℕ) (os : List (Option ℕ)) → All Word16 os → All Word16 (replicate k none ++ os)
    front zero os w = w
    front (suc k) os w = (tt, front k os w)

    somes : (ks : List ℕ) (os : List (Option ℕ)) → All (λ a. a < 2 ^ 16) ks → All Word16 os → All Word16 (map some ks ++ os)
    somes [] os a w = w
    somes (x ∷ xs) os a w = (a.0, somes xs os a.1 w)
