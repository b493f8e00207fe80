-- The questions of each kind of record are those of all kinds alike. Assumes nothing.
use mathlib.Core.Path.{◌≡◌, refl, sym, ap, ◌∙◌}
use mathlib.Core.Bool.{true, false}
use mathlib.Core.List.{List, [], ◌∷◌}
use Prim.Native.Nat.{ℕ, zero, suc, ◌+◌, ◌-◌, ◌*◌, ◌≤◌, ◌<◌}
use native.Mathlib.Omega.{arith}
use native.Mathlib.Numerals.{add-one}
use lib.ListN.{length, take, drop, get_or, length-drop, drop_of_length-le}
use lib.Seq.{drop-cons, drop-drop}
use lib.Dec.{eqb}
use borrow.Author.Tests.{ne_eqb, le-leb, lt-leb, leb-true, leb-false, lt-ltb, le-ltb}
use Rattle.std.specs.Prelude.{if◌then◌else◌}
use Rattle.format.specs.Basics.{Outcome, refused, given, ◌>>=◌, chain}
use Rattle.format.specs.Digits.{value_of}
use Rattle.format.specs.Tokens.{tokens}
use Rattle.format.specs.Utf8.{is_utf8}
use Rattle.format.specs.ObjectFile.{strictly_rise}
use Rattle.format.specs.Records.{Record}
use Rattle.format.specs.Binary.{bytes_at, number_at, has_bytes, addresses_from, record_at, block_from, label_from, lines_from, source_from, relocation_from}
use Rattle.format.specs.Calls.{refusal_of}
use Rattle.format.proofs.ListLaws.{by_test}
use Rattle.format.proofs.Laws.{tokens-step, tokens_stop}
use Rattle.cursor.specs.Taken.{TakenBytes, some_bytes, no_bytes, take_bytes}
use Rattle.cursor.proofs.TakenLaws.{bytes_taken, bytes-not-there}
use Rattle.binary_scan.specs.Scan.{fixed_bytes, body_bytes, take_record, body_number}

-- at a place, and from it on
pub number-drop : (s : List ℕ) (at i n : ℕ) → number_at i n (drop at s) ≡ number_at (at + i) n s
number-drop s at i n = ap (λ (z : List ℕ). value_of 8 (take n z)) (drop-drop i at s)

-- what a record's questions come to: the number, and how many bytes it has with its kind byte
pub record Asked : Type 0 where
  pub number : ℕ
  pub size : ℕ

abbrev pub asked_of : Outcome (Record × ℕ) → Asked
asked_of (refused n) = record { number = n; size = 0 }
asked_of (given t) = record { number = 0; size = suc t.1 }

abbrev numbered : ℕ → ℕ → Asked
numbered n size = if eqb n 0 then record { number = 0; size = suc size } else record { number = n; size = 0 }

abbrev short : Asked
short = record { number = 12; size = 0 }

-- the three questions
unfoldable pub asked : ℕ → List ℕ → Asked
asked k bs =
    if has_bytes (fixed_bytes k) bs
    then (if has_bytes (fixed_bytes k + body_bytes k bs) bs then numbered (body_number k (bytes_at (fixed_bytes k) (body_bytes k bs) bs)) (fixed_bytes k + body_bytes k bs) else short)
    else short

module _ (bs : List ℕ) where
  asked_0 : asked_of (block_from bs) ≡ asked 0 bs
  unfolding block_from asked fixed_bytes body_bytes body_number
  asked_0 =
      by_test (has_bytes 4 bs)
      (λ a. rw a (by_test (has_bytes (4 + 3 * number_at 2 2 bs) bs) (λ b. rw b refl) (λ b. rw b refl)))
      (λ a. rw a refl)

  asked_1 : asked_of (label_from bs) ≡ asked 1 bs
  unfolding label_from asked fixed_bytes body_bytes body_number
  asked_1 =
      by_test (has_bytes 19 bs)
      (λ a. rw a (by_test (has_bytes (19 + number_at 11 8 bs) bs)
      (λ b. rw b (by_test (is_utf8 (bytes_at 19 (number_at 11 8 bs) bs)) (λ c. rw c refl) (λ c. rw c refl)))
      (λ b. rw b refl)))
      (λ a. rw a refl)

  asked_2 : asked_of (lines_from bs) ≡ asked 2 bs
  unfolding lines_from asked fixed_bytes body_bytes body_number
  asked_2 =
      by_test (has_bytes 10 bs)
      (λ a. rw a (by_test (has_bytes (10 + 2 * number_at 8 2 bs) bs)
      (λ b. rw b (by_test (strictly_rise (addresses_from (bytes_at 10 (2 * number_at 8 2 bs) bs))) (λ c. rw c refl) (λ c. rw c refl)))
      (λ b. rw b refl)))
      (λ a. rw a refl)

  asked_3 : asked_of (source_from bs) ≡ asked 3 bs
  unfolding source_from asked fixed_bytes body_bytes body_number
  asked_3 =
      by_test (has_bytes 8 bs)
      (λ a. rw a (by_test (has_bytes (8 + number_at 0 8 bs) bs)
      (λ b. rw b (by_test (is_utf8 (bytes_at 8 (number_at 0 8 bs) bs)) (λ c. rw c refl) (λ c. rw c refl)))
      (λ b. rw b refl)))
      (λ a. rw a refl)

  asked_4 : asked_of (relocation_from bs) ≡ asked 4 bs
  unfolding relocation_from asked fixed_bytes body_bytes body_number
  asked_4 =
      by_test (has_bytes 10 bs)
      (λ a. rw a (by_test (has_bytes (10 + number_at 2 8 bs) bs)
      (λ b. rw b (by_test (is_utf8 (bytes_at 10 (number_at 2 8 bs) bs)) (λ c. rw c refl) (λ c. rw c refl)))
      (λ b. rw b refl)))
      (λ a. rw a refl)

  pub asked_record : (k : ℕ) → k ≤ 4 → asked_of (record_at (k ∷ bs)) ≡ asked k bs
  unfolding record_at
  asked_record zero h = asked_0
  asked_record (suc zero) h = asked_1
  asked_record (suc (suc zero)) h = asked_2
  asked_record (suc (suc (suc zero))) h = asked_3
  asked_record (suc (suc (suc (suc zero)))) h = asked_4
  asked_record (suc (suc (suc (suc (suc k))))) h = absurd (let z : ⊥ = omega arith in z)

  pub unknown_record : (k : ℕ) → 4 < k → record_at (k ∷ bs) ≡ refused 11
  unfolding record_at
  unknown_record k h =
      rw (ne_eqb k 0 (λ e. omega arith), ne_eqb k 1 (λ e. omega arith), ne_eqb k 2 (λ e. omega arith), ne_eqb k 3 (λ e. omega arith), ne_eqb k 4 (λ e. omega arith)) refl

-- ADDRESSES, from a place on
addresses-cons : (s : List ℕ) (i : ℕ) → i + 2 ≤ length s → addresses_from (drop i s) ≡ number_at i 2 s ∷ addresses_from (drop (i + 2) s)
unfolding addresses_from
addresses-cons s i h =
    let a = drop-cons s i 0 (omega arith) in
    let b = drop-cons s (suc i) 0 (omega arith) in
    let e : suc (suc i) ≡ i + 2 = omega arith in
    rw (a, b, e) refl

pub rise_no : (s : List ℕ) (i : ℕ) → i + 4 ≤ length s → number_at (i + 2) 2 s ≤ number_at i 2 s → strictly_rise (addresses_from (drop i s)) ≡ false
unfolding chain
rise_no s i h l =
    let e = addresses-cons s i (omega arith) in
    let f = addresses-cons s (i + 2) (omega arith) in
    rw (e, f, le-ltb (number_at i 2 s) (number_at (i + 2) 2 s) l) refl

pub rise_yes : (s : List ℕ) (i : ℕ) → i + 4 ≤ length s → number_at i 2 s < number_at (i + 2) 2 s
    → strictly_rise (addresses_from (drop i s)) ≡ strictly_rise (addresses_from (drop (i + 2) s))
unfolding chain
rise_yes s i h l =
    let e = addresses-cons s i (omega arith) in
    let f = addresses-cons s (i + 2) (omega arith) in
    rw (e, f, lt-ltb (number_at i 2 s) (number_at (i + 2) 2 s) l) refl

-- fewer than four bytes: one address at most
rise_few : (xs : List ℕ) → length xs < 4 → strictly_rise (addresses_from xs) ≡ true
unfolding chain addresses_from
rise_few [] h = refl
rise_few (a ∷ []) h = refl
rise_few (a ∷ b ∷ []) h = refl
rise_few (a ∷ b ∷ c ∷ []) h = refl
rise_few (a ∷ b ∷ c ∷ d ∷ xs) h = absurd (let z : ⊥ = omega arith in z)

pub rise_end : (s : List ℕ) (i : ℕ) → length s - i < 4 → strictly_rise (addresses_from (drop i s)) ≡ true
rise_end s i h = rise_few (drop i s) (omega (arith, length-drop i s))

-- THE LOOP: from a place on, where a record begins
abbrev pub scan_from : List ℕ → ℕ → ℕ
scan_from s at = refusal_of (tokens record_at 0 (drop at s))

module _ (s : List ℕ) (at : ℕ) (h : at < length s) where
  front : drop at s ≡ get_or s at 0 ∷ drop (at + 1) s
  front = rw (add-one at) (drop-cons s at 0 h)

  pub scan_unknown : 4 < get_or s at 0 → scan_from s at ≡ 11
  scan_unknown l = ap (λ (z : List ℕ). refusal_of (tokens record_at 0 z)) front ∙ ap refusal_of (tokens_stop record_at (get_or s at 0) (drop (at + 1) s) 11 (unknown_record (drop (at + 1) s) (get_or s at 0) l))

  -- by what the record's questions come to
  abbrev here : Outcome (Record × ℕ)
  here = record_at (get_or s at 0 ∷ drop (at + 1) s)

  pub scan_refused : (n : ℕ) → asked_of here ≡ record { number = n; size = 0 } → scan_from s at ≡ n
  scan_refused n e = ap (λ (z : List ℕ). refusal_of (tokens record_at 0 z)) front ∙ go here refl e
    where
      go : (o : Outcome (Record × ℕ)) → here ≡ o → asked_of o ≡ record { number = n; size = 0 } → refusal_of (tokens record_at 0 (get_or s at 0 ∷ drop (at + 1) s)) ≡ n
      go (refused m) q f = ap refusal_of (tokens_stop record_at (get_or s at 0) (drop (at + 1) s) m q) ∙ ap (λ (a : Asked). a.number) f
      go (given t) q f = absurd (let z : ⊥ = omega (arith, ap (λ (a : Asked). a.size) f) in z)

  pub scan_given : (size : ℕ) → asked_of here ≡ record { number = 0; size = suc size } → scan_from s at ≡ scan_from s (at + 1 + size)
  scan_given size e = ap (λ (z : List ℕ). refusal_of (tokens record_at 0 z)) front ∙ go here refl e
    where
      one_more : {A : Type 0} (o : Outcome (List A)) (a : A) → refusal_of (o >>= λ ts. given (a ∷ ts)) ≡ refusal_of o
      one_more (refused m) a = refl
      one_more (given ts) a = refl

      go : (o : Outcome (Record × ℕ)) → here ≡ o → asked_of o ≡ record { number = 0; size = suc size }
          → refusal_of (tokens record_at 0 (get_or s at 0 ∷ drop (at + 1) s)) ≡ scan_from s (at + 1 + size)
      go (refused m) q f = absurd (let z : ⊥ = omega (arith, ap (λ (a : Asked). a.size) f) in z)
      go (given t) q f =
          let n : t.1 ≡ size = omega (arith, ap (λ (a : Asked). a.size) f) in
          ap refusal_of (tokens-step record_at (get_or s at 0) (drop (at + 1) s) t.0 t.1 q)
          ∙ one_more (tokens record_at 0 (drop t.1 (drop (at + 1) s))) t.0
          ∙ ap (λ (z : List ℕ). refusal_of (tokens record_at 0 z)) (drop-drop t.1 (at + 1) s ∙ ap (λ (i : ℕ). drop (at + 1 + i) s) n)

  -- the three cases of a record of a known kind
  module _ (k : ℕ) (q : get_or s at 0 ≡ k) (l : k ≤ 4) where
    abbrev fixed : ℕ
    fixed = fixed_bytes k

    abbrev body : ℕ
    body = body_bytes k (drop (at + 1) s)

    known : asked_of here ≡ asked k (drop (at + 1) s)
    known = ap (λ (b : ℕ). asked_of (record_at (b ∷ drop (at + 1) s))) q ∙ asked_record (drop (at + 1) s) k l

    has : (n : ℕ) → at + 1 + n ≤ length s → has_bytes n (drop (at + 1) s) ≡ true
    has n e = le-leb n (length (drop (at + 1) s)) (omega (arith, length-drop (at + 1) s))

    has_not : (n : ℕ) → length s < at + 1 + n → has_bytes n (drop (at + 1) s) ≡ false
    has_not n e = lt-leb n (length (drop (at + 1) s)) (omega (arith, length-drop (at + 1) s))

    pub scan_short : take_record k s (at + 1) ≡ no_bytes → scan_from s at ≡ 12
    unfolding take_record asked
    scan_short e =
        by_test (has_bytes (at + 1 + fixed) s)
        (λ u. let n = bytes-not-there body s (at + 1 + fixed) (sym (rw u at e)) in
        scan_refused 12 (known ∙ rw (has fixed (leb-true (at + 1 + fixed) (length s) u), has_not (fixed + body) (omega arith)) refl))
        (λ u. scan_refused 12 (known ∙ rw (has_not fixed (leb-false (at + 1 + fixed) (length s) u)) refl))

    module _ (a e next : ℕ) (t : take_record k s (at + 1) ≡ some_bytes a e next) (bs : List ℕ) (w : bs ≡ bytes_at (at + 1 + fixed) body s) where
      taken : (at + 1 + fixed + body ≤ length s) × (a ≡ at + 1 + fixed) × (e ≡ at + 1 + fixed + body) × (next ≡ at + 1 + fixed + body)
      unfolding take_record
      taken =
          by_test (has_bytes (at + 1 + fixed) s)
          (λ u. bytes_taken body s (at + 1 + fixed) a e next (sym (rw u at t)))
          (λ u. absurd (let z : ◌≡◌ {A = TakenBytes} no_bytes (some_bytes a e next) = rw u at t in let w : ⊥ = omega (arith, ap (λ (b : TakenBytes). b.number) z) in w))

      pub scan_inside : (next ≤ length s) × (at < next)
      scan_inside = let p = taken in (omega arith, omega arith)

      there : asked k (drop (at + 1) s) ≡ numbered (body_number k (bytes_at fixed body (drop (at + 1) s))) (fixed + body)
      unfolding asked
      there = let p = taken in rw (has fixed (omega arith), has (fixed + body) (omega arith)) refl

      its_body : bytes_at fixed body (drop (at + 1) s) ≡ bs
      its_body = ap (take body) (drop-drop fixed (at + 1) s) ∙ sym w

      asked_here : asked_of here ≡ numbered (body_number k bs) (fixed + body)
      asked_here = known ∙ there ∙ ap (λ (b : List ℕ). numbered (body_number k b) (fixed + body)) its_body

      pub scan_bad : (n : ℕ) → n ≡ body_number k bs → (n ≡ 0 → ⊥) → n ≡ scan_from s at
      scan_bad n q ne = sym (scan_refused n (asked_here ∙ rw (sym q, ne_eqb n 0 ne) refl))

      pub scan_good : body_number k bs ≡ 0 → scan_from s next ≡ scan_from s at
      scan_good q =
          let p = taken in
          let m : next ≡ at + 1 + (fixed + body) = omega arith in
          ap (scan_from s) m ∙ sym (scan_given (fixed + body) (asked_here ∙ rw q refl))

pub scan_end : (s : List ℕ) (at : ℕ) → length s ≤ at → scan_from s at ≡ 0
unfolding tokens
scan_end s at h = rw (drop_of_length-le s {i = at} h) refl

-- TAKING a record in two steps
module _ (k : ℕ) (s : List ℕ) (at fixed : ℕ) (f : fixed ≡ fixed_bytes k) where
  pub take_short : length s < at + fixed → no_bytes ≡ take_record k s at
  unfolding take_record
  take_short h = rw (sym f, lt-leb (at + fixed) (length s) h) refl

  pub take_whole : (n next : ℕ) → at + fixed ≤ length s → n ≡ body_bytes k (drop at s) → next ≡ at + fixed → take_bytes n s next ≡ take_record k s at
  unfolding take_record
  take_whole n next h e q = rw (sym f, le-leb (at + fixed) (length s) h, e, q) refl
