-- Rows of a list one by one, and what ran of them. Assumes nothing.
use mathlib.Core.Path.{◌≡◌, refl, sym, ap, subst, ◌∙◌}
use mathlib.Core.List.{List, [], ◌∷◌, ◌++◌, map}
use Prim.Native.Nat.{ℕ, ◌+◌, ◌≤◌, ◌<◌, min}
use native.Mathlib.Omega.{arith}
use native.Mathlib.Numerals.{add-one}
use lib.ListN.{length, take, get_or}
use lib.Seq.{take-suc, take-append-le, length-take-le}
use Rattle.format.specs.Trips.{Trip, LogEntry, log_entry}
use Rattle.units.specs.Refusal.{number_in}
use Rattle.round_trips.specs.declared.Row.{Row}
use Rattle.object_format.specs.TripSteps.{trip_of, Made, standing, Step}
use Rattle.round_trips.specs.Steps.{StepsMade, none_left, one_more}
use Rattle.round_trips.specs.Rows.{form_of, TripRow, row_of, row, Ran}

-- a list after a list
steps_append : {ws mid last : List ℕ} {ts us : List Trip} {es fs : List LogEntry}
    → StepsMade ws ts es mid → StepsMade mid us fs last → StepsMade ws (ts ++ us) (es ++ fs) last
steps_append none_left k = k
steps_append (one_more s j) k = one_more s (steps_append j k)

module _ {A : Type 0} (f : A → TripRow) where
  map-append : (xs ys : List A) → map f (xs ++ ys) ≡ map f xs ++ map f ys
  map-append [] ys = refl
  map-append (x ∷ xs) ys = ap (λ rs. f x ∷ rs) (map-append xs ys)

-- one row more
pub map-more : (xs : List Row) (i : ℕ) (x : Row) → i < length xs → map row (take (i + 1) xs) ≡ map row (take i xs) ++ (row (get_or xs i x) ∷ [])
map-more xs i x h = rw (add-one, take-suc xs i x h) (map-append row (take i xs) (get_or xs i x ∷ []))

-- one trip
pub ran_one :
    (x : Row) (ws bytes words : List ℕ) (r : Made) (after last : List ℕ) → Step (form_of x.form) ws bytes words r after
    → length bytes ≡ min x.bytes 1024 → length words ≡ min x.words 64 → last ≡ standing r after ws → Ran (row x ∷ []) ws last
ran_one x ws bytes words r after last s p q e =
    let t = trip_of (form_of x.form) bytes words in
    let es = log_entry t ws (number_in r) (standing r after ws) ∷ [] in
    record { trips = t ∷ []; log = es; made = subst (StepsMade ws (t ∷ []) es) (sym e) (one_more s none_left); as_listed = rw (p, q) }

-- how many of them there are
pub front_length : (n : ℕ) (xs ys : List ℕ) → n ≤ length xs → length (take n (xs ++ ys)) ≡ n
front_length n xs ys h = ap length (take-append-le n xs ys h) ∙ length-take-le n xs h

-- what of a buffer is lent
pub part_length : (n most m : ℕ) (xs : List ℕ) → most ≡ length xs → n ≤ most → n ≡ m → length (take n xs) ≡ m
part_length n most m xs e h k = length-take-le n xs (omega arith) ∙ k

-- what was put at a front that the words filled stand at
pub front_put : (n : ℕ) (xs ys to : List ℕ) → n ≤ length xs → take (length (take n (xs ++ ys))) to ≡ take n (xs ++ ys) → take n to ≡ take n xs
front_put n xs ys to h e = ap (λ k. take k to) (sym (front_length n xs ys h)) ∙ e ∙ take-append-le n xs ys h

pub ran_none : (ws : List ℕ) → Ran [] ws ws
ran_none ws = record { trips = []; log = []; made = none_left; as_listed = refl }

pub ran_append : {rs qs : List TripRow} {ws mid last : List ℕ} → Ran rs ws mid → Ran qs mid last → Ran (rs ++ qs) ws last
ran_append {rs = rs} {qs = qs} a b = record {
  trips = a.trips ++ b.trips;
  log = _;
  made = steps_append a.made b.made;
  as_listed = map-append row_of a.trips b.trips ∙ ap (λ xs. xs ++ map row_of b.trips) a.as_listed ∙ ap (λ xs. rs ++ xs) b.as_listed;
}
