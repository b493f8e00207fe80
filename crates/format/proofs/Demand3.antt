-- DEMAND 3: the theorem, by induction over the list of trips; and that outcomes exist for every list. Assumes nothing.
use mathlib.Core.Path.{◌≡◌, refl, sym, ◌∙◌, subst}
use mathlib.Core.List.{List, [], ◌∷◌}
use Prim.Native.Nat.{ℕ}
use native.Mathlib.Omega.{arith}
use native.Mathlib.Decide.{ℕ_discrete}
use Rattle.format.specs.Basics.{Outcome, given, ◌>>=◌, given_or}
use Rattle.format.specs.ObjectFile.{Label, Relocation, ObjectFile}
use Rattle.format.specs.Words.{object_of}
use Rattle.format.specs.Calls.{Filled, fill, OrdersOf, write_binary, write_text, read_binary, read_text}
use Rattle.format.specs.Trips.{Form, binary, text, Trip, Writes, Reads, filled_part, TripMade, write_refused, read-refused, completed, LogEntry, log_entry, TripsMade, done, onward, ComesBack, Demand3, OutcomesExist}
use Rattle.format.proofs.ListLaws.{unchanged}
use Rattle.format.proofs.TripLaws.{Stands, stands, trip_law}

-- for every list: each trip leaves the words as they stood
all_stand :
    (ws : List ℕ) (ts : List Trip) (es : List LogEntry) (last : List ℕ) → TripsMade ws ts es last → (h : ObjectFile) → Stands ws h
    → ComesBack ws es last
all_stand ws ts es last done h s = (tt, refl)
all_stand ws ts es last (onward {next = next} {n = n} {t = t} {ts = us} {es = fs} k j) h s =
    let u = trip_law t ws h n next s k in
    let i = all_stand next us fs last j h (subst (λ (v : List ℕ). Stands v h) (sym u.stood) s) in
    ((u, i.0), i.1 ∙ u.stood)

pub demand_3 : Demand3
demand_3 ws n f ts es last j = all_stand ws ts es last j f.object (stands ws f.object (omega arith) f.well_formed f.parts)

-- outcomes exist
labels_in : Outcome ObjectFile → List Label
labels_in o = given_or (o >>= λ h. given h.labels) []

relocations_in : Outcome ObjectFile → List Relocation
relocations_in o = given_or (o >>= λ h. given h.relocations) []

in_order_lem : (ws : List ℕ) → OrdersOf ws (labels_in (object_of ws)) (relocations_in (object_of ws))
unfolding labels_in relocations_in
in_order_lem ws h e = rw e (unchanged h.labels, unchanged h.relocations)

writes : (f : Form) (ws buffer : List ℕ) → (w : Filled) × Writes f ws buffer w
writes binary ws buffer =
    let ls = labels_in (object_of ws) in
    let rs = relocations_in (object_of ws) in
    (fill (write_binary ws ls rs) buffer, (ls, rs, in_order_lem ws, refl))
writes text ws buffer = (fill (write_text ws) buffer, refl)

reads : (f : Form) (bs buffer : List ℕ) → (r : Filled) × Reads f bs buffer r
reads binary bs buffer = (fill (read_binary bs) buffer, refl)
reads text bs buffer = (fill (read_text bs) buffer, refl)

trip_exists : (t : Trip) (ws : List ℕ) → (n : ℕ) × (next : List ℕ) × TripMade t ws n next
trip_exists t ws = after_write (writes t.form ws t.bytes)
  where
    after_read : (w : Filled) → Writes t.form ws t.bytes w → w.number ≡ 0 → (r : Filled) → Reads t.form (filled_part w) t.words r
        → Dec (r.number ≡ 0) → (n : ℕ) × (next : List ℕ) × TripMade t ws n next
    after_read w p e r q (yes d) = (0, filled_part r, completed w r p e q d)
    after_read w p e r q (no d) = (r.number, ws, read-refused w r p e q d)

    decided : (w : Filled) → Writes t.form ws t.bytes w → Dec (w.number ≡ 0) → (n : ℕ) × (next : List ℕ) × TripMade t ws n next
    decided w p (yes e) =
        let r = reads t.form (filled_part w) t.words in
        after_read w p e r.0 r.1 (ℕ_discrete r.0.number 0)
    decided w p (no e) = (w.number, ws, write_refused w p e)

    after_write : (w : Filled) × Writes t.form ws t.bytes w → (n : ℕ) × (next : List ℕ) × TripMade t ws n next
    after_write x = decided x.0 x.1 (ℕ_discrete x.0.number 0)

pub outcomes_exist : OutcomesExist
outcomes_exist ws [] = ([], ws, done)
outcomes_exist ws (t ∷ ts) =
    let x = trip_exists t ws in
    let y = outcomes_exist x.1 ts in
    (log_entry t ws x.0 x.1 ∷ y.0, y.1, onward x.2 y.2)
