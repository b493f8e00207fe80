-- An object that is well formed and in range has a word form that is read as it, and no other words are: so every later law may speak of
-- objects in place of words. Assumes nothing.
use mathlib.Core.Path.{◌≡◌, refl, sym, ◌∙◌, ap}
use mathlib.Core.Bool.{Bool, true, false}
use mathlib.Core.List.{List, [], ◌∷◌, ◌++◌, map, append-nil, flat_map}
use Prim.Native.Nat.{ℕ}
use Rattle.std.specs.Prelude.{if◌then◌else◌}
use Rattle.format.specs.Basics.{given, ◌>>=◌, ask, is_empty, All}
use Rattle.format.specs.Tokens.{parts_at, head_of, body_of}
use Rattle.format.specs.Sorted.{rises}
use Rattle.format.specs.ObjectFile.{ObjectFile, consistent}
use Rattle.format.specs.Records.{Record, record_key, records_of, placed}
use Rattle.format.specs.Words.{record_words, words_of, is_head, record_from, records_from, object_of}
use Rattle.format.proofs.ListLaws.{empty_is}
use Rattle.format.proofs.ListFacts.{parts_body}
use Rattle.format.proofs.RisesLaws.{rises_type, rises_test}
use Rattle.format.proofs.Ranges.{WellFormed, InRange, InWords, range_records, records_range}
use Rattle.format.proofs.PlacedLaws.{placed-back}
use Rattle.format.proofs.RecordLaws.{object-rises, records_placed, parts_rise}
use Rattle.format.proofs.WordsBack.{group_of, group_words, group_head, group_body, group_back}
use Rattle.format.proofs.WordsOnly.{bind_given, ask-given, given-same, record_only}

-- words cut before each head
group_parts :
    (p : ℕ → Bool) (a : ℕ) (bs rest : List ℕ) (gs : List (ℕ × List ℕ)) → p a ≡ true → All (λ w. p w ≡ false) bs → parts_at p rest ≡ record { before = []; groups = gs }
    → parts_at p (a ∷ (bs ++ rest)) ≡ record { before = []; groups = (a, bs) ∷ gs }
unfolding parts_at
group_parts p a bs rest gs t h e = rw (t, parts_body p bs rest h, e, append-nil bs)

records_parts : (rs : List Record) → All InWords rs → parts_at is_head (flat_map record_words rs) ≡ record { before = []; groups = map group_of rs }
unfolding flat_map parts_at
records_parts [] h = refl
records_parts (r ∷ rs) h =
    rw (group_words r)
    (group_parts is_head (group_of r).0 (group_of r).1 (flat_map record_words rs) (map group_of rs) (group_head r h.0) (group_body r h.0) (records_parts rs h.1))

records_from_lem : (rs : List Record) → All InWords rs → records_from (map group_of rs) ≡ given rs
unfolding records_from
records_from_lem [] h = refl
records_from_lem (r ∷ rs) h = rw (group_back r h.0, records_from_lem rs h.1)

-- the path of a reading whose questions are answered
object_path :
    (ws : List ℕ) (gs : List (ℕ × List ℕ)) (rs : List Record) (h : ObjectFile) → parts_at is_head ws ≡ record { before = []; groups = gs } → records_from gs ≡ given rs
    → rises record_key rs ≡ true → placed rs ≡ h → consistent h ≡ true → object_of ws ≡ given h
unfolding object_of is_empty
object_path ws gs rs h a b c d e = rw (a, b, c, d, e)

pub words_back : (h : ObjectFile) → WellFormed h → InRange h → object_of (words_of h) ≡ given h
unfolding words_of
words_back h w r =
    let all : All InWords (records_of h) = range_records h r in
    object_path (flat_map record_words (records_of h)) (map group_of (records_of h)) (records_of h) h (records_parts (records_of h) all) (records_from_lem (records_of h) all)
    (rises_test record_key (records_of h) (object-rises h w)) (placed-back h) w.consistent

-- and back
abbrev words_in : ℕ × List ℕ → List ℕ
words_in g = g.0 ∷ g.1

parts-words : (p : ℕ → Bool) (ws : List ℕ) → (parts_at p ws).before ++ flat_map words_in (parts_at p ws).groups ≡ ws
unfolding parts_at flat_map
parts-words p [] = refl
parts-words p (w ∷ ws) = go (p w) (parts-words p ws)
  where
    go : (t : Bool) → (parts_at p ws).before ++ flat_map words_in (parts_at p ws).groups ≡ ws
        → (if t then head_of w (parts_at p ws) else body_of w (parts_at p ws)).before ++ flat_map words_in (if t then head_of w (parts_at p ws) else body_of w (parts_at p ws)).groups ≡ w ∷ ws
    go true e = ap (λ (x : List ℕ). w ∷ x) e
    go false e = ap (λ (x : List ℕ). w ∷ x) e

records_only : (gs : List (ℕ × List ℕ)) (rs : List Record) → records_from gs ≡ given rs → (flat_map record_words rs ≡ flat_map words_in gs) × All InWords rs
unfolding records_from flat_map
records_only [] rs e = let q : [] ≡ rs = given-same e in rw (← q) (refl, tt)
records_only (g ∷ gs) rs e =
    let p = bind_given (record_from g) (λ r. records_from gs >>= λ qs. given (r ∷ qs)) rs e in
    let s = bind_given (records_from gs) (λ qs. given (p.0 ∷ qs)) rs p.2 in
    let a = record_only g.0 g.1 p.0 p.1 in
    let b = records_only gs s.0 s.1 in
    let q : p.0 ∷ s.0 ≡ rs = given-same s.2 in
    rw (← q) (rw (a.0, b.0), (a.1, b.1))

pub words-only : (ws : List ℕ) (h : ObjectFile) → object_of ws ≡ given h → (words_of h ≡ ws) × WellFormed h × InRange h
unfolding object_of words_of
words-only ws h e =
    let gs : List (ℕ × List ℕ) = (parts_at is_head ws).groups in
    let a =
    ask-given 1 (is_empty (parts_at is_head ws).before) (records_from gs >>= λ rs. ask 1 (rises record_key rs) >>= λ _. ask 1 (consistent (placed rs)) >>= λ _. given (placed rs)) h e in
    let b = bind_given (records_from gs) (λ rs. ask 1 (rises record_key rs) >>= λ _. ask 1 (consistent (placed rs)) >>= λ _. given (placed rs)) h a.1 in
    let rs : List Record = b.0 in
    let c = ask-given 1 (rises record_key rs) (ask 1 (consistent (placed rs)) >>= λ _. given (placed rs)) h b.2 in
    let d = ask-given 1 (consistent (placed rs)) (given (placed rs)) h c.1 in
    let q : placed rs ≡ h = given-same d.1 in
    let up = rises_type record_key rs c.0 in
    let same : records_of h ≡ rs = ap records_of (sym q) ∙ records_placed rs up in
    let o = records_only gs rs b.1 in
    let whole = parts-words is_head ws in
    let none : (parts_at is_head ws).before ≡ [] = empty_is (parts_at is_head ws).before a.0 in
    (ap (flat_map record_words) same ∙ o.0 ∙ rw none at whole, parts_rise h (rw same up) (ap consistent (sym q) ∙ d.0), records_range h (rw same o.1))
