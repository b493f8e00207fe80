-- What writers and queries start from: a checked object is well formed, its records are read one by one. Assumes nothing.
use mathlib.Core.Path.{◌≡◌, refl, sym, ◌∙◌, ap}
use mathlib.Core.Bool.{true, cond}
use mathlib.Core.List.{List, [], ◌∷◌}
use Prim.Native.Nat.{ℕ}
use native.Mathlib.Omega.{arith}
use Rattle.format.specs.Basics.{Outcome, refused, given, ◌>>=◌, ask, is_empty, is_given}
use Rattle.format.specs.Tokens.{parts_at}
use Rattle.format.specs.Sorted.{rises}
use Rattle.format.specs.ObjectFile.{ObjectFile, consistent}
use Rattle.format.specs.Records.{Record, record_key, placed}
use Rattle.format.specs.Words.{is_head, record_from, records_from, object_of}
use Rattle.format.specs.Calls.{refusal_of, checked}
use Rattle.object.specs.Bodies.{body_at, groups_at}
use Rattle.format.proofs.WordsOnly.{bind_given, ask-given, given-same}
use Rattle.object.proofs.Tests.{clash}
use Rattle.object.proofs.RefusalLaws.{refusal_of_lem}

-- the first record of those read
pub record Reads (g : ℕ × List ℕ) (gs : List (ℕ × List ℕ)) (rs : List Record) : Type 0 where
  pub first : Record
  pub rest : List Record
  pub head : record_from g ≡ given first
  pub tail : records_from gs ≡ given rest
  pub all : rs ≡ first ∷ rest

pub reads : (g : ℕ × List ℕ) (gs : List (ℕ × List ℕ)) (rs : List Record) → records_from (g ∷ gs) ≡ given rs → Reads g gs rs
unfolding records_from
reads g gs rs e =
    let f = bind_given (record_from g) (λ r. records_from gs >>= λ qs. given (r ∷ qs)) rs e in
    let t = bind_given (records_from gs) (λ qs. given (f.0 ∷ qs)) rs f.2 in
    record { first = f.0; rest = t.0; head = f.1; tail = t.1; all = sym (given-same t.2) }

-- the records of a well formed object: it starts with a head, they rise, and it is theirs
pub record Held (ws : List ℕ) (h : ObjectFile) : Type 0 where
  pub records : List Record
  pub starts : body_at ws 0 ≡ []
  pub read : records_from (groups_at ws 0) ≡ given records
  pub rising : rises record_key records ≡ true
  pub whole : consistent (placed records) ≡ true
  pub is : placed records ≡ h

empty : (xs : List ℕ) → is_empty xs ≡ true → xs ≡ []
unfolding is_empty
empty [] e = refl
empty (x ∷ xs) e = clash e refl

pub held : (ws : List ℕ) (h : ObjectFile) → object_of ws ≡ given h → Held ws h
unfolding object_of groups_at body_at
held ws h e =
    let p = parts_at is_head ws in
    let last : List Record → Outcome ObjectFile = λ rs. ask 1 (consistent (placed rs)) >>= λ _. given (placed rs) in
    let then : List Record → Outcome ObjectFile = λ rs. ask 1 (rises record_key rs) >>= λ _. last rs in
    let a = ask-given 1 (is_empty p.before) (records_from p.groups >>= then) h e in
    let f = bind_given (records_from p.groups) then h a.1 in
    let b = ask-given 1 (rises record_key f.0) (last f.0) h f.2 in
    let c = ask-given 1 (consistent (placed f.0)) (given (placed f.0)) h b.1 in
    record { records = f.0; starts = empty p.before a.0; read = f.1; rising = b.0; whole = c.0; is = given-same c.1 }

-- an object by its number
pub record Formed (ws : List ℕ) : Type 0 where
  pub object : ObjectFile
  pub is : object_of ws ≡ given object

pub formed : (ws : List ℕ) → checked ws ≡ 0 → Formed ws
formed ws z = go (object_of ws) refl
  where
    go : (o : Outcome ObjectFile) → object_of ws ≡ o → Formed ws
    go (refused n) e = absurd (omega (arith, z, refusal_of_lem ws ∙ ap (λ o. cond (is_given o) 0 1) e))
    go (given h) e = record { object = h; is = e }

-- and words that are none, by theirs
pub not_formed : (ws : List ℕ) (n : ℕ) → n ≡ checked ws → (n ≡ 0 → ⊥) → object_of ws ≡ refused n
unfolding checked
not_formed ws n e nz = go (object_of ws) refl
  where
    go : (o : Outcome ObjectFile) → object_of ws ≡ o → object_of ws ≡ refused n
    go (refused m) q = q ∙ ap refused (sym (e ∙ ap refusal_of q))
    go (given h) q = absurd (nz (e ∙ ap refusal_of q))
