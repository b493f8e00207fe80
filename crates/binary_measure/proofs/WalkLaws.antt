-- A walk along the records of a well formed object: what is left from a head on. Assumes nothing.
use mathlib.Core.Path.{◌≡◌, refl, sym, ap, subst, ◌∙◌}
use mathlib.Core.Bool.{◌&&◌}
use mathlib.Core.List.{List, [], ◌∷◌}
use Prim.Native.Nat.{ℕ, ◌+◌, ◌≤◌, ◌<◌}
use native.Mathlib.Omega.{arith}
use lib.ListN.{length}
use lib.Dec.{leb}
use Rattle.format.specs.Basics.{given, given_or, every}
use Rattle.format.specs.ObjectFile.{ObjectFile}
use Rattle.format.specs.Records.{Record, block, label, line_block, source, relocation, record_key, records_of, placed, empty_object}
use Rattle.format.specs.Words.{records_from, object_of}
use Rattle.format.specs.Binary.{counts_fit}
use Rattle.format.specs.Calls.{checked}
use Rattle.format.proofs.RisesLaws.{rises_type}
use Rattle.format.proofs.RecordLaws.{records_placed}
use Rattle.object.specs.Bodies.{body_at, groups_at}
use Rattle.object.specs.Access.{record_at}
use Rattle.object.proofs.BodyLaws.{head_at, body_fits}
use Rattle.object.proofs.Formed.{formed, Held, held}
use Rattle.object.proofs.AccessLaws.{next, done, record_is}
use Rattle.binary_measure.specs.Measured.{Begins, Stands, records_in, count_fits}

-- these records are left from a place on, where a head stands or the end
pub record From (ws : List ℕ) (at : ℕ) (rs : List Record) : Type 0 where
  pub stops : body_at ws at ≡ []
  pub read : records_from (groups_at ws at) ≡ given rs

-- the record at the place, and those after it
pub record Turn (ws : List ℕ) (at end : ℕ) (rs : List Record) : Type 0 where
  pub stands : Stands ws at end
  pub rest : List Record
  pub all : rs ≡ record_at ws at ∷ rest
  pub left : From ws end rest

pub turn : (ws : List ℕ) (at end : ℕ) (rs : List Record) → at < length ws → end ≡ at + 1 + length (body_at ws (at + 1)) → From ws at rs
    → Turn ws at end rs
turn ws at end rs l e f =
    let n = next ws at rs f.read l f.stops in
    let q = record_is ws at n.first n.head l f.stops in
    let go : From ws (at + 1 + length (body_at ws (at + 1))) n.rest = record { stops = n.stops; read = n.tail } in
    record {
      stands = record {
        inside = l;
        begins = head_at ws at l f.stops;
        reads = n.head ∙ ap given q;
        ends = (e, omega (arith, e, body_fits ws (at + 1) (omega arith)));
      };
      rest = n.rest;
      all = n.all ∙ ap (λ r. r ∷ n.rest) q;
      left = subst (λ k. From ws k n.rest) (sym e) go;
    }

pub record_begins : (ws : List ℕ) (at : ℕ) (rs : List Record) → at < length ws → From ws at rs → Begins ws at
record_begins ws at rs l f = let t = turn ws at (at + 1 + length (body_at ws (at + 1))) rs l refl f in (l, t.stands.reads)

pub no_more : (ws : List ℕ) (at : ℕ) (rs : List Record) → length ws ≤ at → From ws at rs → rs ≡ []
no_more ws at rs l f = done ws at rs f.read l

-- THE WHOLE OBJECT
module _ (ws : List ℕ) (z : checked ws ≡ 0) where
  abbrev object : ObjectFile
  object = (formed ws z).object

  abbrev is_held : Held ws object
  is_held = held ws object (formed ws z).is

  records_are : is_held.records ≡ records_in ws
  unfolding records_in
  records_are = sym (ap (λ o. given_or o []) is_held.read)

  pub start : From ws 0 (records_in ws)
  start = record { stops = is_held.starts; read = is_held.read ∙ ap given records_are }

  pub object_is : object_of ws ≡ given (placed (records_in ws))
  object_is = (formed ws z).is ∙ ap given (sym is_held.is) ∙ ap (λ rs. given (placed rs)) records_are

  pub in_order_lem : records_of (placed (records_in ws)) ≡ records_in ws
  in_order_lem =
      subst (λ rs. records_of (placed rs) ≡ rs) records_are
      (records_placed is_held.records (rises_type record_key is_held.records is_held.rising))

-- the counts of all line blocks, record by record
pub counts-placed : (rs : List Record) → counts_fit (placed rs) ≡ every count_fits rs
unfolding counts_fit count_fits placed every empty_object
counts-placed [] = refl
counts-placed (block b ∷ rs) = counts-placed rs
counts-placed (label l ∷ rs) = counts-placed rs
counts-placed (line_block l ∷ rs) = ap (λ t. leb (length l.addresses) 65535 && t) (counts-placed rs)
counts-placed (source s ∷ rs) = counts-placed rs
counts-placed (relocation r ∷ rs) = counts-placed rs
