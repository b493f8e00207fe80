-- The measuring walk: what is left to measure, and the number that it comes to. Assumes nothing.
use mathlib.Core.Path.{◌≡◌, refl, sym, ap, subst, ◌∙◌}
use mathlib.Core.Bool.{true, false, ◌&&◌}
use Rattle.std.proofs.Common.{Option, Some, None}
use mathlib.Core.List.{List, [], ◌∷◌, flat_map}
use Prim.Native.Nat.{ℕ, ◌+◌, ◌≤◌, ◌<◌}
use native.Mathlib.Omega.{arith}
use lib.ListN.{length, length-append}
use borrow.Author.Tests.{le-leb, lt-leb}
use Rattle.format.specs.Basics.{every}
use Rattle.format.specs.Records.{Record}
use Rattle.format.specs.Binary.{record_bytes}
use Rattle.format.specs.Calls.{checked}
use Rattle.object.specs.Access.{record_at}
use Rattle.binary_measure.specs.Measured.{records_in, bytes_in, count_fits, room_number}
use Rattle.binary_measure.specs.Rooms.{Leaves, Takes}
use Rattle.binary_measure.proofs.WalkLaws.{From, Turn, start, no_more}

-- of the records, these are left to measure; the others fit, and their bytes are taken from the room
pub record Measures (ws : List ℕ) (used room at : ℕ) (space : Option ℕ) : Type 0 where
  pub left : List Record
  pub need : ℕ
  pub from : From ws at left
  pub leaves : Leaves room need space
  pub size : need + length (flat_map record_bytes left) ≡ used + length (bytes_in ws)
  pub counts : every count_fits (records_in ws) ≡ every count_fits left

pub begins : (ws : List ℕ) (used room : ℕ) (space : Option ℕ) → checked ws ≡ 0 → Takes (Some room) used space
    → Measures ws used room 0 space
begins ws used room space z t =
    let zero : 0 + used ≡ used = omega arith in
    record {
      left = records_in ws;
      need = used;
      from = start ws z;
      leaves = subst (λ n. Leaves room n space) zero (t room 0 (omega arith));
      size = refl;
      counts = refl;
    }

first-every : (r : Record) (rs : List Record) → every count_fits (r ∷ rs) ≡ (count_fits r && every count_fits rs)
unfolding every
first-every r rs = refl

first-bytes : (r : Record) (rs : List Record)
    → length (flat_map record_bytes (r ∷ rs)) ≡ length (record_bytes r) + length (flat_map record_bytes rs)
unfolding flat_map
first-bytes r rs = length-append (record_bytes r) (flat_map record_bytes rs)

module _ (ws : List ℕ) (used room at : ℕ) (space : Option ℕ) (m : Measures ws used room at space) where
  -- past a record that fits
  pub goes_on : (end n : ℕ) (after : Option ℕ) (t : Turn ws at end m.left) → count_fits (record_at ws at) ≡ true
      → n ≡ length (record_bytes (record_at ws at)) → Takes space n after → Measures ws used room end after
  goes_on end n after t f e k = record {
    left = t.rest;
    need = m.need + n;
    from = t.left;
    leaves = k room m.need m.leaves;
    size =
        omega (arith, m.size, e, ap (λ rs. length (flat_map record_bytes rs)) t.all ∙ first-bytes (record_at ws at) t.rest);
    counts =
        m.counts ∙ ap (λ rs. every count_fits rs) t.all ∙ first-every (record_at ws at) t.rest
        ∙ ap (λ b. b && every count_fits t.rest) f;
  }

  -- a line block with too many addresses
  pub too_many : (end : ℕ) → Turn ws at end m.left → count_fits (record_at ws at) ≡ false → 2 ≡ room_number ws used room
  unfolding room_number
  too_many end t f =
      let q = m.counts ∙ ap (λ rs. every count_fits rs) t.all ∙ first-every (record_at ws at) t.rest
      ∙ ap (λ b. b && every count_fits t.rest) f in sym (rw q)

  module _ (l : length ws ≤ at) where
    none_left : m.left ≡ []
    none_left = no_more ws at m.left l m.from

    all_fit : every count_fits (records_in ws) ≡ true
    unfolding every
    all_fit = m.counts ∙ ap (λ rs. every count_fits rs) none_left

    taken : m.need ≡ used + length (bytes_in ws)
    unfolding flat_map
    taken = omega (arith, m.size, ap (λ rs. length (flat_map record_bytes rs)) none_left)

    pub is_short_lem : space ≡ None → 3 ≡ room_number ws used room
    unfolding room_number
    is_short_lem e =
        let h : room < used + length (bytes_in ws) = omega (arith, taken, subst (Leaves room m.need) e m.leaves) in
        sym (rw (all_fit, lt-leb (used + length (bytes_in ws)) room h))

    pub is_enough : {rest : ℕ} → space ≡ Some rest → 0 ≡ room_number ws used room
    unfolding room_number
    is_enough e =
        let h : used + length (bytes_in ws) ≤ room = omega (arith, taken, subst (Leaves room m.need) e m.leaves) in
        sym (rw (all_fit, le-leb (used + length (bytes_in ws)) room h))
