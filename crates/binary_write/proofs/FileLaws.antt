-- What a binary write comes to, by the numbers of the check and of the measuring. Assumes nothing.
use mathlib.Core.Path.{◌≡◌, refl, sym, ap, ap₂, subst, ◌∙◌}
use mathlib.Core.Bool.{Bool, true}
use mathlib.Core.List.{List, [], ◌++◌, flat_map}
use Prim.Native.Nat.{ℕ, ◌+◌, ◌≤◌}
use native.Mathlib.Omega.{arith}
use lib.ListN.{length, length-append}
use lib.Dec.{leb, eqb}
use borrow.Author.Tests.{leb-true, leb-false, eq-eqb, eqb-true}
use Rattle.format.specs.Basics.{Outcome, refused, given, ◌>>=◌, ask, every}
use Rattle.format.specs.ObjectFile.{ObjectFile}
use Rattle.format.specs.Records.{records_of, placed}
use Rattle.format.specs.Words.{object_of}
use Rattle.format.specs.Binary.{record_bytes, counts_fit}
use Rattle.format.specs.Calls as calls
use Rattle.format.specs.Calls.{checked, fill, in_order, Reordered, OrdersOf}
use Rattle.format.proofs.ListLaws.{by_test, unchanged}
use Rattle.format.proofs.WordsOnly.{given-same}
use Rattle.object.proofs.Formed.{not_formed}
use Rattle.std.specs.Prelude.{Ok}
use Rattle.units.specs.Refusal.{filled_of}
use Rattle.units.proofs.RefusalLaws.{err-short}
use Rattle.writing.specs.Written.{Put}
use Rattle.writing.proofs.WriteLaws.{put_fills}
use Rattle.binary_write.specs.Files.{file_after, WritesAfter}
use Rattle.binary_measure.specs.Measured.{records_in, bytes_in, count_fits, room_number, write_number}
use Rattle.binary_measure.proofs.WalkLaws.{object_is, in_order_lem, counts-placed}

-- what is handed back and left of a buffer where the question with this number is answered no
abbrev pub refusing : ℕ → List ℕ → calls.Filled
refusing n buffer = record { number = n; len = 0; buffer = buffer }

ends-refused : (n : ℕ) (buffer : List ℕ) → refusing n buffer ≡ fill (refused n) buffer
unfolding fill
ends-refused n buffer = refl

-- words that are not well formed
module _ (front ws buffer : List ℕ) (n : ℕ) (e : n ≡ checked ws) (some : n ≡ 0 → ⊥) where
  pub refused_1 : WritesAfter front ws buffer (refusing n buffer)
  unfolding file_after
  refused_1 =
      let never : OrdersOf ws [] [] = λ o q. let z : ◌≡◌ {A = ℕ} 0 1 = clashing q in absurd (omega arith) in
      ([], [], never, ends-refused n buffer ∙ sym (ap (λ o. fill (o >>= rest) buffer) (not_formed ws n e some)))
    where
      rest : ObjectFile → Outcome (List ℕ)
      rest o = ask 2 (counts_fit o) >>= λ _. given (front ++ flat_map record_bytes (records_of (in_order o [] [])))

      clashing : {o : ObjectFile} → object_of ws ≡ given o → ◌≡◌ {A = ℕ} 0 1
      clashing q = let p : refused n ≡ given _ = sym (not_formed ws n e some) ∙ q in cc

-- words that are well formed
module _ (front ws buffer : List ℕ) (z : checked ws ≡ 0) where
  abbrev own : ObjectFile
  own = placed (records_in ws)

  orders : OrdersOf ws own.labels own.relocations
  orders h e =
      let q : own ≡ h = given-same (sym (object_is ws z) ∙ e) in
      subst (λ (o : ObjectFile). Reordered o.labels own.labels × Reordered o.relocations own.relocations) q
      (unchanged own.labels, unchanged own.relocations)

  abbrev fits : Bool
  fits = every count_fits (records_in ws)

  file_is : file_after front ws own.labels own.relocations ≡ (ask 2 fits >>= λ _. given (front ++ bytes_in ws))
  unfolding file_after
  file_is =
      ap (λ o. o >>= λ h. ask 2 (counts_fit h) >>= λ _. given (front ++ flat_map record_bytes (records_of (in_order h own.labels
      own.relocations)))) (object_is ws z)
      ∙ ap₂ (λ b rs. ask 2 b >>= λ _. given (front ++ flat_map record_bytes rs)) (counts-placed (records_in ws)) (in_order_lem ws z)

  -- the answer, in the object's own order
  promised : (r : calls.Filled) → r ≡ fill (ask 2 fits >>= λ _. given (front ++ bytes_in ws)) buffer → WritesAfter front ws buffer r
  promised r e = (own.labels, own.relocations, orders, e ∙ sym (ap (λ o. fill o buffer) file_is))

  module _ (m : ℕ) (e : m ≡ room_number ws (length front) (length buffer)) where
    abbrev size : ℕ
    size = length front + length (bytes_in ws)

    pub refused_2_3 : (m ≡ 0 → ⊥) → WritesAfter front ws buffer (refusing m buffer)
    unfolding room_number
    refused_2_3 some =
        promised (refusing m buffer) (
        by_test fits
        (λ t. by_test (leb size (length buffer))
        (λ l. absurd (some (e ∙ simp (t, l))))
        (λ l. let k = leb-false size (length buffer) l in
        ap (λ k. refusing k buffer) (e ∙ simp (t, l))
        ∙ err-short (front ++ bytes_in ws) buffer (omega (arith, length-append front (bytes_in ws)))
        ∙ sym (ap (λ b. fill (ask 2 b >>= λ _. given (front ++ bytes_in ws)) buffer) t)))
        (λ t. ap (λ k. refusing k buffer) (e ∙ simp t) ∙ ends-refused 2 buffer
        ∙ sym (ap (λ b. fill (ask 2 b >>= λ _. given (front ++ bytes_in ws)) buffer) t)))

    module _ (none : m ≡ 0) where
      all_fit : (fits ≡ true) × (size ≤ length buffer)
      unfolding room_number
      all_fit =
          by_test fits
          (λ t. by_test (leb size (length buffer))
          (λ l. (t, leb-true size (length buffer) l))
          (λ l. let q : 3 ≡ 0 = sym (e ∙ simp (t, l)) ∙ none in absurd (omega (arith, q))))
          (λ t. let q : 2 ≡ 0 = sym (e ∙ simp t) ∙ none in absurd (omega (arith, q)))

      pub enough : length (front ++ bytes_in ws) ≤ length buffer
      enough = omega (arith, length-append front (bytes_in ws), all_fit.1)

      pub written_file : (n : ℕ) (after : List ℕ) → Put (front ++ bytes_in ws) buffer n after
          → WritesAfter front ws buffer (filled_of (Ok n) after)
      written_file n after p =
          promised _ (put_fills (front ++ bytes_in ws) buffer enough p
          ∙ sym (ap (λ b. fill (ask 2 b >>= λ _. given (front ++ bytes_in ws)) buffer) all_fit.0))

-- the number of the check and of the measuring
module _ (front ws buffer : List ℕ) (m : ℕ) (e : m ≡ write_number ws (length front) (length buffer)) where
  -- of words that are well formed
  measured : checked ws ≡ 0 → m ≡ room_number ws (length front) (length buffer)
  unfolding write_number
  measured z = e ∙ rw (eq-eqb (checked ws) 0 z)

  pub refused-number : (m ≡ 0 → ⊥) → WritesAfter front ws buffer (refusing m buffer)
  unfolding write_number
  refused-number some =
      by_test (eqb (checked ws) 0)
      (λ t. let z = eqb-true (checked ws) 0 t in refused_2_3 front ws buffer z m (measured z) some)
      (λ t. refused_1 front ws buffer m (e ∙ simp t) some)

  module _ (none : m ≡ 0) where
    pub is_formed : checked ws ≡ 0
    unfolding write_number
    is_formed =
        by_test (eqb (checked ws) 0)
        (λ t. eqb-true (checked ws) 0 t)
        (λ t. sym (e ∙ simp t) ∙ none)

    pub is_measured : m ≡ room_number ws (length front) (length buffer)
    is_measured = measured is_formed
