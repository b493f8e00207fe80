-- Which tables the next label is from, by the tests. Assumes nothing.
use mathlib.Core.Path.{◌≡◌, refl}
use mathlib.Core.Bool.{Bool, true, false}
use Prim.Native.Nat.{Ordering}
use Rattle.std.proofs.Common.{Less, Equal, Greater}
use Rattle.gather.specs.Tags.{as_cmp}
use Rattle.label_items.specs.declared.Next.TheVariants as next
use Rattle.label_items.specs.Joins.{Tables, tables_of, chosen}

module _ (p q : Bool) (o : Ordering) where
  pub chosen_none : p ≡ false → q ≡ false → ◌≡◌ {A = Tables} (record { symbol = false; start = false }) (chosen p q o)
  unfolding chosen
  chosen_none e d = rw (e, d) refl

  pub chosen-start : p ≡ false → q ≡ true → ◌≡◌ {A = Tables} (record { symbol = false; start = true }) (chosen p q o)
  unfolding chosen
  chosen-start e d = rw (e, d) refl

  pub chosen-symbol : p ≡ true → q ≡ false → ◌≡◌ {A = Tables} (record { symbol = true; start = false }) (chosen p q o)
  unfolding chosen
  chosen-symbol e d = rw (e, d) refl

  pub chosen_both : (x : Tables) → p ≡ true → q ≡ true → x ≡ chosen true true o → x ≡ chosen p q o
  chosen_both x e d h = rw (e, d) h

-- by how two names compare
pub by_less : (o : Ordering) → Less ≡ as_cmp o → tables_of next.Symbol ≡ chosen true true o
unfolding chosen
by_less Ordering.lt e = refl
by_less Ordering.eq e = absurd (cc)
by_less Ordering.gt e = absurd (cc)

pub by_equal : (o : Ordering) → Equal ≡ as_cmp o → tables_of next.Both ≡ chosen true true o
unfolding chosen
by_equal Ordering.lt e = absurd (cc)
by_equal Ordering.eq e = refl
by_equal Ordering.gt e = absurd (cc)

pub by_greater : (o : Ordering) → Greater ≡ as_cmp o → tables_of next.Start ≡ chosen true true o
unfolding chosen
by_greater Ordering.lt e = absurd (cc)
by_greater Ordering.eq e = absurd (cc)
by_greater Ordering.gt e = refl
