-- Number and length of a binary write are the same whatever the record orders. Assumes nothing.
use mathlib.Core.Path.{◌≡◌, refl}
use mathlib.Core.Bool.{Bool, true, false}
use mathlib.Core.List.{List}
use Prim.Native.Nat.{ℕ}
use lib.ListN.{length}
use lib.Dec.{leb}
use Rattle.format.specs.Basics.{Outcome, refused, given}
use Rattle.format.specs.ObjectFile.{ObjectFile}
use Rattle.format.specs.Words.{object_of}
use Rattle.format.specs.Binary.{binary_file, counts_fit}
use Rattle.format.specs.Calls.{Filled, fill, in_order, write_binary, WritesBinary}
use Rattle.format.specs.Marked.{write_in_order}
use Rattle.format.proofs.Lengths.{binary-order}

abbrev Same : Filled → Filled → Type 0
Same a b = (a.number ≡ b.number) × (a.len ≡ b.len)

same_size : (xs ys buffer : List ℕ) → length xs ≡ length ys → Same (fill (given xs) buffer) (fill (given ys) buffer)
unfolding fill
same_size xs ys buffer e = go (leb (length ys) (length buffer)) refl
  where
    go : (t : Bool) → leb (length ys) (length buffer) ≡ t → Same (fill (given xs) buffer) (fill (given ys) buffer)
    go true t = rw (e, t) (refl, refl)
    go false t = rw (e, t) (refl, refl)

pub orders_settle : (ws buffer : List ℕ) (r : Filled) → WritesBinary ws buffer r → Same r (fill (write_in_order ws) buffer)
unfolding write_binary write_in_order
orders_settle ws buffer r p = go (object_of ws) refl
  where
    go : (o : Outcome ObjectFile) → object_of ws ≡ o → Same r (fill (write_in_order ws) buffer)
    go (refused n) e = rw (p.3, e) (refl, refl)
    go (given h) e = by (counts_fit h) refl
      where
        by : (t : Bool) → counts_fit h ≡ t → Same r (fill (write_in_order ws) buffer)
        by false t = rw (p.3, e, t) (refl, refl)
        by true t = let o = p.2 h e in rw (p.3, e, t) (same_size (binary_file (in_order h p.0 p.1)) (binary_file h) buffer (binary-order h p.0 p.1 o.0 o.1))
