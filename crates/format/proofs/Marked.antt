-- The table of the marked cases, proved by computation; and that the 18 words give the 77 bytes whatever the record orders.
-- Assumes nothing.
use mathlib.Core.Path.{◌≡◌, refl, ◌∙◌, ap}
use mathlib.Core.Bool.{false}
use mathlib.Core.List.{List, [], ◌∷◌}
use mathlib.Core.Option.{none, some}
use Prim.Native.Nat.{ℕ, suc}
use native.Mathlib.Omega.{arith}
use lib.ListN.{length}
use Rattle.format.specs.Basics.{Outcome, given, open-Basics}
use Rattle.format.specs.Digits.{open-Digits}
use Rattle.format.specs.Tokens.{open-Tokens}
use Rattle.format.specs.Sorted.{open-Sorted}
use Rattle.format.specs.Utf8.{open-Utf8}
use Rattle.format.specs.ObjectFile.{Label, Relocation, ObjectFile, open-ObjectFile}
use Rattle.format.specs.Records.{open-Records}
use Rattle.format.specs.Words.{object_of, open-Words}
use Rattle.format.specs.Source.{open-Source}
use Rattle.format.specs.Binary.{open-Binary}
use Rattle.format.specs.TextWriter.{open-TextWriter}
use Rattle.format.specs.TextReader.{open-TextReader}
use Rattle.format.specs.Calls.{Reordered, none_left, same_first, swap, chained, Filled, fill, write_binary, WritesBinary, open-Calls}
use Rattle.format.specs.Signs.{open-Signs}
use Rattle.format.specs.Marked.{write_in_order, MarkedHold, words18, bytes77}

pub marked_hold : MarkedHold
unfolding write_in_order open-Basics open-Digits open-Tokens open-Sorted open-Utf8 open-ObjectFile open-Records open-Words open-Source open-Binary open-TextWriter open-TextReader open-Calls open-Signs
marked_hold = (refl, (refl, (refl, (refl, (refl, (refl, (refl, (refl, (refl, (refl, (refl, (refl, (refl, (refl, (refl, (refl, (refl, (refl, (refl, (refl, (refl, (refl, (refl, (refl, (refl, tt)))))))))))))))))))))))))

-- a list of none, and a list of one, has one order
no_order : {A : Type 0} {xs ys : List A} → Reordered xs ys → xs ≡ [] → ys ≡ []
no_order none_left e = refl
no_order (same_first {xs = xs} r) e = absurd (let n : suc (length xs) ≡ 0 = ap length e in omega arith)
no_order (swap {xs = xs}) e = absurd (let n : suc (suc (length xs)) ≡ 0 = ap length e in omega arith)
no_order (chained r s) e = no_order s (no_order r e)

one-order : {A : Type 0} {xs ys : List A} → Reordered xs ys → (a : A) → xs ≡ a ∷ [] → ys ≡ a ∷ []
one-order none_left a e = e
one-order (same_first {xs = xs} r) a e = let q : xs ≡ [] = cc in let s = no_order r q in cc
one-order (swap {xs = xs}) a e = absurd (let n : suc (suc (length xs)) ≡ 1 = ap length e in omega arith)
one-order (chained r s) a e = one-order s a (one-order r a e)

label18 : Label
label18 = record { name = 0x41 ∷ []; address = 0x3001; external = false; start = 5 }

relocation18 : Relocation
relocation18 = record { address = 0x0130; name = 0x41 ∷ [] }

object18 : ObjectFile
object18 = record {
  blocks = record { address = 0x3000; words = some 0x1234 ∷ none ∷ [] } ∷ [];
  labels = label18 ∷ [];
  line_blocks = record { first = 1; addresses = 0x3000 ∷ [] } ∷ [];
  source = some (0x61 ∷ 0x0A ∷ 0x62 ∷ 0x0A ∷ []);
  relocations = relocation18 ∷ [];
}

words-object : object_of (words18 0xA0000130) ≡ given object18
unfolding object18 label18 relocation18 open-Basics open-Digits open-Tokens open-Sorted open-Utf8 open-ObjectFile open-Records open-Words
words-object = refl

own_order : write_binary (words18 0xA0000130) (label18 ∷ []) (relocation18 ∷ []) ≡ given (bytes77 0x30 0x01)
unfolding label18 relocation18 open-Basics open-Digits open-Tokens open-Sorted open-Utf8 open-ObjectFile open-Records open-Words open-Binary open-Calls
own_order = refl

-- whatever orders a write takes
pub words_give_bytes : (buffer : List ℕ) (r : Filled) → WritesBinary (words18 0xA0000130) buffer r → r ≡ fill (given (bytes77 0x30 0x01)) buffer
unfolding object18
words_give_bytes buffer r p =
    let o = p.2 object18 words-object in
    let l : p.0 ≡ label18 ∷ [] = one-order o.0 label18 refl in
    let m : p.1 ≡ relocation18 ∷ [] = one-order o.1 relocation18 refl in
    p.3 ∙ ap (λ (ls : List Label). fill (write_binary (words18 0xA0000130) ls p.1) buffer) l
    ∙ ap (λ (rs : List Relocation). fill (write_binary (words18 0xA0000130) (label18 ∷ []) rs) buffer) m
    ∙ ap (λ (x : Outcome (List ℕ)). fill x buffer) own_order
