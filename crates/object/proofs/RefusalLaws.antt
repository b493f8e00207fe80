-- What refuses an object refuses it with number 1. Assumes nothing.
use mathlib.Core.Path.{◌≡◌, refl}
use mathlib.Core.Bool.{Bool, true, false, ◌&&◌, cond}
use mathlib.Core.List.{List, [], ◌∷◌}
use Prim.Native.Nat.{ℕ, ◌*◌, ◌/◌, ◌%◌, ◌^◌}
use lib.ListN.{length}
use lib.Dec.{leb, ltb, eqb}
use Rattle.std.specs.Prelude.{if◌then◌else◌}
use Rattle.format.specs.Basics.{Outcome, refused, given, ◌>>=◌, ask, is_empty}
use Rattle.format.specs.Tokens.{parts_at}
use Rattle.format.specs.Sorted.{rises}
use Rattle.format.specs.Basics.{is_given}
use Rattle.format.specs.Utf8.{is_between}
use Rattle.format.specs.ObjectFile.{consistent}
use Rattle.format.specs.Records.{record_key, placed}
use Rattle.format.specs.Words.{bits_of, memory_of, memories_of, addresses_of, number_from, text_part, text_from, is_head, record_from, records_from}
use Rattle.format.specs.Words.{object_of}
use Rattle.format.specs.Calls.{refusal_of, checked}

abbrev Ones : {A : Type 0} → Outcome A → Type 0
Ones (refused n) = n ≡ 1
Ones (given a) = Unit {0}

bind : {A B : Type 0} (o : Outcome A) (f : A → Outcome B) → Ones o → ((a : A) → Ones (f a)) → Ones (o >>= f)
bind (refused n) f h k = h
bind (given a) f h k = k a

asked : (t : Bool) → Ones (ask 1 t)
asked true = tt
asked false = refl

picked : {A : Type 0} (t : Bool) (a b : Outcome A) → Ones a → Ones b → Ones (if t then a else b)
picked true a b h k = h
picked false a b h k = k

bits : (kind limit w : ℕ) → Ones (bits_of kind limit w)
unfolding bits_of
bits kind limit w = picked (eqb (w / 2 ^ 29) kind && ltb (w % 2 ^ 29) limit) (given (w % 2 ^ 29)) (refused 1) tt refl

memory : (w : ℕ) → Ones (memory_of w)
unfolding memory_of
memory w = bind (bits_of 1 (2 ^ 17) w) _ (bits 1 (2 ^ 17) w) (λ x. picked (eqb x 0) _ _ tt (picked (leb (2 ^ 16) x) _ _ tt refl))

memories : (ws : List ℕ) → Ones (memories_of ws)
unfolding memories_of
memories [] = tt
memories (w ∷ ws) = bind (memory_of w) _ (memory w) (λ m. bind (memories_of ws) _ (memories ws) (λ ms. tt))

addresses : (ws : List ℕ) → Ones (addresses_of ws)
unfolding addresses_of
addresses [] = tt
addresses (w ∷ ws) =
    bind (bits_of 1 (2 ^ 17) w) _ (bits 1 (2 ^ 17) w) (λ x. bind (ask 1 (leb (2 ^ 16) x)) _ (asked (leb (2 ^ 16) x))
    (λ _. bind (addresses_of ws) _ (addresses ws) (λ xs. tt)))

number : (ws : List ℕ) → Ones (number_from ws)
unfolding number_from
number [] = refl
number (a ∷ []) = refl
number (a ∷ b ∷ []) = refl
number (a ∷ b ∷ c ∷ ws) =
    bind (bits_of 6 (2 ^ 24) a) _ (bits 6 (2 ^ 24) a) (λ x. bind (bits_of 6 (2 ^ 24) b) _ (bits 6 (2 ^ 24) b)
    (λ y. bind (bits_of 6 (2 ^ 16) c) _ (bits 6 (2 ^ 16) c) (λ z. tt)))

part : (w : ℕ) → Ones (text_part w)
unfolding text_part
part w = bind (bits_of 7 (2 ^ 26) w) _ (bits 7 (2 ^ 26) w) (λ x. bind
    (ask 1 (is_between 1 3 (x / 2 ^ 24) && ltb (x % 2 ^ 24) (2 ^ (8 * (x / 2 ^ 24))))) _
    (asked (is_between 1 3 (x / 2 ^ 24) && ltb (x % 2 ^ 24) (2 ^ (8 * (x / 2 ^ 24))))) (λ _. tt))

text : (ws : List ℕ) → Ones (text_from ws)
unfolding text_from
text [] = tt
text (w ∷ []) = part w
text (w ∷ v ∷ ws) = bind (text_part w) _ (part w) (λ bs. bind (ask 1 (eqb (length bs) 3)) _ (asked (eqb (length bs) 3))
    (λ _. bind (text_from (v ∷ ws)) _ (text (v ∷ ws)) (λ cs. tt)))

one : (g : ℕ × List ℕ) → Ones (record_from g)
unfolding record_from
one g =
    let k = g.0 / 2 ^ 29 in
    picked (eqb k 0) _ _ (bind (bits_of 0 (2 ^ 16) g.0) _ (bits 0 (2 ^ 16) g.0)
    (λ a. bind (memories_of g.1) _ (memories g.1) (λ ms. tt)))
    (picked (eqb k 2) _ _ (bind (bits_of 2 (2 ^ 17) g.0) _ (bits 2 (2 ^ 17) g.0)
    (λ x. bind (number_from g.1) _ (number g.1) (λ n. bind (text_from n.1) _ (text n.1) (λ t. tt))))
    (picked (eqb k 3) _ _ (bind (bits_of 3 1 g.0) _ (bits 3 1 g.0)
    (λ x. bind (number_from g.1) _ (number g.1) (λ n. bind (addresses_of n.1) _ (addresses n.1) (λ t. tt))))
    (picked (eqb k 4) _ _ (bind (bits_of 4 1 g.0) _ (bits 4 1 g.0) (λ x. bind (text_from g.1) _ (text g.1) (λ t. tt)))
    (bind (bits_of 5 (2 ^ 16) g.0) _ (bits 5 (2 ^ 16) g.0) (λ x. bind (text_from g.1) _ (text g.1) (λ t. tt))))))

all : (gs : List (ℕ × List ℕ)) → Ones (records_from gs)
unfolding records_from
all [] = tt
all (g ∷ gs) = bind (record_from g) _ (one g) (λ r. bind (records_from gs) _ (all gs) (λ rs. tt))

object_ones : (ws : List ℕ) → Ones (object_of ws)
unfolding object_of
object_ones ws =
    bind (ask 1 (is_empty (parts_at is_head ws).before)) _ (asked (is_empty (parts_at is_head ws).before))
    (λ _. bind (records_from (parts_at is_head ws).groups) _ (all (parts_at is_head ws).groups)
    (λ rs. bind (ask 1 (rises record_key rs)) _ (asked (rises record_key rs))
    (λ _. bind (ask 1 (consistent (placed rs))) _ (asked (consistent (placed rs))) (λ _. tt))))

pub refusal_of_lem : (ws : List ℕ) → checked ws ≡ cond (is_given (object_of ws)) 0 1
unfolding checked
refusal_of_lem ws = go (object_of ws) (object_ones ws)
  where
    go : {A : Type 0} (o : Outcome A) → Ones o → refusal_of o ≡ cond (is_given o) 0 1
    go (refused n) h = h
    go (given a) h = refl
