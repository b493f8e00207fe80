-- What holds of an outcome if something is given, question by question, by which numbers it is refused, and what a walk keeps that each of
-- its steps keeps.
-- Assumes nothing.
use mathlib.Core.Path.{◌≡◌, refl}
use mathlib.Core.Bool.{Bool, true, false}
use mathlib.Core.List.{List, [], ◌∷◌}
use mathlib.Core.Option.{Option, none, some}
use Prim.Native.Nat.{ℕ, zero, suc}
use Rattle.std.specs.Prelude.{if◌then◌else◌}
use Rattle.format.specs.Basics.{Outcome, refused, given, ◌>>=◌, ask, need, and_then, All}
use Rattle.format.specs.Tokens.{tokens, scan_tokens, fold_outcome}

-- both ways of a test
pub by_if : {A : Type 0} (P : A → Type 0) (t : Bool) (a b : A) → (t ≡ true → P a) → (t ≡ false → P b) → P (if t then a else b)
by_if P true a b h k = h refl
by_if P false a b h k = k refl

pub by_option : {A : Type 0} (P : Option A → Type 0) (o : Option A) → P none → ((a : A) → o ≡ some a → P (some a)) → P o
by_option P none h k = h
by_option P (some a) h k = k a refl

-- if something is given, it is so
abbrev pub Gives : {A : Type 0} → (A → Type 0) → Outcome A → Type 0
Gives P (refused n) = Unit {0}
Gives P (given a) = P a

-- the same of what may be missing
abbrev pub Holds : {A : Type 0} → (A → Type 0) → Option A → Type 0
Holds P none = Unit {0}
Holds P (some a) = P a

pub gives : {A : Type 0} (P : A → Type 0) (o : Outcome A) (a : A) → Gives P o → o ≡ given a → P a
gives P o a h e = rw e at h

pub gives_map : {A : Type 0} (P Q : A → Type 0) → ((a : A) → P a → Q a) → (o : Outcome A) → Gives P o → Gives Q o
gives_map P Q k (refused n) h = tt
gives_map P Q k (given a) h = k a h

-- what holds in any case
pub held : {A : Type 0} {P : Type 0} (o : Option A) → P → Holds (λ _. P) o
held none p = tt
held (some a) p = p

pub anyhow : {A : Type 0} {P : Type 0} (o : Outcome A) → P → Gives (λ _. P) o
anyhow (refused n) p = tt
anyhow (given a) p = p

pub itself : {A : Type 0} (o : Option A) → Holds (λ a. o ≡ some a) o
itself none = tt
itself (some a) = refl

-- of what is given, nothing need be known
pub anything : {A : Type 0} (o : Outcome A) → Gives (λ _. Unit {0}) o
anything o = anyhow o tt

module _ {A B : Type 0} (Q : B → Type 0) where
  pub gives_bind : (P : A → Type 0) (o : Outcome A) (f : A → Outcome B) → Gives P o → ((a : A) → P a → Gives Q (f a)) → Gives Q (o >>= f)
  gives_bind P (refused n) f h k = tt
  gives_bind P (given a) f h k = k a h

  pub gives_need :
      (P : A → Type 0) (n : ℕ) (o : Option A) (f : A → Outcome B) → Holds P o → ((a : A) → P a → Gives Q (f a)) → Gives Q (need n o >>= f)
  gives_need P n none f h k = tt
  gives_need P n (some a) f h k = k a h

  pub holds_then : (P : A → Type 0) (o : Option A) (f : A → Option B) → Holds P o → ((a : A) → P a → Holds Q (f a)) → Holds Q (and_then o f)
  holds_then P none f h k = tt
  holds_then P (some a) f h k = k a h

module _ {B : Type 0} (Q : B → Type 0) where
  pub gives_ask : (n : ℕ) (t : Bool) (o : Outcome B) → (t ≡ true → Gives Q o) → Gives Q (ask n t >>= λ _. o)
  gives_ask n true o k = k refl
  gives_ask n false o k = tt

-- it is refused by such a number, or else it is so
abbrev pub Ends : {A : Type 0} → (ℕ → Type 0) → Type 0 → Outcome A → Type 0
Ends R P (refused n) = R n
Ends R P (given a) = P

module _ (R : ℕ → Type 0) (P : Type 0) {A B : Type 0} where
  pub ends_bind : (Q : Type 0) (o : Outcome A) (f : A → Outcome B) → Ends R Q o → ((a : A) → Q → Ends R P (f a)) → Ends R P (o >>= f)
  ends_bind Q (refused n) f h k = h
  ends_bind Q (given a) f h k = k a h

  pub ends-need :
      (Q : A → Type 0) (n : ℕ) (o : Option A) (f : A → Outcome B) → R n → Holds Q o → ((a : A) → Q a → Ends R P (f a))
      → Ends R P (need n o >>= f)
  ends-need Q n none f r h k = r
  ends-need Q n (some a) f r h k = k a h

module _ (R : ℕ → Type 0) (P : Type 0) {B : Type 0} where
  pub ends-ask : (n : ℕ) (t : Bool) (o : Outcome B) → R n → Ends R P o → Ends R P (ask n t >>= λ _. o)
  ends-ask n true o r h = h
  ends-ask n false o r h = r

  pub ends-map : (Q : Type 0) → (Q → P) → (o : Outcome B) → Ends R Q o → Ends R P o
  ends-map Q k (refused n) h = h
  ends-map Q k (given b) h = k h

-- What a walk keeps. The number counts the elements that are still to be passed over: what holds of the rest may speak of it.
module _ {A B : Type 0} (one : List A → Outcome (B × ℕ)) (P : B → Type 0) (Rest : ℕ → List A → Type 0)
    (pass : (k : ℕ) (a : A) (xs : List A) → Rest (suc k) (a ∷ xs) → Rest k xs)
    (step : (a : A) (xs : List A) → Rest 0 (a ∷ xs) → Gives (λ t. P t.0 × Rest t.1 xs) (one (a ∷ xs))) where
  pub tokens_gives : (k : ℕ) (xs : List A) → Rest k xs → Gives (All P) (tokens one k xs)
  unfolding tokens
  tokens_gives k [] h = tt
  tokens_gives (suc k) (a ∷ xs) h = tokens_gives k xs (pass k a xs h)
  tokens_gives zero (a ∷ xs) h =
      gives_bind (All P) (λ t. P t.0 × Rest t.1 xs) (one (a ∷ xs)) _ (step a xs h) λ t p.
      gives_bind (All P) (All P) (tokens one t.1 xs) _ (tokens_gives t.1 xs p.1) λ ts q. (p.0, q)

module _ {A S : Type 0} (one : S → List A → Outcome (S × ℕ)) (Inv : S → Type 0) (P : A → Type 0)
    (step : (s : S) (a : A) (xs : List A) → Inv s → All P (a ∷ xs) → Gives (λ t. Inv t.0) (one s (a ∷ xs))) where
  pub scan_gives : (s : S) (k : ℕ) (xs : List A) → Inv s → All P xs → Gives Inv (scan_tokens one s k xs)
  unfolding scan_tokens
  scan_gives s k [] i h = i
  scan_gives s (suc k) (a ∷ xs) i h = scan_gives s k xs i h.1
  scan_gives s zero (a ∷ xs) i h =
      gives_bind Inv (λ t. Inv t.0) (one s (a ∷ xs)) _ (step s a xs i h) λ t j. scan_gives t.0 t.1 xs j h.1

module _ {A S : Type 0} (one : S → A → Outcome S) (Inv : S → Type 0) (P : A → Type 0)
    (step : (s : S) (a : A) → Inv s → P a → Gives Inv (one s a)) where
  pub fold_gives : (s : S) (xs : List A) → Inv s → All P xs → Gives Inv (fold_outcome one s xs)
  unfolding fold_outcome
  fold_gives s [] i h = i
  fold_gives s (a ∷ xs) i h = gives_bind Inv Inv (one s a) _ (step s a i h.0) λ t j. fold_gives t xs j h.1
