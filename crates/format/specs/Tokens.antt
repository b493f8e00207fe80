-- Walks along a list: cut into tokens, with a state, and cut before each head. Assumes nothing.
use Rattle.std.specs.Prelude.{Bool, List, [], ◌∷◌, ℕ, zero, suc, if◌then◌else◌}
use Rattle.format.specs.Basics.{Outcome, given, ◌>>=◌}

module _ {A B : Type 0} (one : List A → Outcome (B × ℕ)) where
  -- Cut a list into tokens. `one` is asked at the start of each token: it gives the token and how many elements it has after its first.
  -- The number counts the elements of the current token still to be passed over. No `one` here gives a token longer than what is left.
  unfoldable pub tokens : ℕ → List A → Outcome (List B)
  tokens k [] = given []
  tokens zero (a ∷ xs) = one (a ∷ xs) >>= λ t. tokens t.1 xs >>= λ ts. given (t.0 ∷ ts)
  tokens (suc k) (a ∷ xs) = tokens k xs

module _ {A S : Type 0} (one : S → List A → Outcome (S × ℕ)) where
  -- the same with a state in place of the list of tokens
  unfoldable pub scan_tokens : S → ℕ → List A → Outcome S
  scan_tokens s k [] = given s
  scan_tokens s zero (a ∷ xs) = one s (a ∷ xs) >>= λ t. scan_tokens t.0 t.1 xs
  scan_tokens s (suc k) (a ∷ xs) = scan_tokens s k xs

module _ {A S : Type 0} (one : S → A → Outcome S) where
  -- an element at a time
  unfoldable pub fold_outcome : S → List A → Outcome S
  fold_outcome s [] = given s
  fold_outcome s (a ∷ xs) = one s a >>= λ s'. fold_outcome s' xs

-- a list cut before each head: what stands before the first head, and each head with what follows it up to the next
pub record Parts (A : Type 0) : Type 0 where
  pub before : List A
  pub groups : List (A × List A)

abbrev pub head_of : {A : Type 0} → A → Parts A → Parts A  -- a head opens a group
head_of a p = record { before = []; groups = (a, p.before) ∷ p.groups }

abbrev pub body_of : {A : Type 0} → A → Parts A → Parts A  -- another element goes on with it
body_of a p = record { before = a ∷ p.before; groups = p.groups }

unfoldable pub parts_at : {A : Type 0} → (A → Bool) → List A → Parts A  -- cut before each head
parts_at is_head [] = record { before = []; groups = [] }
parts_at is_head (a ∷ xs) = if is_head a then head_of a (parts_at is_head xs) else body_of a (parts_at is_head xs)

unfoldable pub open-Tokens : Unit {0}
unfolding tokens scan_tokens fold_outcome parts_at
open-Tokens = tt
