-- The tokens of a concatenation are the concatenation of the tokens, where no token looks past its own end; the binary form's records do
-- not. Assumes nothing.
use mathlib.Core.Path.{◌≡◌, refl}
use mathlib.Core.List.{List, [], ◌∷◌, ◌++◌}
use Prim.Native.Nat.{ℕ, zero, suc, ◌≤◌}
use native.Mathlib.Omega.{arith}
use lib.ListN.{length}
use Rattle.format.specs.Basics.{Outcome, refused, given, ◌>>=◌}
use Rattle.format.specs.Tokens.{tokens}
use Rattle.format.specs.Records.{Record}
use Rattle.format.specs.Binary.{record_at}
use Rattle.format.proofs.Outcomes.{Gives, gives, gives_map, gives_bind}
use Rattle.format.proofs.BinaryFormed.{ReadWhole, record_read}

module _ {A B : Type 0} (one : List A → Outcome (B × ℕ)) where
  -- a token is no longer than the list, and it is the same whatever follows
  abbrev pub Local : Type 0
  Local = (x : A) (xs ys : List A) → Gives (λ t. (t.1 ≤ length xs) × (one (x ∷ (xs ++ ys)) ≡ given t)) (one (x ∷ xs))

  tokens_local :
      Local → (k : ℕ) (xs ys : List A) → k ≤ length xs
      → Gives (λ ts. tokens one k (xs ++ ys) ≡ (tokens one 0 ys >>= λ us. given (ts ++ us))) (tokens one k xs)
  unfolding tokens
  tokens_local l zero [] ys h = same (tokens one 0 ys)
    where
      same : (o : Outcome (List B)) → o ≡ (o >>= λ us. given us)
      same (refused n) = refl
      same (given us) = refl
  tokens_local l (suc k) [] ys h = absurd (omega arith)
  tokens_local l (suc k) (x ∷ xs) ys h = tokens_local l k xs ys (omega arith)
  tokens_local l zero (x ∷ xs) ys h =
      gives_bind _ (λ t. (t.1 ≤ length xs) × (one (x ∷ (xs ++ ys)) ≡ given t)) (one (x ∷ xs)) _ (l x xs ys) λ t p.
      gives_bind _ (λ ts. tokens one t.1 (xs ++ ys) ≡ (tokens one 0 ys >>= λ us. given (ts ++ us))) (tokens one t.1 xs) _
      (tokens_local l t.1 xs ys p.0) λ ts q.
      rw (p.1, q) (twice t.0 ts (tokens one 0 ys))
    where
      twice :
          (b : B) (ts : List B) (o : Outcome (List B))
          → ((o >>= λ us. given (ts ++ us)) >>= λ vs. given (b ∷ vs)) ≡ (o >>= λ us. given (b ∷ (ts ++ us)))
      twice b ts (refused n) = refl
      twice b ts (given us) = refl

  pub tokens_append :
      Local → (xs ys : List A) (ts : List B) → tokens one 0 xs ≡ given ts
      → tokens one 0 (xs ++ ys) ≡ (tokens one 0 ys >>= λ us. given (ts ++ us))
  tokens_append l xs ys ts e =
      gives (λ ts. tokens one 0 (xs ++ ys) ≡ (tokens one 0 ys >>= λ us. given (ts ++ us))) (tokens one 0 xs) ts
      (tokens_local l 0 xs ys (omega arith)) e

-- the binary form's records are such tokens
records_local : Local record_at
records_local k bs ys =
    gives_map (ReadWhole bs ys (λ xs. record_at (k ∷ xs))) (λ t. (t.1 ≤ length bs) × (record_at (k ∷ (bs ++ ys)) ≡ given t))
    (λ t s. (s.0, s.1))
    (record_at (k ∷ bs)) (record_read bs ys k)

-- the records of a concatenation are those of its parts, where the first part is made of whole records
pub records_append :
    (xs ys : List ℕ) (rs : List Record) → tokens record_at 0 xs ≡ given rs
    → tokens record_at 0 (xs ++ ys) ≡ (tokens record_at 0 ys >>= λ us. given (rs ++ us))
records_append xs ys rs e = tokens_append record_at records_local xs ys rs e
