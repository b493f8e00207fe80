-- A binary read by its first question. Assumes nothing.
use mathlib.Core.Path.{◌≡◌, refl, ap, ◌∙◌}
use mathlib.Core.Bool.{true, false}
use mathlib.Core.List.{List}
use Prim.Native.Nat.{ℕ}
use lib.ListN.{drop}
use Rattle.format.specs.Basics.{Outcome, refused, given, ◌>>=◌, ask, begins_with}
use Rattle.format.specs.Tokens.{tokens}
use Rattle.format.specs.Records.{gather_records, empty_object, binary_questions, concluded}
use Rattle.format.specs.Words.{words_of}
use Rattle.format.specs.Binary.{header, record_at, binary_records, binary_object}
use Rattle.format.specs.Calls.{read_binary}
use Rattle.binary_read.specs.AfterHeader.{after_header}

bind_bind : {A B C : Type 0} (o : Outcome A) (f : A → Outcome B) (g : B → Outcome C) → ((o >>= f) >>= g) ≡ (o >>= λ a. f a >>= g)
bind_bind (refused n) f g = refl
bind_bind (given a) f g = refl

module _ (bs : List ℕ) where
  -- "Do the seven header bytes come first? 10"
  pub read_10 : begins_with header bs ≡ false → read_binary bs ≡ refused 10
  unfolding read_binary binary_object binary_records
  read_10 e = rw e

  pub read-on : begins_with header bs ≡ true → read_binary bs ≡ after_header bs
  unfolding read_binary binary_object binary_records after_header
  read-on e =
      ap (λ t. ((ask 10 t >>= λ _. tokens record_at 0 (drop 7 bs)) >>= λ rs. concluded binary_questions (gather_records empty_object rs))
      >>= λ h. given (words_of h)) e
      ∙ bind_bind (tokens record_at 0 (drop 7 bs)) (λ rs. concluded binary_questions (gather_records empty_object rs)) (λ h. given (words_of h))
