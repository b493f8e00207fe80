-- What a binary file gives after its header. Assumes nothing.
use Rattle.std.specs.Prelude.{List, ℕ, drop, eqb, if◌then◌else◌}
use Rattle.format.specs.Basics.{Outcome, refused, given, ◌>>=◌}
use Rattle.format.specs.Tokens.{tokens}
use Rattle.format.specs.Records.{gather_records, empty_object, binary_questions, concluded}
use Rattle.format.specs.Binary.{record_at}
use Rattle.format.specs.Words.{words_of}

-- what a binary file whose seven header bytes are there gives: 11 to 15, then the words
unfoldable pub after_header : List ℕ → Outcome (List ℕ)
after_header s = tokens record_at 0 (drop 7 s) >>= λ rs. concluded binary_questions (gather_records empty_object rs) >>= λ h. given (words_of h)

-- what the number of a refusal, 0 for none, and the words say
unfoldable pub answer_of : ℕ → List ℕ → Outcome (List ℕ)
answer_of number words = if eqb number 0 then given words else refused number
