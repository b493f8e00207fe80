-- What each public call hands back and leaves in every lent word and byte, for each input (document 01, "Checks, by number" and "Terms on
-- each call"). A contract cites a definition of this module and nothing else. Assumes nothing.
use Rattle.std.specs.Prelude.{◌≡◌, Bool, false, List, [], ◌∷◌, ◌++◌, ℕ, length, drop, leb, if◌then◌else◌}
use Rattle.format.specs.Basics.{Outcome, refused, given, ◌>>=◌, ask, need}
use Rattle.format.specs.ObjectFile.{Label, Relocation, ObjectFile}
use Rattle.format.specs.Words.{words_of, object_of}
use Rattle.format.specs.Source.{Span, Position, line_count, raw_line_span, line_span, get_pos_pair, get_address, find_line}
use Rattle.format.specs.Fair.{is_fair}
use Rattle.format.specs.Binary.{binary_file, binary_object, counts_fit}
use Rattle.format.specs.TextWriter.{text_file, text_line, decimal}
use Rattle.format.specs.TextReader.{text_object}

-- the number of an outcome: "All yes gives number 0"
abbrev pub refusal_of : {A : Type 0} → Outcome A → ℕ
refusal_of (refused n) = n
refusal_of (given a) = 0

-- ANSWERS, before a buffer is looked at

-- "Labels among themselves, and relocations among themselves, come in any order, each once": the same elements, each as often
pub data Reordered {A : Type 0} : List A → List A → Type 0 where
  none_left : Reordered [] []
  same_first : {a : A} {xs ys : List A} → Reordered xs ys → Reordered (a ∷ xs) (a ∷ ys)
  swap : {a b : A} {xs : List A} → Reordered (a ∷ b ∷ xs) (b ∷ a ∷ xs)
  chained : {xs ys zs : List A} → Reordered xs ys → Reordered ys zs → Reordered xs zs

-- the object with its labels and its relocations in these orders
abbrev pub in_order : ObjectFile → List Label → List Relocation → ObjectFile
in_order h ls rs = record { blocks = h.blocks; labels = ls; line_blocks = h.line_blocks; source = h.source; relocations = rs }

-- binary write with label and relocation records in the orders given: "well formed? 1", "at most 65,535 addresses per line block? 2"
unfoldable pub write_binary : List ℕ → List Label → List Relocation → Outcome (List ℕ)
write_binary ws ls rs = do
  h ← object_of ws
  _ ← ask 2 (counts_fit h)
  given (binary_file (in_order h ls rs))

-- orders of the labels and of the relocations of the words ws: "each once"
abbrev pub OrdersOf : List ℕ → List Label → List Relocation → Type 0
OrdersOf ws ls rs = (h : ObjectFile) → object_of ws ≡ given h → Reordered h.labels ls × Reordered h.relocations rs

-- text write
unfoldable pub write_text : List ℕ → Outcome (List ℕ)
write_text ws = object_of ws >>= λ h. given (text_file h)

-- binary read: 10 to 15
unfoldable pub read_binary : List ℕ → Outcome (List ℕ)
read_binary bs = binary_object bs >>= λ h. given (words_of h)

-- text read: 20 to 31
unfoldable pub read_text : List ℕ → Outcome (List ℕ)
read_text bs = text_object bs >>= λ h. given (words_of h)

-- CALLS THAT FILL A BUFFER

-- the number and the length handed back, and the whole buffer after the call
pub record Filled : Type 0 where
  pub number : ℕ
  pub len : ℕ
  pub buffer : List ℕ

-- "Is it at least as long as the answer? 3"; on a refusal buffers are "as found"; else "bytes or words past [the length filled] stay"
unfoldable pub fill : Outcome (List ℕ) → List ℕ → Filled
fill (refused n) buffer = record { number = n; len = 0; buffer = buffer }
fill (given out) buffer =
    if leb (length out) (length buffer)
    then record { number = 0; len = length out; buffer = out ++ drop (length out) buffer }
    else record { number = 3; len = 0; buffer = buffer }

-- The promises of the four calls: the input, the lent buffer as found, and what is handed back and left in it. The one free answer is the
-- order of the label records and that of the relocation records of a binary write.
abbrev pub WritesBinary : List ℕ → List ℕ → Filled → Type 0
WritesBinary ws buffer r =
    (ls : List Label) × (rs : List Relocation) × OrdersOf ws ls rs × (r ≡ fill (write_binary ws ls rs) buffer)

abbrev pub WritesText : List ℕ → List ℕ → Filled → Type 0  -- text write
WritesText ws buffer r = r ≡ fill (write_text ws) buffer

abbrev pub ReadsBinary : List ℕ → List ℕ → Filled → Type 0  -- binary read
ReadsBinary bs buffer r = r ≡ fill (read_binary bs) buffer

abbrev pub ReadsText : List ℕ → List ℕ → Filled → Type 0  -- text read
ReadsText bs buffer r = r ≡ fill (read_text bs) buffer

-- CALLS WITHOUT A BUFFER

-- `check`: "Is it well formed? 1"
unfoldable pub checked : List ℕ → ℕ
checked ws = refusal_of (object_of ws)

-- `length` of a reader, and the host's "does this read as binary, as text (number and length in words, no buffer)": never 3
pub record Measured : Type 0 where
  pub number : ℕ
  pub len : ℕ

unfoldable pub measured : Outcome (List ℕ) → Measured  -- "number and length in words, no buffer"
measured (refused n) = record { number = n; len = 0 }
measured (given ws) = record { number = 0; len = length ws }

-- `is_fair`: "well formed? 1", or whether the object is fair
pub record FairAnswer : Type 0 where
  pub number : ℕ
  pub fair : Bool

unfoldable pub fair_answer : Outcome ObjectFile → FairAnswer  -- on a refusal not fair
fair_answer (refused n) = record { number = n; fair = false }
fair_answer (given h) = record { number = 0; fair = is_fair h }

-- QUERIES: the number and every value, all 0 on a refusal

-- "Is there a source? 4", after 1
unfoldable pub source_in : List ℕ → Outcome (ObjectFile × List ℕ)
source_in ws = object_of ws >>= λ h. need 4 h.source >>= λ s. given (h, s)

-- a line count, an address or a line
pub record Value : Type 0 where
  pub number : ℕ
  pub value : ℕ

unfoldable pub value_answer : Outcome ℕ → Value  -- 0 on a refusal
value_answer (refused n) = record { number = n; value = 0 }
value_answer (given v) = record { number = 0; value = v }

-- a range of source byte indices
pub record SpanAnswer : Type 0 where
  pub number : ℕ
  pub start : ℕ
  pub end : ℕ

unfoldable pub span_answer : Outcome Span → SpanAnswer  -- 0 on a refusal
span_answer (refused n) = record { number = n; start = 0; end = 0 }
span_answer (given r) = record { number = 0; start = r.start; end = r.end }

-- a line and a column
pub record PositionAnswer : Type 0 where
  pub number : ℕ
  pub line : ℕ
  pub column : ℕ

unfoldable pub position_answer : Outcome Position → PositionAnswer  -- 0 on a refusal
position_answer (refused n) = record { number = n; line = 0; column = 0 }
position_answer (given p) = record { number = 0; line = p.line; column = p.column }

-- `count_lines`
unfoldable pub query_count_lines : List ℕ → Value
query_count_lines ws = value_answer (source_in ws >>= λ x. given (line_count x.1))

-- `raw_line_span`: 5 where the line is not below the line count
unfoldable pub query_raw_line_span : List ℕ → ℕ → SpanAnswer
query_raw_line_span ws line = span_answer (source_in ws >>= λ x. raw_line_span x.1 line)

-- `line_span`
unfoldable pub query_line_span : List ℕ → ℕ → SpanAnswer
query_line_span ws line = span_answer (source_in ws >>= λ x. line_span x.1 line)

-- `get_pos_pair`
unfoldable pub query_pos_pair : List ℕ → ℕ → PositionAnswer
query_pos_pair ws i = position_answer (source_in ws >>= λ x. given (get_pos_pair x.1 i))

-- `get`, line to address: "is there one? 6"
unfoldable pub query_get : List ℕ → ℕ → Value
query_get ws line = value_answer (source_in ws >>= λ x. need 6 (get_address x.0.line_blocks line))

-- `find`, address to line: "is there one? 6"
unfoldable pub query_find : List ℕ → ℕ → Value
query_find ws a = value_answer (source_in ws >>= λ x. need 6 (find_line x.0.line_blocks a))

-- THE PROGRAM `bin2text`

-- what a program prints: its output, or "for a refusal its number and a newline instead"
unfoldable pub message : Outcome (List ℕ) → List ℕ
message (refused n) = text_line (decimal n)
message (given out) = out

-- "3 if its buffers are short"
unfoldable pub fitting : ℕ → Outcome (List ℕ) → Outcome (List ℕ)
fitting room o = o >>= λ out. ask 3 (leb (length out) room) >>= λ _. given out

-- what `bin2text` prints of its standard input, by the lengths of its buffers for input, words and text
unfoldable pub bin2text : ℕ → ℕ → ℕ → List ℕ → List ℕ
bin2text bytes words out input =
    message (fitting bytes (given input) >>= λ bs. fitting words (read_binary bs) >>= λ ws. fitting out (write_text ws))

unfoldable pub open-Calls : Unit {0}
unfolding write_binary write_text read_binary read_text fill checked measured fair_answer source_in value_answer span_answer position_answer
    query_count_lines query_raw_line_span query_line_span query_pos_pair query_get query_find message fitting bin2text
open-Calls = tt
