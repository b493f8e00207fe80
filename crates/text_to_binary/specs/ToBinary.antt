-- What `text2bin` prints, by way of an object in 16,384 words. Assumes nothing.
use Rattle.std.specs.Prelude.{◌≡◌, List, ℕ, length}
use Rattle.format.specs.Basics.{Outcome, given, ◌>>=◌}
use Rattle.format.specs.ObjectFile.{Label, Relocation}
use Rattle.format.specs.Calls.{Filled, fill, message, fitting, read_text, write_binary, OrdersOf}
use Rattle.writing.specs.Written.{Put}
use Rattle.printing.specs.Printed.{words_read}

-- text to binary, with label and relocation records in the orders given
abbrev pub text_to_binary : List ℕ → List Label → List Relocation → Outcome (List ℕ)
text_to_binary input ls rs = words_read read_text input >>= λ ws. write_binary ws ls rs

-- orders of the labels and of the relocations of the object that is read
abbrev pub OrdersRead : List ℕ → List Label → List Relocation → Type 0
OrdersRead input ls rs = (ws : List ℕ) → words_read read_text input ≡ given ws → OrdersOf ws ls rs

-- the promise of the conversion into a lent buffer: number, length, and the buffer after it
abbrev pub ConvertsText : List ℕ → List ℕ → Filled → Type 0
ConvertsText input buffer r =
    (ls : List Label) × (rs : List Relocation) × OrdersRead input ls rs × (r ≡ fill (text_to_binary input ls rs) buffer)

-- what `text2bin` prints of its standard input, as `bin2text` of crate `format` is defined, by the lengths of its buffers for input,
-- words and binary
unfoldable pub text2bin : ℕ → ℕ → ℕ → List ℕ → List Label → List Relocation → List ℕ
text2bin bytes words out input ls rs =
    message (fitting bytes (given input) >>= λ bs. fitting words (read_text bs) >>= λ ws. fitting out (write_binary ws ls rs))

-- the promise of `text2bin`: what is printed stands at the front of the buffer
abbrev pub PrintsBinary : List ℕ → List ℕ → ℕ → List ℕ → Type 0
PrintsBinary input buffer r after =
    (ls : List Label) × (rs : List Relocation) × OrdersRead input ls rs
    × Put (text2bin 65536 16384 (length buffer) input ls rs) buffer r after
