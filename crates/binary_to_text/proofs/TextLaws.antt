-- From a binary file to its text, and to what is printed of it. Assumes nothing.
use mathlib.Core.Path.{◌≡◌, sym, ap, subst, ◌∙◌}
use mathlib.Core.List.{List}
use Prim.Native.Nat.{ℕ}
use lib.ListN.{length}
use Rattle.format.specs.Basics.{Outcome, refused, given, ◌>>=◌}
use Rattle.format.specs.Calls.{Filled, fill, message, fitting, read_binary, write_text, bin2text}
use Rattle.format.specs.Words.{object_of}
use Rattle.format.proofs.Numbered.{Numbered, numbered_bind, binary-read}
use Rattle.std.specs.Prelude.{Result, Err}
use Rattle.units.specs.declared.refusal.Refusal.{Refusal}
use Rattle.units.specs.Refusal.{number_of, filled_of}
use Rattle.writing.specs.Written.{Put}
use Rattle.printing.specs.Printed.{words_read, PrintsFilled, Counts}
use Rattle.printing.proofs.RefusalLaws.{object_numbered}
use Rattle.printing.proofs.PrintLaws.{fitting-last, words_numbered, printed}
use Rattle.binary_to_text.specs.ToText.{binary_to_text, PrintsText}

-- no refusal of a write has number 0
text_write : (ws : List ℕ) → Numbered (write_text ws)
unfolding write_text
text_write ws = numbered_bind 0 (object_of ws) _ (object_numbered ws) λ h. tt

module _ (input buffer : List ℕ) where
  pub stops :
      (r : Refusal) → words_read read_binary input ≡ refused (number_of r) → filled_of (Err r) buffer ≡ fill (binary_to_text input) buffer
  unfolding fill
  stops r e = sym (ap (λ (o : Outcome (List ℕ)). fill (o >>= write_text) buffer) e)

  pub goes_on :
      (ws : List ℕ) (r : Filled) → words_read read_binary input ≡ given ws → r ≡ fill (write_text ws) buffer
      → r ≡ fill (binary_to_text input) buffer
  goes_on ws r e w = w ∙ sym (ap (λ (o : Outcome (List ℕ)). fill (o >>= write_text) buffer) e)

  -- the definition's questions, with the output's length last
  as_printed : bin2text 65536 16384 (length buffer) input ≡ message (fitting (length buffer) (binary_to_text input))
  unfolding bin2text words_read
  as_printed = ap message (fitting-last (fitting 65536 (given input)) (λ bs. fitting 16384 (read_binary bs)) write_text (length buffer))

  pub prints :
      (f : Result ℕ Refusal) (left : List ℕ) → filled_of f left ≡ fill (binary_to_text input) buffer → (r : ℕ) (after : List ℕ)
      → PrintsFilled f left r after → PrintsText input buffer r after × Counts r after
  prints f left e r after p =
      let n = numbered_bind 0 (words_read read_binary input) _ (words_numbered read_binary binary-read input) text_write in
      let q = printed (binary_to_text input) buffer left n f e r after p in
      (subst (λ (x : List ℕ). Put x buffer r after) (sym as_printed) q.0, q.1)
