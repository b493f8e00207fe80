-- From a text file to its binary file, and to what is printed of it. Assumes nothing.
use mathlib.Core.Path.{◌≡◌, sym, ap, subst, ◌∙◌}
use mathlib.Core.List.{List, []}
use Prim.Native.Nat.{ℕ}
use native.Mathlib.Omega.{arith}
use lib.ListN.{length}
use Rattle.format.specs.Basics.{Outcome, refused, given, ◌>>=◌}
use Rattle.format.specs.Calls.{Filled, fill, message, fitting, read_text, write_binary, OrdersOf, WritesBinary}
use Rattle.format.specs.ObjectFile.{Label, Relocation}
use Rattle.format.specs.Words.{object_of}
use Rattle.format.specs.Binary.{counts_fit}
use Rattle.format.proofs.WordsOnly.{given-same}
use Rattle.format.proofs.Numbered.{Numbered, numbered_bind, numbered_ask, text-read}
use Rattle.std.specs.Prelude.{Result, Err}
use Rattle.units.specs.declared.refusal.Refusal.{Refusal}
use Rattle.units.specs.Refusal.{number_of, filled_of}
use Rattle.writing.specs.Written.{Put}
use Rattle.printing.specs.Printed.{words_read, PrintsFilled, Counts}
use Rattle.printing.proofs.RefusalLaws.{object_numbered}
use Rattle.printing.proofs.PrintLaws.{fitting-last, words_numbered, printed}
use Rattle.text_to_binary.specs.ToBinary.{text_to_binary, ConvertsText, text2bin, PrintsBinary}

-- no refusal of a write has number 0
binary_write : (ws : List ℕ) (ls : List Label) (rs : List Relocation) → Numbered (write_binary ws ls rs)
unfolding write_binary
binary_write ws ls rs = numbered_bind 0 (object_of ws) _ (object_numbered ws) λ h. numbered_ask 0 2 (counts_fit h) _ (omega arith) tt

module _ (input buffer : List ℕ) where
  pub stops :
      (r : Refusal) → words_read read_text input ≡ refused (number_of r) → ConvertsText input buffer (filled_of (Err r) buffer)
  unfolding fill
  stops r e = (
    [],
    [],
    (λ ws q. let z : ◌≡◌ {A = ℕ} 0 1 = cc in absurd (omega arith)),
    sym (ap (λ (o : Outcome (List ℕ)). fill (o >>= λ ws. write_binary ws [] []) buffer) e),
  )

  pub goes_on :
      (ws : List ℕ) (r : Filled) → words_read read_text input ≡ given ws → WritesBinary ws buffer r → ConvertsText input buffer r
  goes_on ws r e (ls, rs, o, w) = (
    ls,
    rs,
    (λ vs q. subst (λ xs. OrdersOf xs ls rs) (given-same (sym e ∙ q)) o),
    w ∙ sym (ap (λ (o : Outcome (List ℕ)). fill (o >>= λ ws. write_binary ws ls rs) buffer) e),
  )

  module _ (f : Result ℕ Refusal) (left : List ℕ) (c : ConvertsText input buffer (filled_of f left)) where
    -- the definition's questions, with the output's length last
    as_printed :
        text2bin 65536 16384 (length buffer) input c.0 c.1 ≡ message (fitting (length buffer) (text_to_binary input c.0 c.1))
    unfolding text2bin words_read
    as_printed =
        ap message
        (fitting-last (fitting 65536 (given input)) (λ bs. fitting 16384 (read_text bs)) (λ ws. write_binary ws c.0 c.1) (length buffer))

    pub prints : (r : ℕ) (after : List ℕ) → PrintsFilled f left r after → PrintsBinary input buffer r after × Counts r after
    prints r after p =
        let n = numbered_bind 0 (words_read read_text input) _ (words_numbered read_text text-read input) λ ws. binary_write ws c.0 c.1 in
        let q = printed (text_to_binary input c.0 c.1) buffer left n f c.3 r after p in
        ((c.0, c.1, c.2, subst (λ (x : List ℕ). Put x buffer r after) (sym as_printed) q.0), q.1)
