-- What a text write comes to, by the numbers of the check and of the measuring. Assumes nothing.
use mathlib.Core.Path.{◌≡◌, sym, ap, ◌∙◌}
use mathlib.Core.List.{List}
use Prim.Native.Nat.{ℕ, ◌≤◌, ◌<◌}
use lib.ListN.{length}
use Rattle.format.specs.Basics.{Outcome, given, ◌>>=◌, given_or}
use Rattle.format.specs.ObjectFile.{ObjectFile}
use Rattle.format.specs.Records.{empty_object}
use Rattle.format.specs.TextWriter.{text_file}
use Rattle.format.specs.Calls.{checked, fill, write_text}
use Rattle.std.specs.Prelude.{Ok, Err}
use Rattle.units.specs.Refusal.{number_of, filled_of}
use Rattle.units.specs.declared.refusal.Refusal.{Refusal}
use Rattle.units.specs.declared.refusal.Refusal.TheVariants as refusal
use Rattle.units.proofs.RefusalLaws.{err-refused, err-short}
use Rattle.well_formed.proofs.NumberLaws.{number_some}
use native.Mathlib.Omega.{arith}
use Rattle.writing.specs.Written.{Put}
use Rattle.writing.proofs.WriteLaws.{put_fills}
use Rattle.object.proofs.Formed.{formed, not_formed}
use Rattle.text_write.specs.Groups.{file_text}

module _ (ws buffer : List ℕ) where
  -- words that are not well formed
  pub file_refused : (r : Refusal) → number_of r ≡ checked ws → filled_of (Err r) buffer ≡ fill (write_text ws) buffer
  unfolding write_text
  file_refused r e =
      let bad : number_of r ≡ 0 → ⊥ = (λ z. let h = number_some r in omega arith) in
      err-refused r buffer
      ∙ sym (ap (λ (o : Outcome ObjectFile). fill (o >>= λ f. given (text_file f)) buffer) (not_formed ws (number_of r) e bad))

  -- words that are well formed
  module _ (z : checked ws ≡ 0) where
    file_is : write_text ws ≡ given (file_text ws)
    unfolding write_text
    file_is =
        let f = formed ws z in
        ap (λ o. o >>= λ h. given (text_file h)) f.is ∙ sym (ap (λ o. given (text_file (given_or o empty_object))) f.is)

    pub file_short : length buffer < length (file_text ws) → filled_of (Err refusal.ShortBuffer) buffer ≡ fill (write_text ws) buffer
    file_short h = err-short (file_text ws) buffer h ∙ sym (ap (λ o. fill o buffer) file_is)

    pub file_given : length (file_text ws) ≤ length buffer → (n : ℕ) (after : List ℕ)
        → Put (file_text ws) buffer n after → filled_of (Ok n) after ≡ fill (write_text ws) buffer
    file_given h n after p = put_fills (file_text ws) buffer h p ∙ sym (ap (λ o. fill o buffer) file_is)
