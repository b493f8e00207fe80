use mathlib.Core.Path.{◌≡◌, sym, ap, ◌∙◌}
use Prim.Native.Nat.{ℕ, ◌+◌}
use Rattle.std.specs.Prelude.{Option, Some, None}
use Rattle.std.specs.Option.{option_flatten}
use Rattle.text_cells.specs.Cells.{entry_of}
use Rattle.text_words.specs.Written.{entry_word}
use Rattle.text_words.proofs.WordLaws.{known-word, unknown_word}
use Rattle.text_words.proofs.entry_word.Goals as goal

known : (r : Option (Option ℕ)) (v : ℕ) → option_flatten r ≡ Some v → 0x2001_0000 + v ≡ entry_word (entry_of r)
known (Some (Some w)) v e = let q : v ≡ w = cc in known-word v ∙ ap (λ (x : ℕ). entry_word (entry_of (Some (Some x)))) q
known (Some None) v e = absurd (cc)
known None v e = absurd (cc)

other : (r : Option (Option ℕ)) → option_flatten r ≡ None → 0x2000_0000 ≡ entry_word (entry_of r)
other (Some (Some w)) e = absurd (cc)
other (Some None) e = unknown_word
other None e = unknown_word

pub returns-in-Some : goal.returns-in-Some
returns-in-Some c =
    ap (λ (n : ℕ). 0x2001_0000 + n) c.from.ensures ∙ known _ _ (sym c.flatten.ensures ∙ c.in-Some.is) ∙ ap entry_word c.maybe_hex2u16.ensures

pub returns-in-None : goal.returns-in-None
returns-in-None c = other _ (sym c.flatten.ensures ∙ c.in-None.is) ∙ ap entry_word c.maybe_hex2u16.ensures
