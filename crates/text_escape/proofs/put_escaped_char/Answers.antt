-- By its letter, or its number, or as it is. Assumes nothing.
use native.Mathlib.Omega.{arith}
use mathlib.Core.Path.{sym, ap, ◌∙◌}
use mathlib.Core.Logic.{inl, inr}
use mathlib.Core.List.{[], ◌∷◌}
use Prim.Native.Nat.{ℕ}
use Rattle.text_escape.proofs.EscapeLaws.{by_letter, plain, by_code, put_as}
use Rattle.text_escape.proofs.put_escaped_char.Goals as goal

pub returns-in-Some : goal.returns-in-Some
returns-in-Some c =
    let h = c.in-Some.ensures in
    put_as _ _ _ (ap (λ (l : ℕ). 0x5C ∷ l ∷ []) h.0 ∙ sym (by_letter c.args.c h.1)) c.put_bytes.ensures

pub returns-then-c-lt32 : goal.returns-then-c-lt32
returns-then-c-lt32 c =
    put_as _ _ _ (sym (by_code c.args.c (sym c.in_default.ensures) c.requires
    (inl c.if-c-lt32.true))) c.put_code.ensures

pub returns-then-c-ge127 : goal.returns-then-c-ge127
returns-then-c-ge127 c =
    put_as _ _ _ (sym (by_code c.args.c (sym c.in_default.ensures)
    c.requires (inr c.if-c-ge127.true))) c.put_code-then-c-ge127.ensures

pub returns : goal.returns
returns c =
    put_as _ _ _ (sym (plain c.args.c (sym c.in_default.ensures)
    c.if-c-lt32.false (omega (arith, c.if-c-ge127.false)))) c.put_u8.ensures
