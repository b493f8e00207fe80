-- A written line is a line of the file. Assumes nothing.
use mathlib.Core.Path.{◌≡◌, refl}
use mathlib.Core.List.{List, [], ◌∷◌, ◌++◌}
use Prim.Native.Nat.{ℕ}
use borrow.Author.Tests.{ne_eqb}
use Rattle.format.specs.TextReader.{lines, on_first}

-- without CR and LF
abbrev pub OneLine : List ℕ → Type 0
OneLine [] = Unit {0}
OneLine (b ∷ bs) = (b ≡ 0x0A → ⊥) × (b ≡ 0x0D → ⊥) × OneLine bs

pub lines-line : (t rest : List ℕ) → OneLine t → lines (t ++ 0x0A ∷ rest) ≡ t ∷ lines rest
unfolding lines on_first
lines-line [] rest h = refl
lines-line (b ∷ bs) rest h = rw (ne_eqb b 0x0A h.0, ne_eqb b 0x0D h.1, lines-line bs rest h.2)
