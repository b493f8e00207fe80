use mathlib.Core.Path.{refl, sym, ◌∙◌}
use mathlib.Core.List.{[], ◌∷◌}
use Rattle.format.specs.Basics.{ascii, is_empty}
use Rattle.text_cells.proofs.HeaderLaws.{header2}
use Rattle.text_linker.proofs.parse_linker_header.Goals as goal

pub returns-then-not-cell_is : goal.returns-then-not-cell_is
unfolding ascii is_empty
returns-then-not-cell_is c = let h = header2 c.args.l.now (0x41 ∷ 0x44 ∷ 0x44 ∷ 0x52 ∷ []) (0x4C ∷ 0x41 ∷ 0x42 ∷ 0x45 ∷ 0x4C ∷ []) refl refl in let a = sym c.cell_is.ensures ∙ c.if-not-cell_is.true in sym (h ∙ simp a)

pub returns : goal.returns
unfolding ascii is_empty
returns c = let h = header2 c.args.l.now (0x41 ∷ 0x44 ∷ 0x44 ∷ 0x52 ∷ []) (0x4C ∷ 0x41 ∷ 0x42 ∷ 0x45 ∷ 0x4C ∷ []) refl refl in let a = sym c.cell_is.ensures ∙ c.if-not-cell_is.false in c.cell_is-2.ensures ∙ sym (h ∙ simp a)
