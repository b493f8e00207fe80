use Rattle.std.proofs.Common.{[], ◌∷◌, sym, refl, ◌∙◌}
use Rattle.format.specs.Basics.{ascii, is_empty}
use Rattle.text_cells.proofs.HeaderLaws.{header3}
use Rattle.text_debug.proofs.parse_line_header.Goals as goal

pub returns-then-not-cell_is : goal.returns-then-not-cell_is
unfolding ascii is_empty
returns-then-not-cell_is c = let h = header3 c.args.l.now (0x4C ∷ 0x49 ∷ 0x4E ∷ 0x45 ∷ []) (0x41 ∷ 0x44 ∷ 0x44 ∷ 0x52 ∷ []) (0x53 ∷ 0x4F ∷ 0x55 ∷ 0x52 ∷ 0x43 ∷ 0x45 ∷ []) refl refl refl in let a = sym c.cell_is.ensures ∙ c.if-not-cell_is.true in sym (h ∙ simp a)

pub returns-then-not-cell_is-2 : goal.returns-then-not-cell_is-2
unfolding ascii is_empty
returns-then-not-cell_is-2 c = let h = header3 c.args.l.now (0x4C ∷ 0x49 ∷ 0x4E ∷ 0x45 ∷ []) (0x41 ∷ 0x44 ∷ 0x44 ∷ 0x52 ∷ []) (0x53 ∷ 0x4F ∷ 0x55 ∷ 0x52 ∷ 0x43 ∷ 0x45 ∷ []) refl refl refl in let a = sym c.cell_is.ensures ∙ c.if-not-cell_is.false in let d = sym c.cell_is-2.ensures ∙ c.if-not-cell_is-2.true in sym (h ∙ simp (a, d))

pub returns : goal.returns
unfolding ascii is_empty
returns c = let h = header3 c.args.l.now (0x4C ∷ 0x49 ∷ 0x4E ∷ 0x45 ∷ []) (0x41 ∷ 0x44 ∷ 0x44 ∷ 0x52 ∷ []) (0x53 ∷ 0x4F ∷ 0x55 ∷ 0x52 ∷ 0x43 ∷ 0x45 ∷ []) refl refl refl in let a = sym c.cell_is.ensures ∙ c.if-not-cell_is.false in let d = sym c.cell_is-2.ensures ∙ c.if-not-cell_is-2.false in c.cell_is-3.ensures ∙ sym (h ∙ simp (a, d))
