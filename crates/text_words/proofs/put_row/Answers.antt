use mathlib.Core.Path.{refl, subst}
use mathlib.Core.List.{List}
use Prim.Native.Nat.{ℕ}
use native.Mathlib.Omega.{arith}
use Rattle.writing.specs.Written.{Put}
use Rattle.text_words.specs.Written.{index_at}
use Rattle.text_words.proofs.WordLaws.{row-symbol, row-linker, row-start}
use Rattle.text_words.proofs.put_row.Goals as goal
use Rattle.text_words.proofs.put_row.Goals.{Start}

abbrev Puts : Start → ℕ → List ℕ → List ℕ → Type 0
Puts s r out w = Put w s.args.out.now r out

pub returns-in-Block : goal.returns-in-Block
returns-in-Block c = rw c.in-Block.is c.put_block.ensures

pub returns-in-Symbol : goal.returns-in-Symbol
returns-in-Symbol c =
    rw c.in-Symbol.is (subst (Puts (goal.at.returns-in-Symbol c).Start c.put_symbol.result c.put_symbol.new.out) (row-symbol 1 c.args.t.now c.args.p refl) c.put_symbol.ensures)

pub returns-in-Relocation : goal.returns-in-Relocation
returns-in-Relocation c =
    rw c.in-Relocation.is
    (subst (Puts (goal.at.returns-in-Relocation c).Start c.put_relocation.result c.put_relocation.new.out)
    (row-linker 2 c.args.t.now c.args.p c.address_at.result _ (λ z. absurd (omega arith)) (λ z. absurd (omega arith)) refl c.address_at.ensures c.cell_at.ensures)
    c.put_relocation.ensures)

pub returns-in-Start : goal.returns-in-Start
unfolding index_at
returns-in-Start c =
    rw c.in-Start.is
    (subst (Puts (goal.at.returns-in-Start c).Start c.put_label.result c.put_label.new.out)
    (row-start 3 c.args.t.now c.args.p c.number_at-start.result _ (λ z. absurd (omega arith)) (λ z. absurd (omega arith)) (λ z. absurd (omega arith)) c.number_at-start.ensures c.cell_at-in-Start.ensures)
    c.put_label.ensures)
