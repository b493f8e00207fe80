use Rattle.std.proofs.Common.{sym, subst, ◌∙◌}
use Rattle.well_formed.proofs.KeyLaws.{key-names, key-blocks, key-lines, key-relocations, key-parts, Apart, apart_rest}
use Rattle.well_formed.proofs.rises.Goals as goal
use Rattle.well_formed.proofs.rises.Goals.{in_default-via-in-Label+in_default, in_default-via-in-Block+in_default, in_default-via-in-LineBlock+in_default, in_default-via-in-Relocation+in_default, in_default-via-in_default}

pub returns-in-Label-Label : goal.returns-in-Label-Label
returns-in-Label-Label c =
    let i = c.in-Label-Label in
    rw (i.is-0, i.is-1) (c.text_below.ensures ∙ key-names c.args.ws.now i.x i.y)

pub returns-in-Block-Block : goal.returns-in-Block-Block
returns-in-Block-Block c =
    let i = c.in-Block-Block in
    rw (i.is-0, i.is-1) (key-blocks c.args.ws.now i.x i.y)

pub returns-in-LineBlock-LineBlock : goal.returns-in-LineBlock-LineBlock
returns-in-LineBlock-LineBlock c =
    let i = c.in-LineBlock-LineBlock in
    rw (i.is-0, i.is-1) (key-lines c.args.ws.now i.x i.y)

pub returns-in-Relocation-Relocation : goal.returns-in-Relocation-Relocation
returns-in-Relocation-Relocation c =
    let i = c.in-Relocation-Relocation in
    rw (i.is-0, i.is-1) (key-relocations c.args.ws.now i.x i.y)

pub returns-in_default : goal.returns-in_default
returns-in_default c =
    let a = c.args.a in
    let b = c.args.b in
    let apart : Apart a b = elim c.in_default.branch [
      | in_default-via-in-Label+in_default w ↦ subst (λ k. Apart k b) (sym w.in_default.is-0) w.in_default.not-Label-1
      | in_default-via-in-Block+in_default w ↦ subst (λ k. Apart k b) (sym w.in_default.is-0) w.in_default.not-Block-1
      | in_default-via-in-LineBlock+in_default w ↦ subst (λ k. Apart k b) (sym w.in_default.is-0) w.in_default.not-LineBlock-1
      | in_default-via-in-Relocation+in_default w ↦ subst (λ k. Apart k b) (sym w.in_default.is-0) w.in_default.not-Relocation-1
      | in_default-via-in_default w ↦ apart_rest a b w.in_default.not-Block-0 w.in_default.not-Label-0 w.in_default.not-LineBlock-0 w.in_default.not-Relocation-0
    ] in
    rw (c.part.ensures, c.part-in_default.ensures) (key-parts c.args.ws.now a b apart)
