use Rattle.format.specs.Source.{find_line}
use Rattle.source_info.proofs.RecordLaws.{start, here}
use Rattle.line_tables.proofs.TableLaws.{find_in, find_done, find_take, find_skip, find_other}
use Rattle.line_tables.proofs.find_in.Goals as goal
use Rattle.line_tables.proofs.find_in.Goals.{then-eq+in_default, else-eq}
use Rattle.object.specs.declared.Kind.TheVariants as kind
use Rattle.object.proofs.KindLaws.{number_is, number_not}

pub loop-at-init : goal.loop-at-init
loop-at-init c = λ h e. start _ (find_in _) h e

pub returns-in-Some : goal.returns-in-Some
returns-in-Some c =
    let b = c.args in
    let at = c.loop-at.at in
    λ h q.
    find_take b.ws.now b.a at (find_line h.line_blocks b.a)
    (here b.ws.now (find_in b.a) at (find_line h.line_blocks b.a) c.loop-at-test.true (c.loop-at.invariant h q))
    (number_is c.of.result kind.LineBlock _ c.of.ensures c.if-eq.ensures) c.in-Some.line.0 c.in-Some.ensures

pub loop-at-preserved : goal.loop-at-preserved
loop-at-preserved c =
    let b = c.args in
    let ws = b.ws.now in
    let at = c.loop-at.at in
    let n = c.body_end-at.result in
    λ h q.
    let v = find_line h.line_blocks b.a in
    let f = here ws (find_in b.a) at v c.loop-at-test.true (c.loop-at.invariant h q) in
    elim c.if-eq.branch [
      | then-eq+in_default w ↦ find_skip ws b.a at v f (number_is c.of.result kind.LineBlock _ c.of.ensures w.if-eq.ensures) n
          c.body_end-at.ensures w.in_default.ensures
      | else-eq w ↦ find_other ws b.a at v f n c.body_end-at.ensures (number_not c.of.result kind.LineBlock _ c.of.ensures w.if-eq.ensures)
    ]

pub returns : goal.returns
returns c = λ h q. find_done _ _ _ _ c.loop-at-test.false (c.loop-at.invariant h q)
