use native.Mathlib.Omega.{arith}
use mathlib.Core.Path.{◌≡◌, sym, subst}
use Prim.Native.Nat.{ℕ}
use Rattle.std.specs.Prelude as std
use Rattle.format.specs.Basics.{given}
use Rattle.format.specs.ObjectFile.{ObjectFile}
use Rattle.format.specs.Words.{object_of}
use Rattle.format.specs.Source.{last_starting}
use Rattle.object.specs.declared.Kind.TheVariants as kind
use Rattle.object.proofs.KindLaws.{number_is, number_not}
use Rattle.line_tables.specs.Tables.{placed_in, BeginsIn}
use Rattle.source_info.proofs.RecordLaws.{Left, Here, here}
use Rattle.line_tables.proofs.TableLaws.{last_with, last-start, last-take, last_skip, last-other, last_done}
use Rattle.line_tables.proofs.last_starting.Goals as goal
use Rattle.line_tables.proofs.last_starting.Goals.{After-body_end-at, then-eq+then-number_at-line, else-eq, else-eq-via-then-eq+else-number_at-line, else-eq-via-else-eq}

-- in a turn
now_here : (c : After-body_end-at) → (h : ObjectFile) → object_of c.args.ws.now ≡ given h
    → Here c.args.ws.now c.loop-at.at (last_with c.args.line (placed_in c.args.ws.now c.loop-at.last)) (last_starting c.args.line h.line_blocks)
now_here c h q =
    here c.args.ws.now (last_with c.args.line (placed_in c.args.ws.now c.loop-at.last)) c.loop-at.at (last_starting c.args.line h.line_blocks)
    c.loop-at-test.true (c.loop-at.invariant.0 h q)

abbrev Goal : (c : After-body_end-at) → std.Option ℕ → Type 0
Goal c b = ((h : ObjectFile) → object_of c.args.ws.now ≡ given h
    → Left c.args.ws.now c.body_end-at.result (last_with c.args.line (placed_in c.args.ws.now b)) (last_starting c.args.line h.line_blocks))
    × BeginsIn c.args.ws.now c.args.line b

pub loop-at-init : goal.loop-at-init
loop-at-init c = (λ h e. last-start _ _ h e, tt)

pub loop-at-preserved : goal.loop-at-preserved
loop-at-preserved c =
    let d = (goal.at.loop-at-preserved c).After-body_end-at in
    let ws = c.args.ws.now in
    let line = c.args.line in
    let at = c.loop-at.at in
    let n = c.body_end-at.result in
    let e = c.body_end-at.ensures in
    let inv = c.loop-at.invariant in
    elim c.if-eq.branch [
      | then-eq+then-number_at-line w ↦
          (let m = w.number_at.ensures in
          let l = w.if-number_at-line.true in
          let k = number_is c.of.result kind.LineBlock _ c.of.ensures w.if-eq.ensures in
          subst (Goal d) (sym w.last-is) (
            (λ h q. last-take ws line at n _ _ (now_here d h q) e c.loop-at-test.true k (omega (arith, m, l))),
            (c.loop-at-test.true, omega (arith, m, l)),
          ))
      | else-eq v ↦
          subst (Goal d) (sym v.last-is)
          (elim v.else-eq.branch [
            | else-eq-via-then-eq+else-number_at-line w ↦
                (let m = w.number_at.ensures in
                let k = number_is c.of.result kind.LineBlock _ c.of.ensures w.if-eq.ensures in
                ((λ h q. last_skip ws line at n _ _ (now_here d h q) e k (λ z. omega (arith, m, z, w.if-number_at-line.false))), inv.1))
            | else-eq-via-else-eq w ↦
                ((λ h q. last-other ws line at n _ _ (now_here d h q) e (number_not c.of.result kind.LineBlock _ c.of.ensures w.if-eq.ensures)), inv.1)
          ])
    ]

pub returns : goal.returns
returns c =
    let inv = c.loop-at.invariant in
    (λ h q. last_done _ _ _ _ _ c.loop-at-test.false (inv.0 h q), inv.1)
