use native.Mathlib.Omega.{arith}
use mathlib.Core.Path.{sym, ◌∙◌}
use mathlib.Core.List.{List}
use mathlib.Core.Option.{Option}
use Prim.Native.Nat.{ℕ}
use Rattle.format.specs.ObjectFile.{ObjectFile}
use Rattle.format.specs.Records.{empty_object}
use Rattle.object.specs.declared.Kind.TheVariants as kind
use Rattle.object.proofs.KindLaws.{number_is, number_not}
use Rattle.source_info.proofs.RecordLaws.{start, finish, here, on, source-here, source-other, source-text}
use Rattle.source_info.proofs.source_at.Goals as goal

abbrev question : ObjectFile → Option (List ℕ)
question h = h.source

pub loop-at-init : goal.loop-at-init
loop-at-init c = λ h e. start _ question h e

pub returns-then-eq : goal.returns-then-eq
returns-then-eq c =
    let ws = c.args.ws.now in
    let at = c.loop-at.at in
    let k = number_is c.of.result kind.Source _ c.of.ensures c.if-eq.ensures in
    λ h q.
    let a = here ws question at h.source c.loop-at-test.true (c.loop-at.invariant h q) in
    (sym a.same ∙ source-here ws at a.rest k, source-text ws question at h.source a k)

pub loop-at-smaller : goal.loop-at-smaller
loop-at-smaller c = omega (arith, c.body_end-at.ensures, c.loop-at-test.true)

pub loop-at-preserved : goal.loop-at-preserved
loop-at-preserved c =
    let ws = c.args.ws.now in
    let at = c.loop-at.at in
    λ h q.
    let a = here ws question at h.source c.loop-at-test.true (c.loop-at.invariant h q) in
    on ws question question at c.body_end-at.result h.source a c.body_end-at.ensures
    (source-other ws at a.rest (number_not c.of.result kind.Source _ c.of.ensures c.if-eq.ensures))

pub returns : goal.returns
unfolding empty_object
returns c = λ h q. sym (finish _ question _ h.source c.loop-at-test.false (c.loop-at.invariant h q))
