use native.Mathlib.Omega.{arith}
use mathlib.Core.Path.{refl, sym, ap, ◌∙◌, subst}
use mathlib.Core.List.{List}
use mathlib.Core.Option.{Option}
use Rattle.std.specs.Prelude.{Ok}
use Rattle.format.specs.Basics.{need}
use Rattle.format.specs.ObjectFile.{Relocation}
use Rattle.text_lines.specs.Groups.{group_view}
use Rattle.text_linker.specs.Linker.{NextLinker, linker_in}
use Rattle.format.specs.Calls.{refusal_of}
use Rattle.text_tables.proofs.ReadLaws.{read_done}
use Rattle.text_linker.proofs.LinkerLaws.{linker-none, linker-header, linker-rows}
use Rattle.text_lines.proofs.RowLaws.{parts_of, row-groups}
use Rattle.text_linker.proofs.parse_linker_table.Goals as goal

pub returns-in_default : goal.returns-in_default
returns-in_default c =
    let e = c.in_default.ensures in
    record { same = sym (linker-none _ _ e); from = omega arith; after = λ z. parts_of _ _ _ e refl }

pub returns-then-not-parse_linker_header : goal.returns-then-not-parse_linker_header
returns-then-not-parse_linker_header c = record {
  same = sym (linker-header _ _ _ _ _ c.in-Some.ensures (sym c.parse_linker_header.ensures ∙ c.if-not-parse_linker_header.true));
  from = omega arith;
  after = λ z. absurd (omega arith);
}

pub loop-next-init : goal.loop-next-init
loop-next-init c =
    let r = c.in-Some.ensures in
    (omega (arith, r.on), row-groups _ _ _ _ _ r, linker-rows _ _ _ _ _ r (sym c.parse_linker_header.ensures ∙ c.if-not-parse_linker_header.false))

pub returns : goal.returns
returns c =
    let i = c.loop-next.invariant in
    let t = c.args.t.now in
    let e = subst (λ o. NextLinker t c.loop-next.i (Ok o)) c.in_default-2.is c.in_ok-next.ensures in
    record {
      same = sym (ap (λ (o : Option (List Relocation)). refusal_of (need 26 o)) (read_done linker_in (group_view t) t c.loop-next.i e)) ∙ i.2;
      from = i.0;
      after = λ z. parts_of t c.loop-next.i _ e i.1;
    }
