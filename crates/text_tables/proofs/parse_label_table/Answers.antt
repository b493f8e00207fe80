use native.Mathlib.Omega.{arith}
use mathlib.Core.Path.{◌≡◌, refl, sym, ap, ◌∙◌, subst}
use mathlib.Core.List.{List}
use mathlib.Core.Option.{Option}
use Prim.Native.Nat.{ℕ}
use Rattle.std.specs.Prelude.{Ok}
use Rattle.format.specs.Basics.{need}
use Rattle.format.specs.TextReader.{parse_label_table}
use Rattle.format.specs.Records.{empty_object}
use Rattle.format.specs.Calls.{refusal_of}
use Rattle.text_tables.specs.Debug.{Groups, label_view}
use Rattle.text_tables.specs.Labels.{NextLabel, LabelsChecked, label_in, Named}
use Rattle.text_tables.proofs.LabelLaws.{labels-none, labels_no, labels-yes}
use Rattle.text_tables.proofs.ReadLaws.{read_done}
use Rattle.text_tables.proofs.parse_label_table.Goals as goal

abbrev Left : Type 0
Left = List (List ℕ) × (Option (List (List ℕ)) × Groups)

unmoved : {t : List ℕ} {at n : ℕ} → n ≡ refusal_of (parse_label_table empty_object (label_view t at).0) → LabelsChecked t at n at
unmoved e = record { same = e; from = omega arith; after = refl }

pub returns-in_default : goal.returns-in_default
returns-in_default c = unmoved (labels-none _ _ c.in_default.ensures)

pub returns-then-not-parse_label_header : goal.returns-then-not-parse_label_header
returns-then-not-parse_label_header c =
    unmoved (labels_no _ _ _ _ _ c.in-Some.ensures (sym c.parse_label_header.ensures ∙ c.if-not-parse_label_header.true))

pub loop-next-init : goal.loop-next-init
loop-next-init c =
    let r = c.in-Some.ensures in
    (omega (arith, r.on), sym (ap (λ (p : Left). p.1) r.same), r.next, labels-yes _ _ _ _ _ r (sym c.parse_label_header.ensures ∙ c.if-not-parse_label_header.false))

pub returns : goal.returns
returns c =
    let i = c.loop-next.invariant in
    let t = c.args.t.now in
    let e = subst (λ o. NextLabel t c.loop-next.i (Ok o)) c.in_default-2.is c.in_ok-next.ensures in
    record {
      same = sym (ap (λ (o : Option (List Named)). refusal_of (need 26 o)) (read_done label_in (label_view t) t c.loop-next.i e)) ∙ i.3;
      from = i.0;
      after = i.1;
    }
