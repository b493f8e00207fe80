use borrow.Author.Rules.{rules}
use native.Mathlib.Omega.{arith}
use mathlib.Core.Path.{◌≡◌, sym, ap, ◌∙◌}
use mathlib.Core.Bool.{Bool, true, false}
use mathlib.Core.List.{List}
use mathlib.Core.Option.{none, some}
use Prim.Native.Nat.{ℕ, ◌+◌}
use lib.ListN.{length, length-map}
use Rattle.std.specs.Prelude.{if◌then◌else◌}
use Rattle.format.specs.ObjectFile.{line_end}
use Rattle.std.specs.Prelude as std
use Rattle.std.specs.Bool.{then_some}
use Rattle.object.specs.Bodies.{body_at, kind_number, number_at}
use Rattle.object.specs.declared.Kind.{Kind}
use Rattle.object.specs.declared.Kind.TheVariants as kind
use Rattle.object.proofs.KindLaws.{other_kind}
use Rattle.fair.specs.FairRecords.{step_of}
use Rattle.object.specs.Access.{kind_at, address_in, line_block_at, record_at}
use Rattle.object.proofs.AccessLaws.{label_is, relocation_is}
use Rattle.fair.proofs.FairLaws.{step_label, step-relocation, step_lines, step_other, text-label, text-relocation, lines_end}
use Rattle.fair.proofs.fair_record.Goals as goal

-- by a test
passed : {A : Type 0} (t : Bool) (a b : A) → t ≡ true → a ≡ (if t then a else b)
passed t a b e = sym (ap (λ v. if v then a else b) e)

failed : {A : Type 0} (t : Bool) (a b : A) → t ≡ false → b ≡ (if t then a else b)
failed t a b e = sym (ap (λ v. if v then a else b) e)

-- a name's test
given_least : (t : Bool) (least : ℕ) (r : std.Option ℕ) → r ≡ then_some t least → step_of r ≡ (if t then some least else none)
given_least true least r e = ap step_of e
given_least false least r e = ap step_of e

-- the end of a line block that is fair
end_is : (ws : List ℕ) (at n first : ℕ) → n ≡ length (body_at ws (at + 1 + 3)) → first ≡ number_at ws (at + 1)
    → first + n ≡ line_end (line_block_at ws at)
end_is ws at n first e f = let l = length-map (body_at ws (at + 1 + 3)) address_in in omega (arith, e, f, l)

pub is_fair_name-requires : goal.is_fair_name-requires
is_fair_name-requires c =
    let a = c.args in
    let e = sym c.in-Label.ensures in
    ((label_is a.ws.now a.at (record_at a.ws.now a.at) c.requires.3 e).1, text-label a.ws.now a.at a.last a.least e c.requires.4)

pub returns-in-Label : goal.returns-in-Label
returns-in-Label c =
    let a = c.args in
    given_least _ a.least _ c.then_some.ensures ∙ ap (λ (t : Bool). if t then some a.least else none) c.is_fair_name.ensures
    ∙ step_label a.ws.now a.at a.last a.least (sym c.in-Label.ensures)

pub is_fair_name-requires-in-Relocation : goal.is_fair_name-requires-in-Relocation
is_fair_name-requires-in-Relocation c =
    let a = c.args in
    let e = sym c.in-Relocation.ensures in
    ((relocation_is a.ws.now a.at (record_at a.ws.now a.at) c.requires.3 e).1, text-relocation a.ws.now a.at a.last a.least e c.requires.4)

pub returns-in-Relocation : goal.returns-in-Relocation
returns-in-Relocation c =
    let a = c.args in
    given_least _ a.least _ c.then_some-in-Relocation.ensures
    ∙ ap (λ (t : Bool). if t then some a.least else none) c.is_fair_name-in-Relocation.ensures
    ∙ step-relocation a.ws.now a.at a.last a.least (sym c.in-Relocation.ensures)

pub returns-then-not-is_fair_line_block : goal.returns-then-not-is_fair_line_block
returns-then-not-is_fair_line_block c =
    let a = c.args in
    failed _ (some (line_end (line_block_at a.ws.now a.at) + 1)) none (sym c.is_fair_line_block.ensures ∙ c.if-not-is_fair_line_block.true)
    ∙ step_lines a.ws.now a.at a.last a.least (sym c.in-LineBlock.ensures)

pub overflow_add-result : goal.overflow_add-result
overflow_add-result c =
    let a = c.args in
    let h = end_is a.ws.now a.at c.body_len-n.result c.number_at.result c.body_len-n.ensures c.number_at.ensures in
    let g = lines_end a.last a.least (line_block_at a.ws.now a.at)
    (sym c.is_fair_line_block.ensures ∙ c.if-not-is_fair_line_block.false) in
    let p = c.requires.1 in search rules

pub overflow_add-result-in-LineBlock : goal.overflow_add-result-in-LineBlock
overflow_add-result-in-LineBlock c =
    let a = c.args in
    let h = end_is a.ws.now a.at c.body_len-n.result c.number_at.result c.body_len-n.ensures c.number_at.ensures in
    let g = lines_end a.last a.least (line_block_at a.ws.now a.at)
    (sym c.is_fair_line_block.ensures ∙ c.if-not-is_fair_line_block.false) in
    let p = c.requires.1 in search rules

pub returns-else-not-is_fair_line_block : goal.returns-else-not-is_fair_line_block
returns-else-not-is_fair_line_block c =
    let a = c.args in
    ap (λ n. some (n + 1)) (end_is a.ws.now a.at c.body_len-n.result c.number_at.result c.body_len-n.ensures c.number_at.ensures)
    ∙ passed _ (some (line_end (line_block_at a.ws.now a.at) + 1)) none
    (sym c.is_fair_line_block.ensures ∙ c.if-not-is_fair_line_block.false)
    ∙ step_lines a.ws.now a.at a.last a.least (sym c.in-LineBlock.ensures)

pub returns-in_default : goal.returns-in_default
returns-in_default c =
    let a = c.args in
    let o = c.in_default in
    let other : (k : Kind) → (c.of.result ≡ k → ⊥) → kind_at a.ws.now a.at ≡ kind_number k → ⊥ =
    λ k n. other_kind c.of.result k _ c.of.ensures n in
    step_other a.ws.now a.at a.last a.least c.requires.0 c.requires.2 (other kind.Label o.not-Label) (other kind.Relocation o.not-Relocation)
    (other kind.LineBlock o.not-LineBlock)
