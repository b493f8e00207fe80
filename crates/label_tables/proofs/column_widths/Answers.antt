use native.Mathlib.Omega.{arith}
use mathlib.Core.Path.{◌≡◌, refl, sym, ap, ◌∙◌}
use mathlib.Core.List.{List, ◌∷◌}
use Prim.Native.Nat.{ℕ, max}
use lib.ListN.{length}
use Rattle.format.specs.TextWriter.{decimal, widest}
use Rattle.gather.proofs.OrderLaws.{found_moves}
use Rattle.label_order.specs.Labels.{places_from, label_places}
use Rattle.label_order.proofs.PlaceLaws.{found-next, found_none}
use Rattle.object.specs.Access.{label_at}
use Rattle.label_tables.specs.Rows.{name_at}
use Rattle.label_tables.specs.Tables.{names_width, indices_width}
use Rattle.label_tables.proofs.RowLaws.{name-size}
use Rattle.label_tables.proofs.RoomLaws.{widest-on, widest-end}
use Rattle.label_tables.proofs.column_widths.Goals as goal
use Rattle.label_tables.proofs.column_widths.Goals.{After-max-in-Some}

abbrev name : List ℕ → ℕ → ℕ
name ws p = length (name_at ws p)

abbrev index : List ℕ → ℕ → ℕ
index ws p = length (decimal (label_at ws p).start)

abbrev ws : (c : After-max-in-Some) → List ℕ
ws c = c.args.ws.now

abbrev p : (c : After-max-in-Some) → ℕ
p c = c.in-Some.p

abbrev next : (c : After-max-in-Some) → ℕ
next c = c.in-Some.next

found : (c : After-max-in-Some) → places_from (ws c) c.loop-p.at ≡ (p c) ∷ places_from (ws c) (next c)
found c = found-next (ws c) c.loop-p.at c.next_label.result c.next_label.ensures.0 (p c) (next c) c.in-Some.is

pub loop-p-init : goal.loop-p-init
unfolding names_width indices_width label_places
loop-p-init c = (refl, refl)

pub returns : goal.returns
returns c =
    let ws = c.args.ws.now in
    let l = c.loop-p in
    let e = found_none ws l.at _ c.next_label.ensures.0 c.in_default.is in (
      sym (widest-end (name ws) l.widths.names (places_from ws l.at) e) ∙ l.invariant.0,
      sym (widest-end (index ws) l.widths.indices (places_from ws l.at) e) ∙ l.invariant.1,
    )

pub loop-p-smaller : goal.loop-p-smaller
loop-p-smaller c =
    omega (
      arith,
      found_moves c.loop-p.at (length (ws c)) (p c, next c) c.next_label.result c.next_label.ensures.1
          c.in-Some.is,
    )

pub loop-p-preserved : goal.loop-p-preserved
loop-p-preserved c =
    let l = c.loop-p in
    let n = c.name_of-name in
    let e = c.max.ensures
    ∙ ap (λ k. max k l.widths.names) (name-size (ws c) (p c) n.result.at n.result.len n.ensures.0) in
    let f = c.max-in-Some.ensures
    ∙ ap (λ k. max k l.widths.indices) (c.count_digits.ensures ∙ ap (λ v. length (decimal v)) c.start_at.ensures) in (
      ap (λ k. widest (name (ws c)) k (places_from (ws c) (next c))) e
          ∙ widest-on (name (ws c)) l.widths.names (p c) (places_from (ws c) l.at) (places_from (ws c) (next c)) (found c) ∙ l.invariant.0,
      ap (λ k. widest (index (ws c)) k (places_from (ws c) (next c))) f
          ∙ widest-on (index (ws c)) l.widths.indices (p c) (places_from (ws c) l.at) (places_from (ws c) (next c)) (found c) ∙ l.invariant.1,
    )
