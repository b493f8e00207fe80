-- The walk by places of the object. Assumes nothing.
use mathlib.Core.Path.{◌≡◌, refl, sym, ◌∙◌, ap}
use mathlib.Core.Bool.{Bool, true, false, ◌&&◌, ◌||◌, not, cond}
use mathlib.Core.List.{List, [], ◌∷◌}
use Prim.Native.Nat.{ℕ, ◌+◌, ◌≤◌, ◌<◌}
use native.Mathlib.Omega.{arith}
use lib.ListN.{length}
use borrow.Author.Tests.{not-true}
use Rattle.format.specs.Basics.{Outcome, refused, given, is_empty}
use Rattle.format.specs.Records.{Record}
use Rattle.format.specs.Words.{record_from}
use Rattle.object.specs.Bodies.{allows}
use Rattle.well_formed.specs.Run.{start, fits, after, walk}
use Rattle.object.specs.Bodies.{body_at, groups_at}
use Rattle.well_formed.specs.Steps.{past_in, group_at, Advanced}
use Rattle.std.specs.Option.{is_some}
use Rattle.well_formed.specs.declared.Seen.{Seen}
use Rattle.object.proofs.BodyLaws.{head_at, groups-here, groups_out, after_body, after-groups}
use Rattle.well_formed.proofs.RunLaws.{walk_agrees}
use Rattle.format.specs.Calls.{checked}
use Rattle.object.proofs.RefusalLaws.{refusal_of_lem}

-- the number of an object, by the walk from its start
pub refusal_walk : (ws : List ℕ) → checked ws ≡ cond (is_empty (body_at ws 0) && walk start (groups_at ws 0)) 0 1
unfolding body_at groups_at
refusal_walk ws = refusal_of_lem ws ∙ ap (λ b. cond b 0 1) (walk_agrees ws)

module _ (ws : List ℕ) (at : ℕ) (s : Seen) (h : at < length ws) (e : body_at ws at ≡ []) where
  here : groups_at ws at ≡ group_at ws at ∷ groups_at ws (at + 1)
  here = groups-here ws at h (head_at ws at h e)

  pub walk_stop : allows (record_from (group_at ws at)) (fits (past_in ws s)) ≡ false → walk (past_in ws s) (groups_at ws at) ≡ false
  unfolding walk
  walk_stop r = ap (walk (past_in ws s)) here ∙ go (record_from (group_at ws at)) r
    where
      go : (o : Outcome Record) → allows o (fits (past_in ws s)) ≡ false
          → allows o (λ q. fits (past_in ws s) q && walk (after (past_in ws s) q) (groups_at ws (at + 1))) ≡ false
      go (refused n) r = refl
      go (given q) r = ap (λ b. b && walk (after (past_in ws s) q) (groups_at ws (at + 1))) r

  module _ (n : ℕ) (t : Seen) (a : Advanced ws at s n t) where
    pub walk-on : walk (past_in ws t) (groups_at ws n) ≡ walk (past_in ws s) (groups_at ws at)
    unfolding walk
    walk-on =
        let p = past_in ws s in
        let gs = groups_at ws (at + 1) in
        sym (ap (walk p) here ∙ ap (λ o. allows o (λ q. fits p q && walk (after p q) gs)) a.reading
        ∙ ap (λ b. b && walk (after p a.read) gs) a.fitting
        ∙ ap (λ q. walk q gs) (sym a.past) ∙ ap (walk (past_in ws t))
        (sym (after-groups ws (at + 1)) ∙ ap (groups_at ws) (sym a.place)))

    pub body_on : body_at ws n ≡ []
    body_on = ap (body_at ws) a.place ∙ after_body ws (at + 1)

    pub place-on : at < n
    place-on = omega (arith, a.place)

pub walk_end : (ws : List ℕ) (at : ℕ) (s : Seen) → length ws ≤ at → walk (past_in ws s) (groups_at ws at) ≡ (not (is_some s.lines) || s.sourced)
unfolding walk past_in
walk_end ws at s h = ap (walk (past_in ws s)) (groups_out ws at h)

-- the answer, where the first word is no body word
pub answer : (ws : List ℕ) (t : Bool) → body_at ws 0 ≡ [] → walk start (groups_at ws 0) ≡ t → cond t 0 1 ≡ checked ws
unfolding is_empty
answer ws t e w = sym (refusal_walk ws ∙ ap (λ xs. cond (is_empty xs && walk start (groups_at ws 0)) 0 1) e ∙ ap (λ b. cond b 0 1) w)

pub answer_body : (ws : List ℕ) → not (is_empty (body_at ws 0)) ≡ true → 1 ≡ checked ws
answer_body ws e = sym (refusal_walk ws ∙ ap (λ b. cond (b && walk start (groups_at ws 0)) 0 1) (not-true (is_empty (body_at ws 0)) e))
