-- A table is written in a walk along the records: each record has its part of it, and they follow each other. Assumes nothing.
use mathlib.Core.Path.{◌≡◌, refl, sym, ap, subst, ◌∙◌}
use mathlib.Core.Bool.{true}
use mathlib.Core.List.{List, [], ◌∷◌, ◌++◌}
use Prim.Native.Nat.{ℕ, ◌+◌, ◌≤◌, ◌<◌}
use native.Mathlib.Omega.{arith}
use lib.ListN.{length, get_or}
use Rattle.format.specs.Basics.{given_or}
use Rattle.format.specs.ObjectFile.{ObjectFile}
use Rattle.format.specs.Records.{Record, placed, empty_object}
use Rattle.format.specs.Words.{is_head}
use Rattle.format.specs.Calls.{checked}
use Rattle.object.specs.Bodies.{body_at}
use Rattle.object.specs.Access.{record_at}
use Rattle.object.proofs.Formed.{formed}
use Rattle.object.proofs.BodyLaws.{body_fits, head_at}
use Rattle.source_info.proofs.RecordLaws.{Left, Here, start, finish, here}
use Rattle.text_write.specs.Tables.{object_in}

-- a table F of which every record has a part
pub record Table (F : ObjectFile → List ℕ) (part : List ℕ → ℕ → List ℕ) : Type 0 where
  pub none : F empty_object ≡ []
  pub more :
      (ws : List ℕ) (at : ℕ) (rs : List Record) → is_head (get_or ws at 0) ≡ true → F (placed (record_at ws at ∷ rs)) ≡ part ws at ++ F
      (placed rs)

module _ (F : ObjectFile → List ℕ) (part : List ℕ → ℕ → List ℕ) (t : Table F part) (ws : List ℕ) where
  pub walk_start : checked ws ≡ 0 → Left ws 0 F (F (object_in ws))
  walk_start e =
      let f = formed ws e in
      let q : object_in ws ≡ f.object = ap (λ o. given_or o empty_object) f.is in
      subst (λ (h : ObjectFile). Left ws 0 F (F h)) (sym q) (start ws F f.object f.is)

  pub walk_end : (at : ℕ) (left : List ℕ) → length ws ≤ at → Left ws at F left → left ≡ []
  walk_end at left h l = sym (finish ws F at left h l) ∙ t.none

  -- a record's part, and what is left past it
  module _ (at : ℕ) (left : List ℕ) (h : at < length ws) (l : Left ws at F left) where
    abbrev a : Here ws at F left
    a = here ws F at left h l

    abbrev pub past : List ℕ
    past = F (placed a.rest)

    pub walk-part : left ≡ part ws at ++ past
    walk-part = sym a.same ∙ t.more ws at a.rest (head_at ws at h l.stops)

    pub walk-on : (n : ℕ) → n ≡ at + 1 + length (body_at ws (at + 1)) → Left ws n F past
    walk-on n e =
        subst (λ (k : ℕ). Left ws k F past) (sym e) (record { records = a.rest; stops = a.stops; read = a.read; same = refl })

    pub walk-less : (n : ℕ) → n ≡ at + 1 + length (body_at ws (at + 1)) → (at < n) × (n ≤ length ws)
    walk-less n e = (omega arith, omega (arith, body_fits ws (at + 1) (omega arith)))
