-- No row, one row, or the rows in order. Assumes nothing.
use mathlib.Core.Path.{sym, ap, ◌∙◌}
use mathlib.Core.List.{List}
use Prim.Native.Nat.{ℕ}
use Rattle.text_words.specs.Written.{put_each}
use Rattle.text_words.proofs.PutLaws.{put_one, no_rows, one-row}
use Rattle.text_words.proofs.put_rows.Goals as goal

pub returns-in_default : goal.returns-in_default
unfolding put_each
returns-in_default c =
    sym (ap (λ (ps : List (List ℕ)). put_each ps 0 c.args.out.now) (no_rows _ _ _ c.first_place.ensures c.in_default.ensures))

pub returns-in-None : goal.returns-in-None
returns-in-None c =
    put_one _ _ _ _ c.put_row.ensures
    ∙ sym (ap (λ (ps : List (List ℕ)). put_each ps 0 c.args.out.now)
    (one-row _ _ _ c.first_place.ensures _ _ c.in-Some.ensures.0 c.in-None.ensures))
