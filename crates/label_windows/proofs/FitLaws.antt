-- The tables of labels in any room, and where all of it fits. Assumes nothing.
use mathlib.Core.Path.{◌≡◌, refl, sym, ap, subst, ◌∙◌}
use mathlib.Core.List.{List, [], ◌∷◌, ◌++◌, flat_map}
use Prim.Native.Nat.{ℕ, ◌+◌, ◌-◌, ◌≤◌, ◌<◌}
use native.Mathlib.Omega.{arith}
use lib.ListN.{length, take, drop, get_or, length-append, drop_of_length-le, length-take, take-append-drop}
use lib.Seq.{get_or-take, length-take-le, take-take, take_all}
use Rattle.std.specs.Prelude.{if◌then◌else◌}
use Rattle.format.specs.Basics.{is_empty}
use Rattle.format.specs.TextWriter.{text_line}
use Rattle.writing.specs.Written.{Put}
use Rattle.writing.proofs.EachLaws.{drop_at_place}
use Rattle.gather.specs.Order.{HandsOut}
use Rattle.gather.proofs.OrderLaws.{held_front}
use Rattle.measuring.specs.Fitting.{keep, fitting}
use Rattle.measuring.proofs.FittingLaws.{keep-fits, keep-room, fitting-room, fitting-all}
use Rattle.label_tables.specs.Tables.{table_of}
use Rattle.label_tables.proofs.FrameLaws.{table_none, table_some}
use Rattle.label_tables.proofs.HandedLaws.{handed_few}
use Rattle.label_windows.specs.Fits.{table_fitting}

module _ (header : List ℕ) (line : ℕ → List ℕ) (ps order : List ℕ) (room : ℕ) where
  abbrev head : List ℕ
  head = keep room (text_line header)

  abbrev pub table_parts : List ℕ
  table_parts = head ++ fitting line (room - length head) order

  pub fits-none : ps ≡ [] → table_fitting header line ps order room ≡ []
  unfolding table_fitting is_empty
  fits-none e = ap (λ (qs : List ℕ). if is_empty qs then [] else table_parts) e

  pub fits_some : (p : ℕ) (qs : List ℕ) → ps ≡ p ∷ qs → table_fitting header line ps order room ≡ table_parts
  unfolding table_fitting is_empty
  fits_some p qs e = ap (λ (qs : List ℕ). if is_empty qs then [] else table_parts) e

  pub parts_fit : length table_parts ≤ room
  parts_fit =
      omega (
        arith,
        length-append head (fitting line (room - length head) order),
        keep-room room (text_line header),
        fitting-room line order (room - length head),
      )

  -- where there is room for the table, it is the table
  pub table_fits : length (table_of header line ps order) ≤ room → table_fitting header line ps order room ≡ table_of header line ps order
  table_fits h = go ps refl
    where
      go : (qs : List ℕ) → ps ≡ qs → table_fitting header line ps order room ≡ table_of header line ps order
      go [] e = fits-none e ∙ sym (table_none header line ps order e)
      go (p ∷ qs) e =
          let t = table_some header line ps order p qs e in
          let l = length-append (text_line header) (flat_map line order) in
          let k = keep-fits room (text_line header) (omega (arith, h, ap length t, l)) in
          fits_some p qs e ∙ ap (λ (x : List ℕ). x ++ fitting line (room - length x) order) k
          ∙ ap (λ (x : List ℕ). text_line header ++ x)
          (fitting-all line order (room - length (text_line header)) (omega (arith, h, ap length t, l)))
          ∙ sym t

pub table_put : (header : List ℕ) (line : ℕ → List ℕ) (ps order room after : List ℕ) (r : ℕ)
    → length (table_of header line ps order) ≤ length room → Put (table_fitting header line ps order (length room)) room r after
    → Put (table_of header line ps order) room r after
table_put header line ps order room after r h p =
    subst (λ (x : List ℕ). Put x room r after) (table_fits header line ps order (length room) h) p

-- THE PLACES OF A WINDOW
module _ (win : List ℕ) (n i : ℕ) where
  pub window_at : i < n → n ≤ length win → drop i (take n win) ≡ get_or win i 0 ∷ drop (i + 1) (take n win)
  window_at h k =
      drop_at_place 0 (take n win) i (omega (arith, length-take-le n win k))
      ∙ ap (λ (p : ℕ). p ∷ drop (i + 1) (take n win)) (get_or-take n win i 0 h)

  pub window-over : n ≤ i → drop i (take n win) ≡ []
  window-over h = drop_of_length-le (take n win) {i = i} (omega (arith, length-take n win))

-- what is handed out, and what is left
module _ (places found now rest : List ℕ) (n : ℕ) (h : HandsOut places found now n rest) where
  pub handed_places : places ≡ take n now ++ rest
  handed_places =
      let w = take (length found) places in
      let front : take n now ≡ take n places = held_front w found now n h.windowed
      ∙ sym (take_all n w (omega (arith, h.windowed.count)))
      ∙ take-take n (length found) places (handed_few places found now rest n h) in
      sym (ap (λ l. take n now ++ l) h.others ∙ ap (λ l. l ++ drop n places) front ∙ take-append-drop n places)

  pub handed_over : n < length found → rest ≡ []
  handed_over l =
      let e : length places ≤ n = omega (arith, h.windowed.count, length-take (length found) places) in
      h.others ∙ drop_of_length-le places {i = n} e

pub nothing-fits : (line : ℕ → List ℕ) (room : ℕ) → fitting line room [] ≡ []
unfolding fitting
nothing-fits line room = refl
