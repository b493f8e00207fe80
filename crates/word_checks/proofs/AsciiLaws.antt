-- Words of ASCII text. Assumes nothing.
use Rattle.std.proofs.Common.{◌≡◌, ℕ, ◌/◌, ◌%◌, ◌^◌, ◌<◌, true, false, List, ◌∷◌, sym, refl, ap, ◌∙◌, arith, lt-ltb}
use Rattle.format.specs.Words.{is_head}
use Rattle.utf8.specs.declared.Utf8.{Utf8}
use Rattle.utf8.specs.Utf8.{step, first_byte, whole}
use Rattle.object.specs.Bodies.{good_text}
use Rattle.object.proofs.TextLaws.{text_on, text-start, text-next, part_3, run_3}
use Rattle.word_checks.specs.Walks.{AsciiWord}

-- an ASCII byte leaves a whole state whole
ascii-step : (b : ℕ) → b < 0x80 → step whole b ≡ whole
unfolding step first_byte
ascii-step b h = rw (lt-ltb b 0x80 h)

module _ (w : ℕ) (a : AsciiWord w) where
  ascii_run : step (step (step whole (w % 256)) (w / 256 % 256)) (w / 65536 % 256) ≡ whole
  ascii_run = rw (ascii-step (w % 256) a.1, ascii-step (w / 256 % 256) a.2, ascii-step (w / 65536 % 256) a.3)

  -- a text may begin with it
  pub ascii-text : (xs : List ℕ) → good_text (w ∷ xs) ≡ good_text xs
  ascii-text xs =
      sym (text-start (w ∷ xs)) ∙ text-next whole w xs true 3 refl (part_3 w a.0)
      ∙ ap (λ (u : Utf8). text_on u true xs) (run_3 whole w ∙ ascii_run) ∙ text-start xs

  pub ascii_goes : is_head w ≡ false
  unfolding is_head
  ascii_goes = let e : w / 2 ^ 29 ≡ 7 = omega (arith, a.0) in rw e
