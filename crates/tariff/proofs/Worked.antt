-- The worked cases hold. Assumes nothing.
use mathlib.Core.Path.{◌≡◌, refl, sym, ap, ◌∙◌}
use mathlib.Core.List.{List, [], ◌∷◌, flat_map, append-nil}
use mathlib.Core.Option.{some}
use mathlib.Core.Bool.{Bool, true, false}
use Prim.Native.Nat.{ℕ, zero, suc, ◌^◌, ◌≤◌, ◌<◌}
use native.Mathlib.Omega.{arith}
use lib.ListN.{length, replicate, length-replicate}
use Rattle.format.specs.Basics.{given, All, open-Basics}
use Rattle.format.specs.Digits.{value_of, open-Digits}
use Rattle.format.specs.Tokens.{open-Tokens}
use Rattle.format.specs.Sorted.{open-Sorted}
use Rattle.format.specs.Utf8.{open-Utf8}
use Rattle.format.specs.ObjectFile.{ObjectFile, consistent, names_of, source_text, apart, open-ObjectFile}
use Rattle.format.specs.Records.{records_of, source_records, open-Records}
use Rattle.format.specs.Words.{text_words, record_words, words_of, object_of, open-Words}
use Rattle.format.proofs.ListLaws.{all_append}
use Rattle.format.proofs.Ranges.{WellFormed, InRange}
use Rattle.format.proofs.Utf8Laws.{text-ascii, text_utf8}
use Rattle.format.proofs.WordsTrip.{words_back}
use Rattle.tariff.specs.Tariff.{addends, payable, fee_of, refused_fee, lending_fee, open-Tariff}
use Rattle.tariff.specs.Worked.{Holds, source_of, stray_words, amounts, limits, WorkedHold}
use Rattle.tariff.proofs.TariffLaws.{fee_long, fee_charged}

-- BY COMPUTATION
amounts_hold : All Holds amounts
unfolding open-Basics open-Digits open-Tokens open-Sorted open-Utf8 open-ObjectFile open-Records open-Words open-Tariff
amounts_hold =
    ((refl, refl), ((refl, refl), ((refl, refl), ((refl, refl), ((refl, refl), ((refl, refl), ((refl, refl), ((refl, refl), tt))))))))

stray_words_lem : (n : ℕ) (member : Bool) → lending_fee (stray_words n) member ≡ refused_fee 1
unfolding open-Basics open-Tokens open-Utf8 open-Words open-Tariff
stray_words_lem n member = refl

-- THE LIMIT: a source of any number of words

abbrev letters : ℕ → List ℕ
letters zero = []
letters (suc n) = 0x61 ∷ 0x61 ∷ 0x61 ∷ letters n

letters_all : (limit : ℕ) → 0x61 < limit → (n : ℕ) → All (λ b. b < limit) (letters n)
letters_all limit l zero = tt
letters_all limit l (suc n) = (l, (l, (l, letters_all limit l n)))

letters_words : (n : ℕ) → text_words (letters n) ≡ replicate n 0xE3616161
unfolding text_words value_of
letters_words zero = refl
letters_words (suc n) = ap (λ (ws : List ℕ). 0xE3616161 ∷ ws) (letters_words n)

abbrev object : ℕ → ObjectFile
object n = record { blocks = []; labels = []; line_blocks = []; source = some (letters n); relocations = [] }

object_formed : (n : ℕ) → WellFormed (object n)
unfolding consistent apart names_of source_text open-Basics
object_formed n = record {
  blocks = tt;
  labels = tt;
  line_blocks = tt;
  relocations = tt;
  consistent = text_utf8 (letters n) (text-ascii (letters n) (letters_all 0x80 (omega arith) n));
}

object_ranges : (n : ℕ) → InRange (object n)
unfolding source_text
object_ranges n = record { blocks = tt; labels = tt; line_blocks = tt; source = letters_all (2 ^ 8) (omega arith) n; relocations = tt }

object-words : (n : ℕ) → words_of (object n) ≡ source_of n
unfolding words_of records_of source_records record_words flat_map
object-words n = ap (λ (ws : List ℕ). 0x80000000 ∷ ws) (append-nil (text_words (letters n)) ∙ letters_words n)

is_object : (n : ℕ) → object_of (source_of n) ≡ given (object n)
is_object n = ap object_of (sym (object-words n)) ∙ words_back (object n) (object_formed n) (object_ranges n)

source-length : (n : ℕ) → length (source_of n) ≡ suc n
source-length n = ap suc (length-replicate n 0xE3616161)

-- what lending a source of so many words costs
source_costs : (n : ℕ) (member : Bool) → n < 16777216 → lending_fee (source_of n) member ≡ fee_of member (addends (suc n) 0)
source_costs n member l =
    sym (fee_charged (source_of n) member (object n) (is_object n) (omega (arith, source-length n)))
    ∙ ap (λ (k : ℕ). fee_of member (addends k 0)) (source-length n)

source-refused : (n : ℕ) (member : Bool) → 16777216 ≤ n → lending_fee (source_of n) member ≡ refused_fee 38
source-refused n member l = sym (fee_long (source_of n) member (object n) (is_object n) (omega (arith, source-length n)))

limits_hold : All Holds limits
unfolding addends payable fee_of refused_fee
limits_hold = (
  (stray_words_lem 0 false, stray_words_lem 0 true),
  (
    (source_costs 16777215 false (omega arith), source_costs 16777215 true (omega arith)),
    (
      (source-refused 16777216 false (omega arith), source-refused 16777216 true (omega arith)),
      ((stray_words_lem 16777216 false, stray_words_lem 16777216 true), tt),
    ),
  ),
)

pub worked_hold : WorkedHold
worked_hold = all_append Holds amounts limits amounts_hold limits_hold
