-- The source of a well formed object, and the line table of it. Assumes nothing.
use mathlib.Core.Path.{◌≡◌, refl, sym, ap, ◌∙◌}
use mathlib.Core.Bool.{true}
use mathlib.Core.List.{List, [], ◌++◌}
use mathlib.Core.Option.{Option, none, some, get_or}
use Prim.Native.Nat.{ℕ, suc, ◌+◌, ◌*◌, ◌≤◌}
use native.Mathlib.Omega.{arith}
use lib.ListN.{length}
use Rattle.format.specs.Basics.{given, given_or, and_then, ascii}
use Rattle.format.specs.ObjectFile.{ObjectFile, source_text}
use Rattle.format.specs.Records.{empty_object}
use Rattle.format.specs.Words.{object_of}
use Rattle.format.specs.Utf8.{is_utf8}
use Rattle.format.specs.Source.{newlines, line_count}
use Rattle.format.specs.Calls.{checked}
use Rattle.format.specs.TextWriter.{line_table, bar_line}
use Rattle.format.proofs.FairLaws.{consistent-parts}
use Rattle.format.proofs.WordsTrip.{words-only}
use Rattle.object.specs.Bodies.{body_at, text_at, Text}
use Rattle.object.specs.Texts.{text_len, text_bytes}
use Rattle.object.proofs.Formed.{Formed, formed}
use Rattle.object.proofs.ByteLaws.{text-len, text-bytes, text-within}
use Rattle.source_info.specs.Sources.{Sourced}
use Rattle.std.specs.Prelude.{Some, None}
use Rattle.text_lines_out.specs.Walk.{line_blocks_in, source_table}

utf8_source : (ws : List ℕ) (h : ObjectFile) → object_of ws ≡ given h → is_utf8 (source_text h.source) ≡ true
utf8_source ws h e = (consistent-parts h (words-only ws h e).1.consistent).text

module _ (ws : List ℕ) (e : checked ws ≡ 0) where
  abbrev f : Formed ws
  f = formed ws e

  table_is : (o : Option (List ℕ)) → f.object.source ≡ o
      → source_table ws ≡ get_or (and_then o λ s. some (line_table s (line_blocks_in ws) ++ bar_line)) []
  unfolding source_table
  table_is o q =
      ap (λ (o : Option (List ℕ)). get_or (and_then o λ s. some (line_table s (line_blocks_in ws) ++ bar_line)) [])
      (ap (λ o. (given_or o empty_object).source) f.is ∙ q)

  pub source-nothing : Sourced ws None → source_table ws ≡ []
  source-nothing q = table_is none (q f.object f.is)

  module _ (at n : ℕ) (q : Sourced ws (Some at)) (k : n ≡ text_len ws at (at + length (body_at ws at))) where
    abbrev found : (f.object.source ≡ some (text_at ws at)) × Text (body_at ws at)
    found = q f.object f.is

    size : n ≡ length (text_at ws at)
    size = k ∙ text-len ws at found.1

    bytes : text_bytes ws at n ≡ text_at ws at
    bytes = ap (text_bytes ws at) size ∙ text-bytes ws at found.1

    pub source_small : n ≤ 3 * length ws
    source_small = omega (arith, size, text-within ws at found.1)

    pub source_sound : is_utf8 (text_bytes ws at n) ≡ true
    unfolding source_text
    source_sound =
        ap is_utf8 bytes ∙ sym (ap (λ (o : Option (List ℕ)). is_utf8 (source_text o)) found.0) ∙ utf8_source ws f.object f.is

    pub source_table_lem : source_table ws ≡ line_table (text_bytes ws at n) (line_blocks_in ws) ++ bar_line
    source_table_lem =
        table_is (some (text_at ws at)) found.0 ∙ ap (λ (s : List ℕ). line_table s (line_blocks_in ws) ++ bar_line) (sym bytes)

    pub source_lines : (m : ℕ) → m ≡ newlines (text_bytes ws at n) → m + 1 ≡ line_count (text_bytes ws at n)
    unfolding line_count
    source_lines m z = (let y : m + 1 ≡ suc m = omega arith in y) ∙ ap suc z

pub bar_length : length bar_line ≡ 21
unfolding ascii
bar_length = refl
