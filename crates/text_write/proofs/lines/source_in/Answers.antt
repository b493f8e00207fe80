-- The source's words, their lines, and the layout. Assumes nothing.
use borrow.Author.Rules.{rules}
use native.Mathlib.Omega.{arith}
use mathlib.Core.Path.{◌≡◌, ap, ◌∙◌}
use mathlib.Core.Bool.{true}
use mathlib.Core.List.{List, ◌++◌}
use Prim.Native.Nat.{ℕ, ◌+◌, ◌*◌, ◌≤◌}
use lib.ListN.{length}
use Rattle.format.specs.Utf8.{is_utf8}
use Rattle.format.specs.Source.{line_count}
use Rattle.format.specs.TextWriter.{line_table, bar_line}
use Rattle.object.specs.Bodies.{body_at}
use Rattle.object.specs.Texts.{text_len, text_bytes}
use Rattle.source_info.specs.Sources.{Sourced}
use Rattle.std.specs.Prelude.{Some}
use Rattle.text_lines_out.specs.Walk.{line_blocks_in, source_table}
use Rattle.text_lines_out.proofs.SourceLaws.{source-nothing, source_small, source_sound, source_table_lem, source_lines}
use Rattle.text_lines_out.proofs.TableLaws.{some_lines}
use Rattle.text_write.proofs.PastLaws.{source-found, source_missing}
use Rattle.text_write.proofs.lines.source_in.Goals as goal
use Rattle.text_write.proofs.lines.source_in.Goals.{After-count_newlines-lines}

abbrev ws : (c : After-count_newlines-lines) → List ℕ
ws c = c.args.ws.now

abbrev at : (c : After-count_newlines-lines) → ℕ
at c = c.find-source.result + 1

abbrev n : (c : After-count_newlines-lines) → ℕ
n c = c.text_len-n.result

good : (c : After-count_newlines-lines) → Sourced (ws c) (Some (at c))
good c =
    source-found (ws c) c.find-source.result c.find-source.ensures c.if-ws-source.false

size : (c : After-count_newlines-lines) → (n c) ≡ text_len (ws c) (at c) ((at c) + length (body_at (ws c) (at c)))
size c = c.text_len-n.ensures ∙ ap (text_len (ws c) (at c)) c.body_end-end.ensures

abbrev text : (c : After-count_newlines-lines) → List ℕ
text c = text_bytes (ws c) (at c) (n c)

abbrev table : (c : After-count_newlines-lines) → List ℕ
table c = line_table (text c) (line_blocks_in (ws c))

small_source : (c : After-count_newlines-lines) → (n c) ≤ 3 * length (ws c)
small_source c = source_small (ws c) c.requires.0 (at c) (n c) (good c) (size c)

whole : (c : After-count_newlines-lines) → source_table (ws c) ≡ (table c) ++ bar_line
whole c = source_table_lem (ws c) c.requires.0 (at c) (n c) (good c) (size c)

abbrev lines : (c : After-count_newlines-lines) → ℕ
lines c = c.count_newlines-lines.result + 1

few : (c : After-count_newlines-lines) → (lines c) ≤ 3 * length (ws c) + 1
few c = let h = (small_source c) in let k = c.count_newlines-lines.ensures.1 in omega (arith, h, k)

counted : (c : After-count_newlines-lines) → (lines c) ≡ line_count (text c)
counted c = source_lines (ws c) c.requires.0 (at c) (n c) (good c) (size c) c.count_newlines-lines.result c.count_newlines-lines.ensures.0

sound : (c : After-count_newlines-lines) → is_utf8 (text c) ≡ true
sound c = source_sound (ws c) c.requires.0 (at c) (n c) (good c) (size c)

pub overflow_add-lines : goal.overflow_add-lines
overflow_add-lines c = let h = few c in search rules

pub lay_out-layout-requires : goal.lay_out-layout-requires
lay_out-layout-requires c =
    (c.requires.0, some_lines (text c) (lines c) (counted c), c.requires.1)

pub returns-then-ws-source : goal.returns-then-ws-source
returns-then-ws-source c =
    let ws = c.args.ws.now in
    source-nothing ws c.requires.0 (source_missing ws c.find-source.result c.find-source.ensures c.if-ws-source.true)

pub returns : goal.returns
returns c =
    let g = (goal.at.returns c).After-count_newlines-lines in
    record {
      short = small_source g;
      few = few g;
      counted = counted g;
      sound = sound g;
      wide = c.lay_out-layout.ensures.0;
      wraps = c.lay_out-layout.ensures.1;
      past = c.requires.1;
      whole = whole g;
    }

pub find-source-requires : goal.find-source-requires
find-source-requires c = c.requires.1
