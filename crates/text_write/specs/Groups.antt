-- The text file of an object in words, part by part as it is written. Assumes nothing.
use Rattle.std.specs.Prelude.{List, [], ◌++◌, ℕ, if◌then◌else◌}
use Rattle.std.proofs.Math.Option.{some, get_or}
use Rattle.format.specs.Basics.{and_then, ascii}
use Rattle.format.specs.ObjectFile.{ObjectFile}
use Rattle.format.specs.TextWriter.{text_line, symbol_table, linker_table, label_table, line_table, bar_line, blocks_only, symbol_groups, text_file}
use Rattle.text_lines_out.specs.Walk.{source_table}
use Rattle.text_write.specs.Tables.{object_in}

-- the lines before the blocks
abbrev pub head_lines : List ℕ
head_lines = text_line (ascii "LC-3 OBJ FILE") ++ text_line [] ++ text_line (ascii ".TEXT")

-- the lines before the linker table, and before the label table
abbrev pub linker_lines : List ℕ
linker_lines = text_line [] ++ text_line (ascii ".LINKER_INFO")

abbrev pub debug_lines : List ℕ
debug_lines = text_line [] ++ text_line (ascii ".DEBUG") ++ text_line (ascii "# DEBUG SYMBOLS FOR LC3TOOLS") ++ text_line []

-- .SYMBOL and .LINKER_INFO
unfoldable pub name_groups : ObjectFile → List ℕ
name_groups h = text_line (ascii ".SYMBOL") ++ (symbol_table h.labels ++ (linker_lines ++ linker_table h.relocations))

-- the line table and the divider line after it; nothing without a source
abbrev pub source_part : ObjectFile → List ℕ
source_part h = get_or (and_then h.source λ s. some (line_table s h.line_blocks ++ bar_line)) []

-- .DEBUG, with the empty line before it
unfoldable pub debug_group : ObjectFile → List ℕ
debug_group h = debug_lines ++ (label_table h.labels ++ (bar_line ++ source_part h))

-- the groups past .TEXT; none where an object has blocks only
unfoldable pub groups : ObjectFile → List ℕ
groups h = if blocks_only h then [] else symbol_groups h

-- of the object in words
abbrev pub linker_text : List ℕ → List ℕ
linker_text ws = linker_table (object_in ws).relocations

abbrev pub links_text : List ℕ → List ℕ
links_text ws = linker_lines ++ linker_text ws

abbrev pub names_text : List ℕ → List ℕ
names_text ws = text_line [] ++ name_groups (object_in ws)

abbrev pub lines_text : List ℕ → List ℕ
lines_text ws = bar_line ++ source_table ws

abbrev pub debug_text : List ℕ → List ℕ
debug_text ws = debug_group (object_in ws)

abbrev pub groups_text : List ℕ → List ℕ
groups_text ws = groups (object_in ws)

abbrev pub rest_text : List ℕ → List ℕ
rest_text ws = text_line [] ++ groups_text ws

abbrev pub file_text : List ℕ → List ℕ
file_text ws = text_file (object_in ws)
