-- The cases that document 01 marks M, and of document 02's requests those that no theorem sees: one named row each, in one table that one
-- proposition covers. Assumes nothing.
use Rattle.std.specs.Prelude.{◌≡◌, List, [], ◌∷◌, ◌++◌, ℕ}
use Rattle.format.specs.Basics.{Outcome, refused, given, ◌>>=◌, ascii, keep, All}
use Rattle.format.specs.Utf8.{is_white_space}
use Rattle.format.specs.Words.{object_of}
use Rattle.format.specs.Calls.{Filled, write_binary, read_binary, read_text, ReadsBinary, bin2text}
use Rattle.format.specs.Signs.{text_cells}

-- a call on an input, and its answer
pub data Case : Type 0 where
  writes_binary : List ℕ → Outcome (List ℕ) → Case
  reads-binary : List ℕ → Outcome (List ℕ) → Case
  reads-text : List ℕ → Outcome (List ℕ) → Case
  fills_words : List ℕ → List ℕ → Filled → Case
  prints : List ℕ → List ℕ → Case
  white_space_of : List ℕ → List ℕ → Case
  number_cells_of : List ℕ → List (List ℕ) → Case

-- binary write with labels and relocations in the object's own order: the only one where there is one of each
unfoldable pub write_in_order : List ℕ → Outcome (List ℕ)
write_in_order ws = object_of ws >>= λ h. write_binary ws h.labels h.relocations

-- "Programs keep buffers within 64 KiB": `bin2text` with 65,536 bytes of input, 16,384 words and 65,536 bytes of text
abbrev pub Holds : Case → Type 0
Holds (writes_binary ws o) = write_in_order ws ≡ o
Holds (reads-binary bs o) = read_binary bs ≡ o
Holds (reads-text bs o) = read_text bs ≡ o
Holds (fills_words bs buffer r) = ReadsBinary bs buffer r
Holds (prints bs out) = bin2text 65536 16384 65536 bs ≡ out
Holds (white_space_of cs ws) = keep is_white_space cs ≡ ws
Holds (number_cells_of bs cs) = text_cells bs ≡ cs

-- the 18 words of "A holding in three dresses", with their relocation word
abbrev pub words18 : ℕ → List ℕ
words18 r =
    0x00003000 ∷ 0x20011234 ∷ 0x20000000 ∷ 0x40003001 ∷ 0xC0000005 ∷ 0xC0000000 ∷ 0xC0000000 ∷ 0xE1000041 ∷ 0x60000000 ∷ 0xC0000001
    ∷ 0xC0000000 ∷ 0xC0000000 ∷ 0x20013000 ∷ 0x80000000 ∷ 0xE3620A61 ∷ 0xE100000A ∷ r ∷ 0xE1000041 ∷ []

-- the seven header bytes, written out
abbrev pub header7 : List ℕ
header7 = 0x6F ∷ 0x62 ∷ 0x6A ∷ 0x21 ∷ 0x10 ∷ 0x00 ∷ 0x01 ∷ []

-- "00*7 is seven zeros"
abbrev pub zeros7 : List ℕ
zeros7 = 0 ∷ 0 ∷ 0 ∷ 0 ∷ 0 ∷ 0 ∷ 0 ∷ []

-- the 77 bytes, with the two bytes of their relocation's address
abbrev pub bytes77 : ℕ → ℕ → List ℕ
bytes77 low high =
    header7
    ++ (0x00 ∷ 0x00 ∷ 0x30 ∷ 0x02 ∷ 0x00 ∷ 0xFF ∷ 0x34 ∷ 0x12 ∷ 0x00 ∷ 0x00 ∷ 0x00 ∷ [])
    ++ (0x01 ∷ 0x01 ∷ 0x30 ∷ 0x00 ∷ 0x05 ∷ [] ++ zeros7 ++ (0x01 ∷ []) ++ zeros7 ++ (0x41 ∷ []))
    ++ (0x02 ∷ 0x01 ∷ [] ++ zeros7 ++ (0x01 ∷ 0x00 ∷ 0x00 ∷ 0x30 ∷ []))
    ++ (0x03 ∷ 0x04 ∷ [] ++ zeros7 ++ (0x61 ∷ 0x0A ∷ 0x62 ∷ 0x0A ∷ []))
    ++ (0x04 ∷ low ∷ high ∷ 0x01 ∷ [] ++ zeros7 ++ (0x41 ∷ []))

-- the printing, 297 bytes; "the row of line 2 ends in a space"
abbrev pub text297 : List ℕ
text297 =
    ascii "LC-3 OBJ FILE\n\n.TEXT\n3000\n2\n1234\n????\n\n"
    ++ ascii ".SYMBOL\nADDR | EXT | LABEL\n3001 |   0 | A\n\n"
    ++ ascii ".LINKER_INFO\nADDR | LABEL\n3001 | A\n\n"
    ++ ascii ".DEBUG\n# DEBUG SYMBOLS FOR LC3TOOLS\n\nLABEL | INDEX\nA     |     5\n====================\n"
    ++ ascii "LINE | ADDR | SOURCE\n   0 | ???? | a\\n\n   1 | 3000 | b\\n\n   2 | ???? | \n====================\n"

-- "these 18 words and 77 bytes": "the marked 18 words now give 30 01 in the last record" (P10)
abbrev pub words_to_bytes : Case
words_to_bytes = writes_binary (words18 0xA0000130) (given (bytes77 0x30 0x01))

abbrev pub bytes_back : Case  -- what is written now is read back as itself
bytes_back = reads-binary (bytes77 0x30 0x01) (given (words18 0xA0000130))

-- "these .. 77 bytes", written earlier: "files written earlier keep reading as they did" (P10)
abbrev pub bytes_to_words : Case
bytes_to_words = reads-binary (bytes77 0x01 0x30) (given (words18 0xA0003001))

-- "the printing"
abbrev pub printing : Case
printing = prints (bytes77 0x01 0x30) text297

-- "header alone (empty holding)"
abbrev pub header_alone : Case
header_alone = reads-binary header7 (given [])

-- "six header bytes (10)"
abbrev pub six_header-bytes : Case
six_header-bytes = reads-binary (0x6F ∷ 0x62 ∷ 0x6A ∷ 0x21 ∷ 0x10 ∷ 0x00 ∷ []) (refused 10)

-- "equal line addresses (14 in binary, read in text)"
abbrev pub equal_addresses-binary : Case
equal_addresses-binary =
    reads-binary (header7 ++ (0x02 ∷ 0x00 ∷ [] ++ zeros7 ++ (0x02 ∷ 0x00 ∷ 0x00 ∷ 0x30 ∷ 0x00 ∷ 0x30 ∷ []))) (refused 14)

abbrev pub equal_addresses-text : Case  -- "read in text"
equal_addresses-text =
    reads-text (ascii "LC-3 OBJ FILE\n.DEBUG\n=\nLINE | ADDR | SOURCE\n0 | 3000 | \n1 | 3000 | \n2 | ???? | \n=")
    (given (0x60000000 ∷ 0xC0000000 ∷ 0xC0000000 ∷ 0xC0000000 ∷ 0x20013000 ∷ 0x20013000 ∷ 0x80000000 ∷ []))

-- "a block twice (last wins; 25)"
abbrev pub block_twice_binary : Case
block_twice_binary =
    reads-binary
    (header7
    ++ (0x00 ∷ 0x00 ∷ 0x30 ∷ 0x01 ∷ 0x00 ∷ 0xFF ∷ 0x34 ∷ 0x12 ∷ [])
    ++ (0x00 ∷ 0x00 ∷ 0x30 ∷ 0x01 ∷ 0x00 ∷ 0xFF ∷ 0x78 ∷ 0x56 ∷ []))
    (given (0x00003000 ∷ 0x20015678 ∷ []))

abbrev pub block_twice_text : Case  -- "25"
block_twice_text = reads-text (ascii "LC-3 OBJ FILE\n.TEXT\n3000\n1\n1234\n3000\n1\n5678") (refused 25)

-- "flag 01"
abbrev pub flag_01 : Case
flag_01 =
    reads-binary (header7 ++ (0x00 ∷ 0x00 ∷ 0x30 ∷ 0x01 ∷ 0x00 ∷ 0x01 ∷ 0x34 ∷ 0x12 ∷ [])) (given (0x00003000 ∷ 0x20000000 ∷ []))

-- "`+0FF`", and of P8 "The marked `+0FF` case becomes a no."
abbrev pub plus_0FF : Case
plus_0FF = reads-text (ascii "LC-3 OBJ FILE\n.TEXT\n+0FF\n0") (refused 24)

-- "one `=` line (27)"
abbrev pub one_bar : Case
one_bar = reads-text (ascii "LC-3 OBJ FILE\n.DEBUG\n====================") (refused 27)

-- a line block with two addresses, by its first line n
abbrev pub two_lines : ℕ → List ℕ
two_lines n = 0x02 ∷ n ∷ [] ++ zeros7 ++ (0x02 ∷ 0x00 ∷ 0x00 ∷ 0x30 ∷ 0x01 ∷ 0x30 ∷ [])

-- "first line 1 count 2 before first line 3 (read)"
abbrev pub lines_1_and_3 : Case
lines_1_and_3 =
    reads-binary (header7 ++ two_lines 1 ++ two_lines 3)
    (given
    (0x60000000 ∷ 0xC0000001 ∷ 0xC0000000 ∷ 0xC0000000 ∷ 0x20013000 ∷ 0x20013001 ∷ 0x60000000 ∷ 0xC0000003 ∷ 0xC0000000 ∷ 0xC0000000
    ∷ 0x20013000 ∷ 0x20013001 ∷ 0x80000000 ∷ []))

-- "and 2 (15)"
abbrev pub lines_1_and_2 : Case
lines_1_and_2 = reads-binary (header7 ++ two_lines 1 ++ two_lines 2) (refused 15)

-- P6, which 25 they are, as no count shows: Unicode's list, out of it and what stands beside each, with x180E, x200B and xFEFF
abbrev pub white_space : Case
white_space =
    white_space_of
    (0x8 ∷ 0x9 ∷ 0xA ∷ 0xB ∷ 0xC ∷ 0xD ∷ 0xE ∷ 0x1F ∷ 0x20 ∷ 0x21 ∷ 0x84 ∷ 0x85 ∷ 0x86 ∷ 0x9F ∷ 0xA0 ∷ 0xA1 ∷ 0x167F ∷ 0x1680 ∷ 0x1681
    ∷ 0x180E ∷ 0x1FFF ∷ 0x2000 ∷ 0x2001 ∷ 0x2002 ∷ 0x2003 ∷ 0x2004 ∷ 0x2005 ∷ 0x2006 ∷ 0x2007 ∷ 0x2008 ∷ 0x2009 ∷ 0x200A ∷ 0x200B
    ∷ 0x2027 ∷ 0x2028 ∷ 0x2029 ∷ 0x202A ∷ 0x202E ∷ 0x202F ∷ 0x2030 ∷ 0x205E ∷ 0x205F ∷ 0x2060 ∷ 0x2FFF ∷ 0x3000 ∷ 0x3001 ∷ 0xFEFF ∷ [])
    (0x9 ∷ 0xA ∷ 0xB ∷ 0xC ∷ 0xD ∷ 0x20 ∷ 0x85 ∷ 0xA0 ∷ 0x1680 ∷ 0x2000 ∷ 0x2001 ∷ 0x2002 ∷ 0x2003 ∷ 0x2004 ∷ 0x2005 ∷ 0x2006
    ∷ 0x2007 ∷ 0x2008 ∷ 0x2009 ∷ 0x200A ∷ 0x2028 ∷ 0x2029 ∷ 0x202F ∷ 0x205F ∷ 0x3000 ∷ [])

-- a line block without addresses, and no source record: 18 bytes
abbrev pub bytes18 : List ℕ
bytes18 = header7 ++ (0x02 ∷ 0x03 ∷ [] ++ zeros7 ++ (0x00 ∷ 0x00 ∷ []))

-- P13, the limit: with (18 - 7) / 2 words it is read
abbrev pub just_enough : Case
just_enough =
    let ws : List ℕ = 0x60000000 ∷ 0xC0000003 ∷ 0xC0000000 ∷ 0xC0000000 ∷ 0x80000000 ∷ [] in
    fills_words bytes18 (9 ∷ 9 ∷ 9 ∷ 9 ∷ 9 ∷ []) (record { number = 0; len = 5; buffer = ws })

abbrev pub one-word-less : Case  -- P13, the limit: with a word less it "gives 3"
one-word-less = fills_words bytes18 (9 ∷ 9 ∷ 9 ∷ 9 ∷ []) (record { number = 3; len = 0; buffer = 9 ∷ 9 ∷ 9 ∷ 9 ∷ [] })

-- P13, the order: 10 comes before 3, so that below 7 bytes a buffer without words is enough
abbrev pub no_room : Case
no_room = fills_words (0x6F ∷ 0x62 ∷ 0x6A ∷ 0x21 ∷ 0x10 ∷ 0x00 ∷ []) [] (record { number = 10; len = 0; buffer = [] })

-- P8, the order: a block's cells are asked before its address is looked for, 24 before 25
abbrev pub plus_in_a_block_twice : Case
plus_in_a_block_twice = reads-text (ascii "LC-3 OBJ FILE\n.TEXT\n3000\n0\n3000\n+0") (refused 24)

-- P8, the order: 27 before the label table's 26
abbrev pub plus_without_bars : Case
plus_without_bars = reads-text (ascii "LC-3 OBJ FILE\n.DEBUG\nLABEL | INDEX\nA | +5") (refused 27)

-- P8, the order: a second line table's rows are asked before whether there may be any, 28 before 29
abbrev pub plus_in_a_second_table : Case
plus_in_a_second_table =
    let table : List ℕ = ascii "\n.DEBUG\n=\nLINE | ADDR | SOURCE\n" in
    reads-text (ascii "LC-3 OBJ FILE" ++ table ++ ascii "0 | ????\n=" ++ table ++ ascii "+0 | ????\n=") (refused 28)

-- P8, what is no number cell: a name, as it was; and "Leading zeros stay welcome", 30 of them too
abbrev pub plus_in_a_name : Case
plus_in_a_name =
    reads-text (ascii "LC-3 OBJ FILE\n.DEBUG\nLABEL | INDEX\n+A | 0000000000000000000000000000005\n=\n=")
    (given (0x40000000 ∷ 0xC0000005 ∷ 0xC0000000 ∷ 0xC0000000 ∷ 0xE200412B ∷ []))

-- P8, what is no number cell: a line of the source, as it was
abbrev pub plus_in_the_source : Case
plus_in_the_source =
    reads-text (ascii "LC-3 OBJ FILE\n.DEBUG\n=\nLINE | ADDR | SOURCE\n00 | ???? | +1\n=") (given (0x80000000 ∷ 0xE200312B ∷ []))

-- P8, which cells are number cells, as no law shows: that none begins with `+` would hold of fewer too
abbrev pub number_cells_lem : Case
number_cells_lem =
    number_cells_of text297
    (ascii "3000" ∷ ascii "2" ∷ ascii "1234" ∷ ascii "????" ∷ ascii "3001" ∷ ascii "0" ∷ ascii "3001" ∷ ascii "5" ∷ ascii "0" ∷ ascii "????"
    ∷ ascii "1" ∷ ascii "3000" ∷ ascii "2" ∷ ascii "????" ∷ [])

-- THE TABLE
abbrev pub marked : List Case
marked =
    words_to_bytes ∷ bytes_back ∷ bytes_to_words ∷ printing ∷ header_alone ∷ six_header-bytes ∷ equal_addresses-binary ∷ equal_addresses-text
    ∷ block_twice_binary ∷ block_twice_text ∷ flag_01 ∷ plus_0FF ∷ one_bar ∷ lines_1_and_3 ∷ lines_1_and_2 ∷ white_space ∷ just_enough
    ∷ one-word-less ∷ no_room ∷ plus_in_a_block_twice ∷ plus_without_bars ∷ plus_in_a_second_table ∷ plus_in_a_name
    ∷ plus_in_the_source ∷ number_cells_lem ∷ []

abbrev pub MarkedHold : Type 0  -- "gathered in a table that one proposition covers"
MarkedHold = All Holds marked
