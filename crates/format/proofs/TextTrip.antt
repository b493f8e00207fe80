-- A text trip: what the text writer writes of a fair object, the text reader reads as that object. Assumes nothing.
use mathlib.Core.Path.{◌≡◌, refl, sym, ◌∙◌, ap}
use mathlib.Core.Bool.{true, and-false}
use mathlib.Core.List.{List, [], ◌∷◌, ◌++◌, map, append_assoc, append-nil, flat_map}
use mathlib.Core.Option.{Option, none, some}
use Prim.Native.Nat.{ℕ, ◌^◌, ◌≤◌, ◌<◌}
use native.Mathlib.Omega.{arith}
use lib.ListN.{length}
use Rattle.format.specs.Basics.{given, ascii, begins_with, is_empty, every, eqs, All, is_some}
use Rattle.format.specs.Tokens.{fold_outcome, parts_at}
use Rattle.format.specs.Sorted.{at_key, upsert_all}
use Rattle.format.proofs.SortedLaws.{Rises}
use Rattle.format.proofs.GatherLaws.{Distinct, rises_distinct, sorted_back, reordered_at_key}
use Rattle.format.specs.Utf8.{is_utf8}
use Rattle.format.specs.ObjectFile.{Block, Label, LineBlock, Relocation, ObjectFile, block_key, label_key, relocation_key, never_fall, source_text}
use Rattle.format.specs.Records.{empty_object, drop_stray_relocations, concluded, ask_all}
use Rattle.format.specs.TextWriter.{text_line, blocks_only, symbol_groups, text_file, by_address, by_start}
use Rattle.format.specs.TextReader.{kept_lines, after_magic, parse_group, parse_text_group, parse_symbol_group, parse_linker_group, parse_debug_group, is_bar, text_object}
use Rattle.format.specs.Calls.{Reordered}
use Rattle.format.proofs.ListLaws.{every-all, all_map, all_both, flat_map-append, all_reordered, unchanged}
use Rattle.format.proofs.ListFacts.{all_of}
use Rattle.format.proofs.Utf8Laws.{Text, text_of}
use Rattle.format.proofs.RowLaws.{good_name}
use Rattle.format.proofs.RisesLaws.{reordered_sorted}
use Rattle.format.proofs.OrderLaws.{distinct_front}
use Rattle.format.proofs.BlockTrip.{TextBlock, block_rows, blocks-back, blocks_ordinary, blocks-lines}
use Rattle.format.proofs.LabelTrip.{TextLabel, TextRelocation, unplaced, symbol_lines, symbol-lines, symbols_back, index_lines, index_lines_lem, indices_back, linker_lines, linker-lines, linker-back, placing_known, labels-back}
use Rattle.format.specs.Fair.{FairName, FairParts}
use Rattle.format.proofs.Ranges.{WellFormed, InRange, Word16}
use Rattle.format.proofs.FairLaws.{of_names, consistent-parts, fair-source, fair-blocks}
use Rattle.format.proofs.DebugTrip.{first_of, debug_tables, line_lines, line-lines, lines-back, lines_ordinary, fair_spaced}
use Rattle.format.proofs.TableLaws.{symbols_ordinary, linkers_ordinary, indices_ordinary, indices_no_bars, blocks_end}
use Rattle.format.proofs.RunLaws.{Spaced}
use Rattle.format.specs.Source.{line_count, newlines}
use Rattle.format.proofs.FileLaws.{title, comment, bar_line, is_header, debug_rows, full_file, full_body, full_utf8, full_body_lem, full-parts, short_utf8, short_body, short-parts}

-- the reader's path
text_path :
    (bs : List ℕ) (ls : List (List ℕ)) (gs : List (List ℕ × List (List ℕ))) (h : ObjectFile) → is_utf8 bs ≡ true → after_magic (kept_lines bs) ≡ given ls
    → parts_at is_header ls ≡ record { before = []; groups = gs } → fold_outcome parse_group empty_object gs ≡ given h → every (λ l. never_fall l.addresses) h.line_blocks ≡ true
    → text_object bs ≡ given (drop_stray_relocations h)
unfolding text_object is_empty concluded drop_stray_relocations ask_all is_some
text_path bs ls gs h h1 h2 h3 h4 h5 = rw (h1, h2, h3, h4, h5)

group_text : (h : ObjectFile) (ls : List (List ℕ)) → parse_group h (ascii ".TEXT", ls) ≡ parse_text_group h ls
unfolding parse_group eqs ascii
group_text h ls = refl

group_symbol : (h : ObjectFile) (ls : List (List ℕ)) → parse_group h (ascii ".SYMBOL", ls) ≡ parse_symbol_group h ls
unfolding parse_group eqs ascii
group_symbol h ls = refl

group_linker : (h : ObjectFile) (ls : List (List ℕ)) → parse_group h (ascii ".LINKER_INFO", ls) ≡ parse_linker_group h ls
unfolding parse_group eqs ascii
group_linker h ls = refl

group_debug : (h : ObjectFile) (ls : List (List ℕ)) → parse_group h (ascii ".DEBUG", ls) ≡ parse_debug_group h ls
unfolding parse_group eqs ascii
group_debug h ls = refl

-- the file as lines
joined_line : (l : List ℕ) (ys : List (List ℕ)) (zs : List ℕ) → flat_map text_line ys ≡ zs → flat_map text_line (l ∷ ys) ≡ text_line l ++ zs
unfolding flat_map
joined_line l ys zs e = ap (λ (r : List ℕ). text_line l ++ r) e

joined-rows : (xs ys : List (List ℕ)) (zs : List ℕ) → flat_map text_line ys ≡ zs → flat_map text_line (xs ++ ys) ≡ flat_map text_line xs ++ zs
joined-rows xs ys zs e = flat_map-append text_line xs ys ∙ ap (λ (r : List ℕ). flat_map text_line xs ++ r) e

nothing-joined : flat_map text_line [] ≡ []
unfolding flat_map
nothing-joined = refl

regroup :
    (a b c d e f g h i j k l m n o p q r : List ℕ)
    → a ++ b ++ c ++ d ++ e ++ (f ++ g ++ h ++ i ++ j ++ k ++ l ++ m ++ n ++ o ++ p ++ (q ++ r))
    ≡ a ++ (b ++ (c ++ (d ++ (e ++ (f ++ (g ++ (h ++ (i ++ (j ++ (k ++ (l ++ (m ++ (n ++ (o ++ (p ++ (q ++ (r ++ [])))))))))))))))))
regroup a b c d e f g h i j k l m n o p q r = simp (append_assoc, append-nil)

module _ (bl sy li ix ln : List (List ℕ)) where
  whole_file :
      text_line title ++ text_line [] ++ text_line (ascii ".TEXT") ++ flat_map text_line bl ++ text_line []
      ++ (text_line (ascii ".SYMBOL") ++ flat_map text_line sy ++ text_line [] ++ text_line (ascii ".LINKER_INFO") ++ flat_map text_line li ++ text_line [] ++ text_line (ascii ".DEBUG") ++ text_line comment ++ text_line [] ++ flat_map text_line ix ++ text_line bar_line
      ++ (flat_map text_line ln ++ text_line bar_line))
      ≡ flat_map text_line (full_file bl sy li ix ln)
  whole_file =
      regroup (text_line title) (text_line []) (text_line (ascii ".TEXT")) (flat_map text_line bl) (text_line []) (text_line (ascii ".SYMBOL")) (flat_map text_line sy) (text_line []) (text_line (ascii ".LINKER_INFO")) (flat_map text_line li) (text_line []) (text_line (ascii ".DEBUG")) (text_line comment) (text_line []) (flat_map text_line ix) (text_line bar_line) (flat_map text_line ln) (text_line bar_line)
      ∙ sym
      (joined_line title _ _ (joined_line [] _ _ (joined_line (ascii ".TEXT") _ _ (joined-rows bl _ _
      (joined_line [] _ _ (joined_line (ascii ".SYMBOL") _ _ (joined-rows sy _ _
      (joined_line [] _ _ (joined_line (ascii ".LINKER_INFO") _ _ (joined-rows li _ _
      (joined_line [] _ _ (joined_line (ascii ".DEBUG") _ _ (joined_line comment _ _ (joined_line [] _ _ (joined-rows ix _ _
      (joined_line bar_line _ _ (joined-rows ln _ _ (joined_line bar_line [] [] nothing-joined))))))))))))))))))

module _ (bs : List Block) (ls : List Label) (ms : List LineBlock) (s : List ℕ) (rs : List Relocation) where
  abbrev pub with_source : ObjectFile
  with_source = record { blocks = bs; labels = ls; line_blocks = ms; source = some s; relocations = rs }

  abbrev lines_written : List (List ℕ)
  lines_written = full_file (flat_map block_rows bs) (symbol_lines ls) (linker_lines rs) (index_lines ls) (line_lines s ms)

  file_lines : text_file with_source ≡ flat_map text_line lines_written
  unfolding text_file blocks_only symbol_groups is_some
  file_lines =
      rw (and-false (is_empty ls), blocks-lines bs, symbol-lines ls, linker-lines rs, index_lines_lem ls, line-lines s ms)
      (whole_file (flat_map block_rows bs) (symbol_lines ls) (linker_lines rs) (index_lines ls) (line_lines s ms))

  module _
      (rb : Rises block_key bs) (rl : Rises label_key ls) (rr : Rises relocation_key rs) (ib : All TextBlock bs) (il : All TextLabel ls) (ir : All TextRelocation rs) (x : Text s) (small : line_count s ≤ 2 ^ 64)
      (sp : Spaced 0 (line_count s) ms) (iw : All (λ l. All (λ a. a < 2 ^ 16) l.addresses) ms) (nf : every (λ l. never_fall l.addresses) ms ≡ true) where
    distinct : Distinct label_key ls
    distinct = rises_distinct label_key ls rl

    by_address_lem : Reordered ls (by_address ls)
    by_address_lem = reordered_sorted (λ m. m.address ∷ m.name) ls (distinct_front label_key (λ m. m.address) ls distinct)

    by_start_lem : Reordered ls (by_start ls)
    by_start_lem = reordered_sorted (λ m. m.start ∷ m.name) ls (distinct_front label_key (λ m. m.start) ls distinct)

    address_in_lem : All TextLabel (by_address ls)
    address_in_lem = all_reordered TextLabel by_address_lem il

    start_in : All TextLabel (by_start ls)
    start_in = all_reordered TextLabel by_start_lem il

    abbrev h1 : ObjectFile
    h1 = record { blocks = bs; labels = []; line_blocks = []; source = none; relocations = [] }

    abbrev h2 : ObjectFile
    h2 = record { blocks = bs; labels = upsert_all label_key (map unplaced (by_address ls)) []; line_blocks = []; source = none; relocations = [] }

    abbrev h3 : ObjectFile
    h3 = record { blocks = bs; labels = upsert_all label_key (map unplaced (by_address ls)) []; line_blocks = []; source = none; relocations = rs }

    abbrev h4 : ObjectFile
    h4 = record { blocks = bs; labels = ls; line_blocks = []; source = none; relocations = rs }

    read-blocks : parse_group empty_object (ascii ".TEXT", flat_map block_rows bs) ≡ given h1
    unfolding empty_object at_key
    read-blocks = group_text empty_object (flat_map block_rows bs) ∙ blocks-back empty_object bs rb ib (all_of (λ b. refl) bs) ∙ rw (sorted_back block_key bs bs rb (unchanged bs))

    read_symbols : parse_group h1 (ascii ".SYMBOL", symbol_lines ls) ≡ given h2
    unfolding at_key
    read_symbols = group_symbol h1 (symbol_lines ls) ∙ symbols_back h1 ls (reordered_at_key label_key by_address_lem distinct).1 address_in_lem (all_of (λ m. refl) (by_address ls))

    read-linker : parse_group h2 (ascii ".LINKER_INFO", linker_lines rs) ≡ given h3
    read-linker = group_linker h2 (linker_lines rs) ∙ linker-back h2 rs ir ∙ rw (sorted_back relocation_key rs rs rr (unchanged rs))

    bar_is : is_bar bar_line ≡ true
    unfolding ascii begins_with
    bar_is = refl

    read_debug : parse_group h3 (ascii ".DEBUG", debug_rows (flat_map block_rows bs) (symbol_lines ls) (linker_lines rs) (index_lines ls) (line_lines s ms)) ≡ given with_source
    unfolding is_some
    read_debug =
        group_debug h3 (debug_rows (flat_map block_rows bs) (symbol_lines ls) (linker_lines rs) (index_lines ls) (line_lines s ms))
        ∙ debug_tables h3 (index_lines ls) (line_lines s ms) bar_line (indices_no_bars ls start_in) bar_is
        ∙ rw
        (indices_back h3 ls (reordered_at_key label_key by_start_lem distinct).1 start_in (placing_known ls (by_address ls) (by_start ls) rl by_address_lem by_start_lem), labels-back ls (by_address ls) (by_start ls) rl by_address_lem by_start_lem)
        (lines-back s ms x small sp iw h4 refl)

    read-groups :
        fold_outcome parse_group empty_object ((ascii ".TEXT", flat_map block_rows bs) ∷ (ascii ".SYMBOL", symbol_lines ls) ∷ (ascii ".LINKER_INFO", linker_lines rs) ∷ (ascii ".DEBUG", debug_rows (flat_map block_rows bs) (symbol_lines ls) (linker_lines rs) (index_lines ls) (line_lines s ms)) ∷ [])
        ≡ given with_source
    unfolding fold_outcome
    read-groups = rw (read-blocks, read_symbols, read-linker, read_debug)

    stays : drop_stray_relocations with_source ≡ with_source
    unfolding drop_stray_relocations is_some
    stays = rw (and-false (is_empty ls))

    pub source-trip : text_object (text_file with_source) ≡ given with_source
    source-trip =
        let ob = blocks_ordinary bs ib in
        let os = symbols_ordinary ls address_in_lem in
        let ol = linkers_ordinary rs ir in
        let oi = indices_ordinary ls start_in in
        let on = lines_ordinary s ms x small sp iw in
        let bl : List (List ℕ) = flat_map block_rows bs in
        ap text_object file_lines
        ∙ text_path (flat_map text_line lines_written) (full_body bl (symbol_lines ls) (linker_lines rs) (index_lines ls) (line_lines s ms))
        ((ascii ".TEXT", bl) ∷ (ascii ".SYMBOL", symbol_lines ls) ∷ (ascii ".LINKER_INFO", linker_lines rs) ∷ (ascii ".DEBUG", debug_rows bl (symbol_lines ls) (linker_lines rs) (index_lines ls) (line_lines s ms)) ∷ [])
        with_source (full_utf8 bl (symbol_lines ls) (linker_lines rs) (index_lines ls) (line_lines s ms) ob os ol oi on) (full_body_lem bl (symbol_lines ls) (linker_lines rs) (index_lines ls) (line_lines s ms) ob os ol oi on)
        (full-parts bl (symbol_lines ls) (linker_lines rs) (index_lines ls) (line_lines s ms) ob os ol oi on) read-groups nf
        ∙ ap (λ (r : ObjectFile). given r) stays

-- blocks only
module _ (bs : List Block) where
  abbrev pub only_blocks : ObjectFile
  only_blocks = record { blocks = bs; labels = []; line_blocks = []; source = none; relocations = [] }

  short-lines : text_file only_blocks ≡ flat_map text_line (title ∷ [] ∷ ascii ".TEXT" ∷ flat_map block_rows bs) ++ 0x0A ∷ []
  unfolding text_file blocks_only is_some is_empty flat_map
  short-lines =
      rw (blocks-lines bs)
      (append-nil (text_line title ++ text_line [] ++ text_line (ascii ".TEXT") ++ flat_map text_line (flat_map block_rows bs) ++ text_line [])
      ∙ ap (λ (r : List ℕ). r ++ 0x0A ∷ []) (three (text_line title) (text_line []) (text_line (ascii ".TEXT")) (flat_map text_line (flat_map block_rows bs))))
    where
      three : (a b c d : List ℕ) → a ++ b ++ c ++ d ≡ a ++ (b ++ (c ++ d))
      three a b c d = simp append_assoc

  pub blocks-trip : Rises block_key bs → All TextBlock bs → text_object (text_file only_blocks) ≡ given only_blocks
  unfolding fold_outcome every drop_stray_relocations is_some is_empty empty_object at_key
  blocks-trip rb ib =
      let ob = blocks_ordinary bs ib in
      let eb = blocks_end bs ib in
      let bl : List (List ℕ) = flat_map block_rows bs in
      let r : parse_group empty_object (ascii ".TEXT", bl) ≡ given only_blocks =
      group_text empty_object bl ∙ blocks-back empty_object bs rb ib (all_of (λ b. refl) bs) ∙ rw (sorted_back block_key bs bs rb (unchanged bs)) in
      ap text_object short-lines
      ∙ text_path (flat_map text_line (title ∷ [] ∷ ascii ".TEXT" ∷ bl) ++ 0x0A ∷ []) (ascii ".TEXT" ∷ bl) ((ascii ".TEXT", bl) ∷ []) only_blocks (short_utf8 bl ob eb) (short_body bl ob eb) (short-parts bl ob eb) (rw r) refl

-- the count is in range too, as the object is consistent
blocks_in : (bs : List Block) → All (λ b. (b.address < 2 ^ 16) × All Word16 b.words) bs → All (λ b. length b.words ≤ 65535) bs → All TextBlock bs
blocks_in bs h e =
    all_map (λ b p. (p.0.0, omega (arith, p.1), p.0.1)) bs (all_both (λ b. (b.address < 2 ^ 16) × All Word16 b.words) (λ b. length b.words ≤ 65535) bs h e)

-- and the names are fair UTF-8
labels_in_lem :
    (ls : List Label) → All (λ l. (l.address < 2 ^ 16) × (l.start < 2 ^ 64)) ls → All (λ l. is_utf8 l.name ≡ true) ls → All (λ l. FairName l.name) ls → All TextLabel ls
labels_in_lem ls h u f =
    all_map (λ l p. (p.0.0, p.0.1, good_name l.name p.1.0 p.1.1)) ls
    (all_both (λ l. (l.address < 2 ^ 16) × (l.start < 2 ^ 64)) (λ l. (is_utf8 l.name ≡ true) × (FairName l.name)) ls h (all_both (λ l. is_utf8 l.name ≡ true) (λ l. FairName l.name) ls u f))

relocations_in_lem :
    (rs : List Relocation) → All (λ r. r.address < 2 ^ 16) rs → All (λ r. is_utf8 r.name ≡ true) rs → All (λ r. FairName r.name) rs → All TextRelocation rs
relocations_in_lem rs h u f =
    all_map (λ r p. (p.0, good_name r.name p.1.0 p.1.1)) rs
    (all_both (λ r. r.address < 2 ^ 16) (λ r. (is_utf8 r.name ≡ true) × (FairName r.name)) rs h (all_both (λ r. is_utf8 r.name ≡ true) (λ r. FairName r.name) rs u f))

-- every fair object that is in range, and whose lines can be numbered
module _ (bs : List Block) (ls : List Label) (ms : List LineBlock) (rs : List Relocation) where
  abbrev object_with : Option (List ℕ) → ObjectFile
  object_with o = record { blocks = bs; labels = ls; line_blocks = ms; source = o; relocations = rs }

  trip_of_lem :
      (o : Option (List ℕ)) → WellFormed (object_with o) → InRange (object_with o) → FairParts (object_with o) → newlines (source_text o) < 2 ^ 64
      → text_object (text_file (object_with o)) ≡ given (object_with o)
  unfolding source_text line_count
  trip_of_lem none w r f n =
      let e = fair-blocks (object_with none) refl f in
      rw (e.labels, e.line-blocks, e.relocations)
      (blocks-trip bs w.blocks (blocks_in bs r.blocks (consistent-parts (object_with none) w.consistent).counts))
  trip_of_lem (some s) w r f n =
      let p = consistent-parts (object_with (some s)) w.consistent in
      let g = fair-source (object_with (some s)) s refl f in
      let names = of_names FairName (object_with (some s)) g.names in
      source-trip bs ls ms s rs w.blocks w.labels w.relocations (blocks_in bs r.blocks p.counts)
      (labels_in_lem ls (all_map (λ l q. (q.0, q.1)) ls r.labels) p.names.labels names.labels)
      (relocations_in_lem rs (all_map (λ x q. q.0) rs r.relocations) p.names.relocations names.relocations) (text_of s p.text) n
      (fair_spaced s ms 0 (omega arith) (starts ms) g.line-blocks g.gaps) (all_map (λ l q. q.1) ms r.line_blocks)
      (every-all (λ l. never_fall l.addresses) ms p.falls)
    where
      starts : (xs : List LineBlock) → All (λ l. 0 ≤ l.first) (first_of xs)
      starts [] = tt
      starts (x ∷ xs) = (omega arith, tt)

pub text-trip :
    (h : ObjectFile) → WellFormed h → InRange h → FairParts h → newlines (source_text h.source) < 2 ^ 64 → text_object (text_file h) ≡ given h
text-trip h = trip_of_lem h.blocks h.labels h.line_blocks h.relocations h.source
