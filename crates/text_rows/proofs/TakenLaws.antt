-- What a group's rows come to in the object: the blocks, the labels and the relocations that it has then. Assumes nothing.
use mathlib.Core.Path.{◌≡◌, refl, sym, ap, ◌∙◌, subst}
use mathlib.Core.Bool.{Bool, true, false, not}
use mathlib.Core.List.{List, [], ◌∷◌, ◌++◌, map, flat_map}
use mathlib.Core.Option.{Option, none, some}
use Prim.Native.Nat.{ℕ, zero, suc, ◌-◌, Ordering}
use lib.ListN.{length, drop, get_or}
use lib.Dec.{eqb}
use borrow.Author.Tests.{eqb-true}
use Rattle.std.specs.Prelude.{if◌then◌else◌}
use Rattle.format.specs.Basics.{Outcome, refused, given, ◌>>=◌, ask, need, and_then, is_some, ascii, is_empty}
use Rattle.format.specs.Utf8.{trim}
use Rattle.format.specs.Tokens.{fold_outcome, scan_tokens}
use Rattle.format.specs.Sorted.{order, by_ordering, upsert, upsert_all, at_key}
use Rattle.format.specs.ObjectFile.{ObjectFile, Block, Label, Relocation, LineBlock, block_key, label_key, relocation_key}
use Rattle.format.specs.Records.{Record, block, label, relocation, line_block, source, put_record, label_named, with_lines}
use Rattle.format.specs.TextReader.{hex2u16, parse_decimal, splitn, same_cells, rows_under, is_bar, split_at_bar, up_to_bar}
use Rattle.format.specs.TextReader.{parse_symbol_row, parse_linker_row, parse_label_row, parse_symbol_group, parse_linker_group, parse_label_table}
use Rattle.format.specs.TextReader.{parse_line_table, parse_line_rows, runs_from, unescape, parse_debug_group, parse_text_group, block_at, parse_group}
use Rattle.format.proofs.Outcomes.{Gives, gives_bind, gives_ask, gives_map, by_if}
use Rattle.text_lines.specs.Groups.{kind_of}
use Rattle.text_lines.proofs.TestLaws.{by_test}
use Rattle.text_blocks.specs.Blocks.{words_in, block_in}
use Rattle.text_blocks.proofs.BlockLaws.{put_new, block_at_lem}
use Rattle.text_tables.proofs.GroupLaws.{by_kind, group_kind}
use Rattle.text_rows.specs.Rows.{or_zero, or_none, first_line, cell_of, count_in, block_row, symbol_row, linker_row, label_row, row_in, row_key, lines_after}
use Rattle.text_rows.specs.Rows.{rows_in, under_header, group_rows, labels_in}
use Rattle.text_rows.proofs.JoinLaws.{Joined, with_symbol, with_start, join_symbol, join_start}

-- an element made of another with the same key is put in its place too
pub upsert-made : {A B : Type 0} (key : A → List ℕ) (key' : B → List ℕ) (f : A → B) (same : (a : A) → key' (f a) ≡ key a) (a : A) (xs : List A)
    → map f (upsert key a xs) ≡ upsert key' (f a) (map f xs)
unfolding upsert
upsert-made key key' f same a [] = refl
upsert-made {A} {B} key key' f same a (x ∷ xs) = go (order (key a) (key x)) (upsert-made key key' f same a xs) ∙ ap (λ (o : Ordering). by_ordering o (f a ∷ f x ∷ map f xs) (f a ∷ map f xs) (f x ∷ upsert key' (f a) (map f xs))) (ap (λ (k : List ℕ). order k (key x)) (sym (same a)) ∙ ap (λ (k : List ℕ). order (key' (f a)) k) (sym (same x)))
  where
    go : (o : Ordering) → map f (upsert key a xs) ≡ upsert key' (f a) (map f xs)
        → map f (by_ordering o (a ∷ x ∷ xs) (a ∷ xs) (x ∷ upsert key a xs)) ≡ by_ordering o (f a ∷ f x ∷ map f xs) (f a ∷ map f xs) (f x ∷ upsert key' (f a) (map f xs))
    go Ordering.lt ih = refl
    go Ordering.eq ih = refl
    go Ordering.gt ih = ap (λ (z : List B). f x ∷ z) ih

upsert-more : {A : Type 0} (key : A → List ℕ) (xs ys acc : List A) → upsert_all key (xs ++ ys) acc ≡ upsert_all key ys (upsert_all key xs acc)
unfolding upsert_all
upsert-more key [] ys acc = refl
upsert-more key (x ∷ xs) ys acc = upsert-more key xs ys (upsert key x acc)

pub labels-more : (rs qs : List Record) → labels_in (rs ++ qs) ≡ labels_in rs ++ labels_in qs
unfolding labels_in
labels-more [] qs = refl
labels-more (block b ∷ rs) qs = labels-more rs qs
labels-more (label l ∷ rs) qs = ap (λ (z : List Label). l ∷ z) (labels-more rs qs)
labels-more (line_block l ∷ rs) qs = labels-more rs qs
labels-more (source s ∷ rs) qs = labels-more rs qs
labels-more (relocation r ∷ rs) qs = labels-more rs qs

-- from one object to another these rows were taken: blocks, symbols, relocations and rows of the label table
pub record Taken (bs ss qs ds : List Record) (h h' : ObjectFile) : Type 0 where
  pub blocks : map block h'.blocks ≡ upsert_all row_key bs (map block h.blocks)
  pub relocations : map relocation h'.relocations ≡ upsert_all row_key qs (map relocation h.relocations)
  pub labels : (xs ys : List Label) → Joined xs ys h.labels
      → Joined (upsert_all label_key (labels_in ss) xs) (upsert_all label_key (labels_in ds) ys) h'.labels

pub taken_none : (h : ObjectFile) → Taken [] [] [] [] h h
unfolding upsert_all labels_in
taken_none h = record { blocks = refl; relocations = refl; labels = λ xs ys j. j }

pub taken_then : (bs ss qs ds bs' ss' qs' ds' : List Record) (h i j : ObjectFile) → Taken bs ss qs ds h i → Taken bs' ss' qs' ds' i j
    → Taken (bs ++ bs') (ss ++ ss') (qs ++ qs') (ds ++ ds') h j
taken_then bs ss qs ds bs' ss' qs' ds' h i j p q =
    record {
      blocks = q.blocks ∙ ap (upsert_all row_key bs') p.blocks ∙ sym (upsert-more row_key bs bs' (map block h.blocks));
      relocations = q.relocations ∙ ap (upsert_all row_key qs') p.relocations ∙ sym (upsert-more row_key qs qs' (map relocation h.relocations));
      labels = λ xs ys k. let z = q.labels _ _ (p.labels xs ys k) in
          subst (λ (v : List Label). Joined v (upsert_all label_key (labels_in (ds ++ ds')) ys) j.labels) (more ss ss' xs)
          (subst (λ (v : List Label). Joined (upsert_all label_key (labels_in ss') (upsert_all label_key (labels_in ss) xs)) v j.labels) (more ds ds' ys) z);
    }
  where
    more : (rs rs' : List Record) (xs : List Label) → upsert_all label_key (labels_in rs') (upsert_all label_key (labels_in rs) xs) ≡ upsert_all label_key (labels_in (rs ++ rs')) xs
    more rs rs' xs = sym (ap (λ (v : List Label). upsert_all label_key v xs) (labels-more rs rs') ∙ upsert-more label_key (labels_in rs) (labels_in rs') xs)

-- ONE ROW
pub put-block : (h : ObjectFile) (b : Block) → Taken (block b ∷ []) [] [] [] h (put_record h (block b))
unfolding upsert_all labels_in put_record row_key
put-block h b = record { blocks = upsert-made block_key row_key block (λ x. refl) b h.blocks; relocations = refl; labels = λ xs ys j. j }

pub put-linker : (h : ObjectFile) (q : Relocation) → Taken [] [] (relocation q ∷ []) [] h (put_record h (relocation q))
unfolding upsert_all labels_in put_record row_key
put-linker h q =
    record { blocks = refl; relocations = upsert-made relocation_key row_key relocation (λ x. refl) q h.relocations; labels = λ xs ys j. j }

pub put-symbol : (h : ObjectFile) (s : Label) → Taken [] (label s ∷ []) [] [] h (put_record h (label (with_symbol s h.labels)))
unfolding upsert_all labels_in put_record
put-symbol h s = record { blocks = refl; relocations = refl; labels = λ xs ys j. join_symbol xs ys h.labels j s }

pub put-start : (h : ObjectFile) (d : Label) → Taken [] [] [] (label d ∷ []) h (put_record h (label (with_start d h.labels)))
unfolding upsert_all labels_in put_record
put-start h d = record { blocks = refl; relocations = refl; labels = λ xs ys j. join_start xs ys h.labels j d }

-- A TABLE'S ROWS, one after the other; T says what its rows did to the object
module _ (T : List Record → ObjectFile → ObjectFile → Type 0) (nil : (h : ObjectFile) → T [] h h)
    (more : (r : Record) (rs : List Record) (h i j : ObjectFile) → T (r ∷ []) h i → T rs i j → T (r ∷ rs) h j)
    (one : ObjectFile → List ℕ → Outcome ObjectFile) (row : List ℕ → Record) (step : (h : ObjectFile) (l : List ℕ) → Gives (T (row l ∷ []) h) (one h l)) where
  rows_taken : (h : ObjectFile) (ls : List (List ℕ)) → Gives (T (map row ls) h) (fold_outcome one h ls)
  unfolding fold_outcome
  rows_taken h [] = nil h
  rows_taken h (l ∷ ls) =
      gives_bind (T (row l ∷ map row ls) h) (T (row l ∷ []) h) (one h l) _ (step h l) λ i p.
      gives_map (T (map row ls) i) (T (row l ∷ map row ls) h) (λ j q. more (row l) (map row ls) h i j p q) (fold_outcome one i ls) (rows_taken i ls)

  -- under a header
  table_taken : (n : ℕ) (columns : List (List ℕ)) (h : ObjectFile) (ls : List (List ℕ))
      → Gives (T (map row (drop 1 ls)) h) (rows_under n columns ls >>= λ rows. fold_outcome one h rows)
  unfolding rows_under
  table_taken n columns h [] = rows_taken h []
  table_taken n columns h (l ∷ ls) = go (same_cells (map trim (splitn (length columns - 1) l)) columns)
    where
      go : (t : Bool) → Gives (T (map row ls) h) ((ask n t >>= λ _. given ls) >>= λ rows. fold_outcome one h rows)
      go true = rows_taken h ls
      go false = tt

-- .SYMBOL
abbrev Symbols : List Record → ObjectFile → ObjectFile → Type 0
Symbols rs h h' = Taken [] rs [] [] h h'

symbol-step : (h : ObjectFile) (l : List ℕ) → Gives (Symbols (label (symbol_row l) ∷ []) h) (parse_symbol_row h l)
unfolding parse_symbol_row symbol_row cell_of
symbol-step h l = go (hex2u16 (trim (get_or (splitn 2 l) 0 []))) (parse_decimal 256 (trim (get_or (splitn 2 l) 1 [])))
  where
    name : List ℕ
    name = trim (get_or (splitn 2 l) 2 [])

    go : (o p : Option ℕ)
        → Gives (Symbols (label (record { name = name; address = or_zero o; external = not (eqb (or_zero p) 0); start = 0 }) ∷ []) h)
        (need 26 o >>= λ a. need 26 p >>= λ e. given (put_record h (label (record { name = name; address = a; external = not (eqb e 0); start = (label_named name h.labels).start }))))
    go none p = tt
    go (some a) none = tt
    go (some a) (some e) = put-symbol h (record { name = name; address = a; external = not (eqb e 0); start = 0 })

symbols_taken : (h : ObjectFile) (ls : List (List ℕ)) → Gives (Symbols (map (λ l. label (symbol_row l)) (drop 1 ls)) h) (parse_symbol_group h ls)
unfolding parse_symbol_group
symbols_taken h ls =
    table_taken Symbols taken_none (λ r rs h i j p q. taken_then [] (r ∷ []) [] [] [] rs [] [] h i j p q) parse_symbol_row (λ l. label (symbol_row l)) symbol-step 26
    (ascii "ADDR" ∷ ascii "EXT" ∷ ascii "LABEL" ∷ []) h ls

-- .LINKER_INFO
abbrev Linkers : List Record → ObjectFile → ObjectFile → Type 0
Linkers rs h h' = Taken [] [] rs [] h h'

linker-step : (h : ObjectFile) (l : List ℕ) → Gives (Linkers (relocation (linker_row l) ∷ []) h) (parse_linker_row h l)
unfolding parse_linker_row linker_row cell_of
linker-step h l = go (hex2u16 (trim (get_or (splitn 1 l) 0 [])))
  where
    name : List ℕ
    name = trim (get_or (splitn 1 l) 1 [])

    go : (o : Option ℕ)
        → Gives (Linkers (relocation (record { address = or_zero o; name = name }) ∷ []) h) (need 26 o >>= λ a. given (put_record h (relocation (record { address = a; name = name }))))
    go none = tt
    go (some a) = put-linker h (record { address = a; name = name })

linkers_taken : (h : ObjectFile) (ls : List (List ℕ)) → Gives (Linkers (map (λ l. relocation (linker_row l)) (drop 1 ls)) h) (parse_linker_group h ls)
unfolding parse_linker_group
linkers_taken h ls =
    table_taken Linkers taken_none (λ r rs h i j p q. taken_then [] [] (r ∷ []) [] [] [] rs [] h i j p q) parse_linker_row (λ l. relocation (linker_row l)) linker-step 26
    (ascii "ADDR" ∷ ascii "LABEL" ∷ []) h ls

-- .DEBUG: its label table, and then its line table, which leaves these parts as they are
abbrev Starts : List Record → ObjectFile → ObjectFile → Type 0
Starts rs h h' = Taken [] [] [] rs h h'

start-step : (h : ObjectFile) (l : List ℕ) → Gives (Starts (label (label_row l) ∷ []) h) (parse_label_row h l)
unfolding parse_label_row label_row cell_of
start-step h l = go (parse_decimal 18446744073709551616 (trim (get_or (splitn 1 l) 1 [])))
  where
    name : List ℕ
    name = trim (get_or (splitn 1 l) 0 [])

    go : (o : Option ℕ)
        → Gives (Starts (label (record { name = name; address = 0; external = false; start = or_zero o }) ∷ []) h)
        (need 26 o >>= λ i. given (put_record h (label (record { name = name; address = (label_named name h.labels).address; external = (label_named name h.labels).external; start = i }))))
    go none = tt
    go (some i) = put-start h (record { name = name; address = 0; external = false; start = i })

starts_taken : (h : ObjectFile) (ls : List (List ℕ)) → Gives (Starts (map (λ l. label (label_row l)) (drop 1 ls)) h) (parse_label_table h ls)
unfolding parse_label_table
starts_taken h ls =
    table_taken Starts taken_none (λ r rs h i j p q. taken_then [] [] [] (r ∷ []) [] [] [] rs h i j p q) parse_label_row (λ l. label (label_row l)) start-step 26
    (ascii "LABEL" ∷ ascii "INDEX" ∷ []) h ls

taken_lines : (h : ObjectFile) (ls : List LineBlock) (s : Option (List ℕ)) → Taken [] [] [] [] h (with_lines h ls s)
unfolding upsert_all labels_in
taken_lines h ls s = record { blocks = refl; relocations = refl; labels = λ xs ys j. j }

-- whatever was given before
pub gives_after : {A B : Type 0} (Q : B → Type 0) (o : Outcome A) (f : A → Outcome B) → ((a : A) → Gives Q (f a)) → Gives Q (o >>= f)
gives_after Q (refused n) f k = tt
gives_after Q (given a) f k = k a

lines_taken : (h : ObjectFile) (ls : List (List ℕ)) → Gives (Taken [] [] [] [] h) (parse_line_table h ls)
unfolding parse_line_table
lines_taken h ls =
    gives_after P (rows_under 28 (ascii "LINE" ∷ ascii "ADDR" ∷ ascii "SOURCE" ∷ []) ls) _ λ rows.
    gives_after P (parse_line_rows 0 rows) _ λ parsed.
    by_if (Gives P) (is_empty parsed) (given h) _ (λ _. taken_none h)
    (λ _. gives_ask P 29 (not (is_some h.source)) _ λ _.
    gives_after P (unescape (flat_map (λ (r : Option ℕ × List ℕ). r.1) parsed)) _ λ s.
    taken_lines h (runs_from 0 [] (map (λ (r : Option ℕ × List ℕ). r.0) parsed)) (some s))
  where
    P : ObjectFile → Type 0
    P = Taken [] [] [] [] h

starts-only : (rs : List Record) (h i j : ObjectFile) → Starts rs h i → Taken [] [] [] [] i j → Starts rs h j
unfolding upsert_all labels_in
starts-only rs h i j p q = record { blocks = q.blocks ∙ p.blocks; relocations = q.relocations ∙ p.relocations; labels = λ xs ys k. q.labels _ _ (p.labels xs ys k) }

debug_taken : (h : ObjectFile) (ls : List (List ℕ)) → Gives (Starts (map (λ l. label (label_row l)) (drop 1 (split_at_bar ls).before)) h) (parse_debug_group h ls)
unfolding parse_debug_group split_at_bar
debug_taken h [] = taken_none h
debug_taken h (l ∷ ls) = go (split_at_bar (l ∷ ls)).before (split_at_bar (l ∷ ls)).after
  where
    last : (rs : List Record) (xs : List (List ℕ)) (i : ObjectFile) → Starts rs h i → Gives (Starts rs h) (parse_line_table i xs)
    last rs xs i p = gives_map (Taken [] [] [] [] i) (Starts rs h) (λ j q. starts-only rs h i j p q) (parse_line_table i xs) (lines_taken i xs)

    two : (before rows : List (List ℕ)) → Gives (Starts (map (λ l. label (label_row l)) (drop 1 before)) h) (parse_label_table h before >>= λ i. parse_line_table i rows)
    two before rows = gives_bind (Starts (map (λ l. label (label_row l)) (drop 1 before)) h) (Starts (map (λ l. label (label_row l)) (drop 1 before)) h) (parse_label_table h before) _ (starts_taken h before) (last _ rows)

    rest : (before : List (List ℕ)) (u : Option (List (List ℕ))) → Gives (Starts (map (λ l. label (label_row l)) (drop 1 before)) h) (need 27 u >>= λ rows. parse_label_table h before >>= λ i. parse_line_table i rows)
    rest before none = tt
    rest before (some rows) = two before rows

    go : (before : List (List ℕ)) (after : Option (List (List ℕ))) → Gives (Starts (map (λ l. label (label_row l)) (drop 1 before)) h) (need 27 after >>= λ a. need 27 (up_to_bar a) >>= λ rows. parse_label_table h before >>= λ i. parse_line_table i rows)
    go before none = tt
    go before (some a) = rest before (up_to_bar a)

-- .TEXT, block by block
put-new : (h : ObjectFile) (b : Block) (n : ℕ) → Gives (λ p. Taken (block b ∷ []) [] [] [] h p.0 × (p.1 ≡ suc n)) (put_new h (b, n))
unfolding put_new
put-new h b n =
    gives_ask (λ (p : ObjectFile × ℕ). Taken (block b ∷ []) [] [] [] h p.0 × (p.1 ≡ suc n)) 25
    (not (is_some (at_key block_key (b.address ∷ []) h.blocks))) (given (put_record h (block b), suc n)) (λ _. (put-block h b, refl))

block-step : (h : ObjectFile) (l : List ℕ) (ls : List (List ℕ))
    → Gives (λ p. Taken (block (block_row (l ∷ ls)) ∷ []) [] [] [] h p.0 × (p.1 ≡ suc (count_in ls))) (block_at h (l ∷ ls))
unfolding block_row count_in first_line block_in
block-step h l [] = subst (Gives (λ p. Taken (block (block_row (l ∷ [])) ∷ []) [] [] [] h p.0 × (p.1 ≡ suc (count_in [])))) (sym (block_at_lem h l [])) tt
block-step h l (c ∷ ls) =
    subst (Gives (λ p. Taken (block (block_row (l ∷ c ∷ ls)) ∷ []) [] [] [] h p.0 × (p.1 ≡ suc (count_in (c ∷ ls))))) (sym (block_at_lem h l (c ∷ ls)))
    (go (hex2u16 l) (parse_decimal 65536 c))
  where
    P : ℕ → ℕ → List (Option ℕ) → ObjectFile × ℕ → Type 0
    P a n ws p = Taken (block (record { address = a; words = ws }) ∷ []) [] [] [] h p.0 × (p.1 ≡ suc n)

    last : (a n : ℕ) (o : Option (List (Option ℕ))) → Gives (P a n (or_none o)) (need 24 (and_then o λ ws. some (record { address = a; words = ws }, n)) >>= λ p. put_new h p)
    last a n none = tt
    last a n (some ws) = put-new h (record { address = a; words = ws }) n

    go : (o p : Option ℕ) → Gives (P (or_zero o) (or_zero p) (or_none (words_in (or_zero p) ls)))
        (need 24 (and_then o λ a. and_then p λ n. and_then (words_in n ls) λ ws. some (record { address = a; words = ws }, n)) >>= λ p. put_new h p)
    go none p = tt
    go (some a) none = tt
    go (some a) (some n) = last a n (words_in n ls)

blocks_taken : (h : ObjectFile) (k : ℕ) (ls : List (List ℕ)) → Gives (Taken (rows_in 0 k ls) [] [] [] h) (scan_tokens block_at h k ls)
unfolding scan_tokens rows_in row_in lines_after
blocks_taken h zero [] = taken_none h
blocks_taken h (suc k) [] = taken_none h
blocks_taken h (suc k) (l ∷ ls) = blocks_taken h k ls
blocks_taken h zero (l ∷ ls) =
    let b = block (block_row (l ∷ ls)) in
    gives_bind (Taken (b ∷ rows_in 0 (suc (count_in ls)) ls) [] [] [] h) (λ p. Taken (b ∷ []) [] [] [] h p.0 × (p.1 ≡ suc (count_in ls))) (block_at h (l ∷ ls)) _ (block-step h l ls) λ p q.
    gives_map (Taken (rows_in 0 p.1 ls) [] [] [] p.0) (Taken (b ∷ rows_in 0 (suc (count_in ls)) ls) [] [] [] h)
    (λ j z. subst (λ (n : ℕ). Taken (b ∷ rows_in 0 n ls) [] [] [] h j) q.1 (taken_then (b ∷ []) [] [] [] (rows_in 0 p.1 ls) [] [] [] h p.0 j q.0 z))
    (scan_tokens block_at p.0 p.1 ls) (blocks_taken p.0 p.1 ls)

-- A GROUP: the rows of its kind are those of its table
pub symbol-rows : (ls : List (List ℕ)) → rows_in 1 0 ls ≡ map (λ l. label (symbol_row l)) ls
unfolding rows_in row_in lines_after first_line
symbol-rows [] = refl
symbol-rows (l ∷ ls) = ap (λ (z : List Record). label (symbol_row l) ∷ z) (symbol-rows ls)

linker-rows : (ls : List (List ℕ)) → rows_in 2 0 ls ≡ map (λ l. relocation (linker_row l)) ls
unfolding rows_in row_in lines_after first_line
linker-rows [] = refl
linker-rows (l ∷ ls) = ap (λ (z : List Record). relocation (linker_row l) ∷ z) (linker-rows ls)

pub start-rows : (ls : List (List ℕ)) → rows_in 3 0 ls ≡ map (λ l. label (label_row l)) (split_at_bar ls).before
unfolding rows_in row_in lines_after first_line split_at_bar
start-rows [] = refl
start-rows (l ∷ ls) = by_test (is_bar l) (λ t. simp t) (λ t. simp t (ap (λ (z : List Record). label (label_row l) ∷ z) (start-rows ls)))

under_symbols : (ls : List (List ℕ)) → map (λ l. label (symbol_row l)) (drop 1 ls) ≡ rows_in 1 0 (under_header 1 ls)
unfolding under_header
under_symbols [] = sym (symbol-rows [])
under_symbols (l ∷ ls) = sym (symbol-rows ls)

under_linkers : (ls : List (List ℕ)) → map (λ l. relocation (linker_row l)) (drop 1 ls) ≡ rows_in 2 0 (under_header 2 ls)
unfolding under_header
under_linkers [] = sym (linker-rows [])
under_linkers (l ∷ ls) = sym (linker-rows ls)

under_starts : (ls : List (List ℕ)) → map (λ l. label (label_row l)) (drop 1 (split_at_bar ls).before) ≡ rows_in 3 0 (under_header 3 ls)
unfolding under_header split_at_bar
under_starts [] = sym (start-rows [])
under_starts (l ∷ ls) = by_test (is_bar l) (λ t. simp t (sym (start-rows []))) (λ t. simp t (sym (start-rows ls)))

under_blocks : (ls : List (List ℕ)) → under_header 0 ls ≡ ls
unfolding under_header
under_blocks [] = refl
under_blocks (l ∷ ls) = refl

module _ (h : ObjectFile) (ls : List (List ℕ)) where
  abbrev rows_for : ℕ → ℕ → List Record
  rows_for k j = if eqb k j then rows_in j 0 (under_header j ls) else []

  abbrev TakenAs : ℕ → ObjectFile → Type 0
  TakenAs k = Taken (rows_for k 0) (rows_for k 1) (rows_for k 2) (rows_for k 3) h

  kind_taken : (k : ℕ) → Gives (TakenAs k) (by_kind k h ls)
  unfolding by_kind parse_text_group
  kind_taken k =
      by_test (eqb k 0)
      (λ t. at 0 t (subst (λ (rs : List Record). Gives (Taken rs [] [] [] h) (parse_text_group h ls)) (ap (rows_in 0 0) (sym (under_blocks ls))) (blocks_taken h 0 ls)))
      (λ a. by_test (eqb k 1)
      (λ t. at 1 t (subst (λ (rs : List Record). Gives (Symbols rs h) (parse_symbol_group h ls)) (under_symbols ls) (symbols_taken h ls)))
      (λ b. by_test (eqb k 2)
      (λ t. at 2 t (subst (λ (rs : List Record). Gives (Linkers rs h) (parse_linker_group h ls)) (under_linkers ls) (linkers_taken h ls)))
      (λ c. by_test (eqb k 3)
      (λ t. at 3 t (subst (λ (rs : List Record). Gives (Starts rs h) (parse_debug_group h ls)) (under_starts ls) (debug_taken h ls)))
      (λ d. simp (a, b, c, d) tt))))
    where
      at : (j : ℕ) → eqb k j ≡ true → Gives (TakenAs j) (by_kind j h ls) → Gives (TakenAs k) (by_kind k h ls)
      at j t g = subst (λ (i : ℕ). Gives (TakenAs i) (by_kind i h ls)) (sym (eqb-true k j t)) g

group_taken : (h : ObjectFile) (g : List ℕ × List (List ℕ)) → Gives (Taken (group_rows 0 g) (group_rows 1 g) (group_rows 2 g) (group_rows 3 g) h) (parse_group h g)
unfolding group_rows
group_taken h g = subst (Gives (Taken (group_rows 0 g) (group_rows 1 g) (group_rows 2 g) (group_rows 3 g) h)) (sym (group_kind h g.0 g.1)) (kind_taken h g.1 (kind_of g.0))

abbrev pub TakenOf : List (List ℕ × List (List ℕ)) → ObjectFile → ObjectFile → Type 0
TakenOf gs = Taken (flat_map (group_rows 0) gs) (flat_map (group_rows 1) gs) (flat_map (group_rows 2) gs) (flat_map (group_rows 3) gs)

-- THE GROUPS, one after the other
pub groups_taken : (h : ObjectFile) (gs : List (List ℕ × List (List ℕ))) → Gives (TakenOf gs h) (fold_outcome parse_group h gs)
unfolding fold_outcome flat_map
groups_taken h [] = taken_none h
groups_taken h (g ∷ gs) =
    gives_bind (TakenOf (g ∷ gs) h) (Taken (group_rows 0 g) (group_rows 1 g) (group_rows 2 g) (group_rows 3 g) h) (parse_group h g) _ (group_taken h g) λ i p.
    gives_map (TakenOf gs i) (TakenOf (g ∷ gs) h) (λ j q. taken_then _ _ _ _ _ _ _ _ h i j p q) (fold_outcome parse_group i gs) (groups_taken i gs)
