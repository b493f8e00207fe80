-- Each row that is written reads back. Assumes nothing.
use mathlib.Core.Path.{◌≡◌, refl, sym, ◌∙◌, ap}
use mathlib.Core.Bool.{Bool, true, false, not}
use mathlib.Core.List.{List, [], ◌∷◌, ◌++◌, map, append_assoc}
use mathlib.Core.Option.{Option, none, some}
use Prim.Native.Nat.{ℕ, zero, suc, ◌-◌, ◌^◌, ◌<◌}
use native.Mathlib.Omega.{arith}
use lib.ListN.{length}
use lib.Dec.{eqb}
use borrow.Author.Tests.{ne_eqb, eq-eqb}
use Rattle.format.specs.Basics.{given, ascii, begins_with, is_empty, All}
use Rattle.format.specs.Digits.{digits_of}
use Rattle.format.specs.Utf8.{is_utf8, is_blank, trim, characters}
use Rattle.format.specs.ObjectFile.{Label, Relocation, ObjectFile}
use Rattle.format.specs.Fair.{FairName}
use Rattle.format.specs.Records.{label, relocation, put_record, label_named}
use Rattle.format.specs.Words.{flag_bit}
use Rattle.format.specs.TextWriter.{line_row, symbol_row, linker_row, label_row, spaces, to_right, to_left, table_div, memory_text, hex4, decimal, Row}
use Rattle.format.specs.TextReader.{hex2u16, parse_decimal, maybe_hex2u16, splitn, parse_symbol_row, parse_linker_row, parse_label_row, parse_line_rows}
use Rattle.format.proofs.TextLaws.{OneLine}
use Rattle.format.proofs.ListLaws.{all_map}
use Rattle.format.proofs.NumeralBack.{Numeric, Full, hex_back, hex_numeric, decimal-back, decimal_numeric, entry-back, entry_numeric}
use Rattle.format.proofs.Ranges.{Word16}
use Rattle.format.proofs.Utf8Laws.{Text, text_of, text-append, text-ascii}
use Rattle.format.proofs.TrimLaws.{Solid, numeric_visible, visible_solid, solid_name, solid_line, trim_solid, trim-left, trim_right, visible_in}
use Rattle.format.proofs.EscapeLaws.{Printable}
use Rattle.format.proofs.LineLaws.{one-line-append, printable_line, row_kept, starts-not, is_kept}
use Rattle.format.proofs.CellLaws.{Undivided, starts_bar, cells_1, cells_2, undivided_append, undivided_spaces, undivided_solid, undivided_left}

-- a line that is kept and opens no group
abbrev pub Ordinary : List ℕ → Type 0
Ordinary l = OneLine l × Text l × (is_kept l ≡ true) × (begins_with (ascii ".") l ≡ false)

-- neither # nor . comes first
abbrev pub Starts : List ℕ → Type 0
Starts [] = ⊥
Starts (b ∷ bs) = (b ≡ 0x23 → ⊥) × (b ≡ 0x2E → ⊥)

pub starts-append : (s t : List ℕ) → Starts s → Starts (s ++ t)
starts-append [] t h = absurd h
starts-append (b ∷ bs) t h = h

pub starts-spaces : (k : ℕ) (t : List ℕ) → Starts t → Starts (spaces k ++ t)
starts-spaces zero t h = h
starts-spaces (suc k) t h = (λ e. omega arith, λ e. omega arith)

starts-head : (l : List ℕ) → Starts l → (begins_with (ascii "#") l ≡ false) × (begins_with (ascii ".") l ≡ false)
unfolding ascii
starts-head [] h = absurd h
starts-head (b ∷ bs) h = (starts-not 0x23 b bs h.0, starts-not 0x2E b bs h.1)

pub printable_text : (t : List ℕ) → All Printable t → Text t
printable_text t h = text-ascii t (all_map (λ b p. omega (arith, p.1)) t h)

pub spaces_printable : (k : ℕ) → All Printable (spaces k)
spaces_printable zero = tt
spaces_printable (suc k) = ((omega arith, omega arith), spaces_printable k)

pub numeric_printable : (t : List ℕ) → All Numeric t → All Printable t
numeric_printable [] h = tt
numeric_printable (b ∷ bs) h = ((omega (arith, h.0.0), omega (arith, h.0.1)), numeric_printable bs h.1)

pub divider_printable : All Printable table_div
unfolding ascii
divider_printable = ((omega arith, omega arith), ((omega arith, omega arith), ((omega arith, omega arith), tt)))

pub numeric_starts : (t : List ℕ) → All Numeric t → Full t → Starts t
numeric_starts [] h f = absurd f
numeric_starts (b ∷ bs) h f = (λ e. omega (arith, h.0.0), λ e. omega (arith, h.0.0))

pub numeric_solid : (t : List ℕ) → All Numeric t → Solid t
numeric_solid t h = visible_solid t (numeric_visible t h)

numeric_visible_line : (t : List ℕ) → All Numeric t → Full t → is_blank t ≡ false
numeric_visible_line [] h f = absurd f
numeric_visible_line (b ∷ bs) h f = visible_in [] b bs (omega (arith, h.0.0), omega (arith, h.0.1))

pub numeric_ordinary : (t : List ℕ) → All Numeric t → Full t → Ordinary t
numeric_ordinary t h f =
    let s = starts-head t (numeric_starts t h f) in
    let p = numeric_printable t h in
    (printable_line t p, printable_text t p, row_kept t s.0 (numeric_visible_line t h f), s.1)

pub row_ordinary : (a rest : List ℕ) → Starts a → OneLine a → OneLine rest → Text a → Text rest → Ordinary (a ++ table_div ++ rest)
unfolding ascii
row_ordinary a rest h oa or ta tr =
    let s = starts-head (a ++ table_div ++ rest) (starts-append (a ++ table_div) rest (starts-append a table_div h)) in
    let e : a ++ table_div ++ rest ≡ a ++ (0x20 ∷ []) ++ 0x7C ∷ (0x20 ∷ rest) = append_assoc a table_div rest ∙ sym (append_assoc a (0x20 ∷ []) (0x7C ∷ 0x20 ∷ rest)) in (
      one-line-append (a ++ table_div) rest (one-line-append a table_div oa (printable_line table_div divider_printable)) or,
      text-append (a ++ table_div) rest (text-append a table_div ta (printable_text table_div divider_printable)) tr,
      row_kept (a ++ table_div ++ rest) s.0 (ap is_blank e ∙ visible_in (a ++ 0x20 ∷ []) 0x7C (0x20 ∷ rest) (omega arith, omega arith)),
      s.1,
    )

-- names
abbrev pub GoodName : List ℕ → Type 0
GoodName n = Solid n × Text n × Starts n × (begins_with (ascii "=") n ≡ false)

clash : (c b : ℕ) (bs : List ℕ) → begins_with (c ∷ []) (b ∷ bs) ≡ false → b ≡ c → ⊥
unfolding begins_with
clash c b bs h e =
    let q : eqb c b ≡ true = eq-eqb c b (sym e) in
    let z : ◌≡◌ {A = Bool} true false = rw q at h in
    let w : ◌≡◌ {A = ℕ} 0 1 = cc in omega arith

starts_of : (n : List ℕ) → is_empty n ≡ false → begins_with (ascii "#") n ≡ false → begins_with (ascii ".") n ≡ false → Starts n
unfolding is_empty ascii
starts_of [] f a b = let z : ◌≡◌ {A = ℕ} 0 1 = cc in absurd (omega arith)
starts_of (x ∷ xs) f a b = (clash 0x23 x xs a, clash 0x2E x xs b)

pub good_name : (n : List ℕ) → is_utf8 n ≡ true → FairName n → GoodName n
good_name n u f =
    let t = text_of n u in
    (solid_name n t f.no_white_space_lem, t, starts_of n f.some_character f.no_hash f.no_dot, f.no_equals)

-- a number to the right of its cell
pub right_cell : (w n limit : ℕ) → n < 2 ^ 64 → n < limit → (parse_decimal limit (trim (to_right w (decimal n))) ≡ some n) × Undivided (to_right w (decimal n))
right_cell w n limit h l =
    let d = decimal_numeric n h in
    let s = numeric_solid (decimal n) d.0 in (
      ap (parse_decimal limit) (trim-left (w - length (decimal n)) (decimal n) s) ∙ decimal-back limit n h l,
      undivided_left (w - length (decimal n)) (decimal n) (undivided_solid (decimal n) s) (no_bar (decimal n) d.0),
    )
  where
    no_bar : (t : List ℕ) → All Numeric t → starts_bar t ≡ false
    no_bar [] a = refl
    no_bar (b ∷ bs) a = ne_eqb 0x7C b (λ e. omega (arith, a.0.1))

pub right_printable : (w n : ℕ) → n < 2 ^ 64 → All Printable (to_right w (decimal n))
right_printable w n h = both (w - length (decimal n)) (decimal n) (numeric_printable (decimal n) (decimal_numeric n h).0)
  where
    both : (k : ℕ) (t : List ℕ) → All Printable t → All Printable (spaces k ++ t)
    both zero t h = h
    both (suc k) t h = ((omega arith, omega arith), both k t h)

pub right_starts : (w n : ℕ) → n < 2 ^ 64 → Starts (to_right w (decimal n))
right_starts w n h = let d = decimal_numeric n h in starts-spaces (w - length (decimal n)) (decimal n) (numeric_starts (decimal n) d.0 d.1)

bit_small : (e : Bool) → (flag_bit e < 2 ^ 64) × (flag_bit e < 2 ^ 8)
bit_small true = (omega arith, omega arith)
bit_small false = (omega arith, omega arith)

bit_back : (e : Bool) → not (eqb (flag_bit e) 0) ≡ e
bit_back true = refl
bit_back false = refl

symbol_path :
    (h : ObjectFile) (l c0 c1 c2 : List ℕ) (a e : ℕ) (name : List ℕ) → splitn 2 l ≡ c0 ∷ c1 ∷ c2 ∷ [] → hex2u16 (trim c0) ≡ some a → parse_decimal (2 ^ 8) (trim c1) ≡ some e → trim c2 ≡ name
    → parse_symbol_row h l ≡ given (put_record h (label (record { name = name; address = a; external = not (eqb e 0); start = (label_named name h.labels).start })))
unfolding parse_symbol_row
symbol_path h l c0 c1 c2 a e name h1 h2 h3 h4 = rw (h1, h2, h3, h4)

pub symbol-row :
    (h : ObjectFile) (m : Label) → m.address < 2 ^ 16 → GoodName m.name
    → parse_symbol_row h (symbol_row m)
    ≡ given (put_record h (label (record { name = m.name; address = m.address; external = m.external; start = (label_named m.name h.labels).start })))
symbol-row h m ha hn =
    let s = numeric_solid (hex4 m.address) (hex_numeric m.address) in
    let b = bit_small m.external in
    let r = right_cell 3 (flag_bit m.external) (2 ^ 8) b.0 b.1 in
    symbol_path h (symbol_row m) (hex4 m.address) (to_right 3 (decimal (flag_bit m.external))) m.name m.address (flag_bit m.external) m.name
    (cells_2 (hex4 m.address) (to_right 3 (decimal (flag_bit m.external))) m.name (undivided_solid (hex4 m.address) s) r.1)
    (ap hex2u16 (trim_solid (hex4 m.address) s) ∙ hex_back m.address ha) r.0 (trim_solid m.name hn.0)
    ∙ rw (bit_back m.external)

pub hex_full : (v : ℕ) → Full (hex4 v)
unfolding hex4 digits_of
hex_full v = tt

pub entry-full : (w : Option ℕ) → Full (memory_text w)
unfolding ascii
entry-full none = tt
entry-full (some v) = hex_full v

pub hex_ordinary : (v : ℕ) → Ordinary (hex4 v)
hex_ordinary v = numeric_ordinary (hex4 v) (hex_numeric v) (hex_full v)

pub symbol_ordinary : (m : Label) → GoodName m.name → Ordinary (symbol_row m)
symbol_ordinary m n =
    let a : List ℕ = hex4 m.address in
    let x : List ℕ = to_right 3 (decimal (flag_bit m.external)) in
    let o = hex_ordinary m.address in
    let p = right_printable 3 (flag_bit m.external) (bit_small m.external).0 in
    let d = printable_line table_div divider_printable in
    let td = printable_text table_div divider_printable in
    row_ordinary (a ++ table_div ++ x) m.name
    (starts-append (a ++ table_div) x (starts-append a table_div (numeric_starts a (hex_numeric m.address) (hex_full m.address))))
    (one-line-append (a ++ table_div) x (one-line-append a table_div o.0 d) (printable_line x p)) (solid_line m.name n.0)
    (text-append (a ++ table_div) x (text-append a table_div o.1 td) (printable_text x p)) n.1

linker_path :
    (h : ObjectFile) (l c0 c1 : List ℕ) (a : ℕ) (name : List ℕ) → splitn 1 l ≡ c0 ∷ c1 ∷ [] → hex2u16 (trim c0) ≡ some a → trim c1 ≡ name
    → parse_linker_row h l ≡ given (put_record h (relocation (record { address = a; name = name })))
unfolding parse_linker_row
linker_path h l c0 c1 a name h1 h2 h3 = rw (h1, h2, h3)

pub linker-row : (h : ObjectFile) (q : Relocation) → q.address < 2 ^ 16 → GoodName q.name → parse_linker_row h (linker_row q) ≡ given (put_record h (relocation q))
linker-row h q ha hn =
    let s = numeric_solid (hex4 q.address) (hex_numeric q.address) in
    linker_path h (linker_row q) (hex4 q.address) q.name q.address q.name (cells_1 (hex4 q.address) q.name (undivided_solid (hex4 q.address) s))
    (ap hex2u16 (trim_solid (hex4 q.address) s) ∙ hex_back q.address ha) (trim_solid q.name hn.0)

pub linker_ordinary : (q : Relocation) → GoodName q.name → Ordinary (linker_row q)
linker_ordinary q n =
    let o = hex_ordinary q.address in
    row_ordinary (hex4 q.address) q.name (numeric_starts (hex4 q.address) (hex_numeric q.address) (hex_full q.address)) o.0 (solid_line q.name n.0) o.1 n.1

index_path :
    (h : ObjectFile) (l c0 c1 : List ℕ) (i : ℕ) (name : List ℕ) → splitn 1 l ≡ c0 ∷ c1 ∷ [] → trim c0 ≡ name → parse_decimal (2 ^ 64) (trim c1) ≡ some i
    → parse_label_row h l ≡ given (put_record h (label (record { name = name; address = (label_named name h.labels).address; external = (label_named name h.labels).external; start = i })))
unfolding parse_label_row
index_path h l c0 c1 i name h1 h2 h3 = rw (h1, h2, h3)

pub index_row :
    (names indices : ℕ) (h : ObjectFile) (m : Label) → m.start < 2 ^ 64 → GoodName m.name
    → parse_label_row h (label_row names indices m)
    ≡ given (put_record h (label (record { name = m.name; address = (label_named m.name h.labels).address; external = (label_named m.name h.labels).external; start = m.start })))
index_row names indices h m hs hn =
    let r = right_cell indices m.start (2 ^ 64) hs hs in
    let k : ℕ = names - characters m.name in
    index_path h (label_row names indices m) (to_left names m.name) (to_right indices (decimal m.start)) m.start m.name
    (cells_1 (to_left names m.name) (to_right indices (decimal m.start)) (undivided_append m.name (spaces k) hn.0 (undivided_spaces k)))
    (trim_right k m.name hn.0) r.0

pub index_ordinary : (names indices : ℕ) (m : Label) → m.start < 2 ^ 64 → GoodName m.name → Ordinary (label_row names indices m)
index_ordinary names indices m hs n =
    let k : ℕ = names - characters m.name in
    let p = right_printable indices m.start hs in
    let s = spaces_printable k in
    row_ordinary (to_left names m.name) (to_right indices (decimal m.start)) (starts-append m.name (spaces k) n.2)
    (one-line-append m.name (spaces k) (solid_line m.name n.0) (printable_line (spaces k) s)) (printable_line (to_right indices (decimal m.start)) p)
    (text-append m.name (spaces k) n.1 (printable_text (spaces k) s)) (printable_text (to_right indices (decimal m.start)) p)

-- an index row begins with a name, and no bar
pub index_no_bar : (names indices : ℕ) (m : Label) → GoodName m.name → begins_with (ascii "=") (label_row names indices m) ≡ false
unfolding ascii begins_with
index_no_bar names indices m n = go m.name n.2 n.3
  where
    go : (t : List ℕ) → Starts t → begins_with (ascii "=") t ≡ false → begins_with (ascii "=") (t ++ spaces (names - characters m.name) ++ table_div ++ to_right indices (decimal m.start)) ≡ false
    go [] h e = absurd h
    go (b ∷ bs) h e = e

-- .DEBUG, lines
module _ (width : ℕ) (cell_of : ℕ → List ℕ) where
  -- the rows' numbers from i on
  abbrev pub Numbered : ℕ → List Row → Type 0
  Numbered i [] = Unit {0}
  Numbered i (r ∷ rs) = (r.number ≡ i) × (i < 2 ^ 64) × Word16 r.address × Numbered (suc i) rs

  line_path :
      (i : ℕ) (l : List ℕ) (ls : List (List ℕ)) (c0 c1 c2 : List ℕ) (n : ℕ) (a : Option ℕ) (rows : List (Option ℕ × List ℕ)) → splitn 2 l ≡ c0 ∷ c1 ∷ c2 ∷ [] → parse_decimal (2 ^ 64) (trim c0) ≡ some n
      → eqb n i ≡ true → maybe_hex2u16 (trim c1) ≡ some a → parse_line_rows (suc i) ls ≡ given rows → parse_line_rows i (l ∷ ls) ≡ given ((a, c2) ∷ rows)
  unfolding parse_line_rows
  line_path i l ls c0 c1 c2 n a rows h1 h2 h3 h4 h5 = rw (h1, h2, h3, h4, h5)

  pub line-rows : (i : ℕ) (rows : List Row) → Numbered i rows → parse_line_rows i (map (line_row width cell_of) rows) ≡ given (map (λ r. (r.address, cell_of r.number)) rows)
  unfolding parse_line_rows
  line-rows i [] h = refl
  line-rows i (r ∷ rs) h =
      let n : r.number < 2 ^ 64 = omega (arith, h.0, h.1) in
      let x = right_cell width r.number (2 ^ 64) n n in
      let s = numeric_solid (memory_text r.address) (entry_numeric r.address) in
      line_path i (line_row width cell_of r) (map (line_row width cell_of) rs) (to_right width (decimal r.number)) (memory_text r.address) (cell_of r.number) r.number r.address (map (λ r. (r.address, cell_of r.number)) rs)
      (cells_2 (to_right width (decimal r.number)) (memory_text r.address) (cell_of r.number) x.1 (undivided_solid (memory_text r.address) s)) x.0 (eq-eqb r.number i h.0)
      (ap maybe_hex2u16 (trim_solid (memory_text r.address) s) ∙ entry-back r.address h.2) (line-rows (suc i) rs h.3)

  pub line_ordinary : (r : Row) → r.number < 2 ^ 64 → All Printable (cell_of r.number) → Ordinary (line_row width cell_of r)
  line_ordinary r n c =
      let a : List ℕ = to_right width (decimal r.number) in
      let x : List ℕ = memory_text r.address in
      let p = right_printable width r.number n in
      let q = numeric_printable x (entry_numeric r.address) in
      let d = printable_line table_div divider_printable in
      let td = printable_text table_div divider_printable in
      row_ordinary (a ++ table_div ++ x) (cell_of r.number) (starts-append (a ++ table_div) x (starts-append a table_div (right_starts width r.number n)))
      (one-line-append (a ++ table_div) x (one-line-append a table_div (printable_line a p) d) (printable_line x q)) (printable_line (cell_of r.number) c)
      (text-append (a ++ table_div) x (text-append a table_div (printable_text a p) td) (printable_text x q)) (printable_text (cell_of r.number) c)
