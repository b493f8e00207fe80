-- A walk over the groups of a file: what a group does to the object so far, and the same answer from the place after it. Assumes nothing.
use mathlib.Core.Path.{◌≡◌, refl, sym, ap, ◌∙◌, subst}
use mathlib.Core.Bool.{Bool, true, false, true≢false, not}
use mathlib.Core.List.{List, [], ◌∷◌, flat_map}
use mathlib.Core.Option.{Option, none, some}
use Prim.Native.Nat.{ℕ, zero, suc, ◌≤◌, ◌^◌, ◌%◌}
use native.Mathlib.Omega.{arith}
use lib.ListN.{length, take}
use lib.Dec.{leb}
use borrow.Author.Tests.{ne_eqb}
use Rattle.format.specs.Basics.{Outcome, refused, given, ◌>>=◌, ask, need, all_some, is_some, is_empty}
use Rattle.format.specs.Tokens.{Parts, scan_tokens, fold_outcome}
use Rattle.format.specs.Sorted.{at_key}
use Rattle.format.specs.ObjectFile.{ObjectFile, Block, block_key}
use Rattle.format.specs.Records.{empty_object, put_record}
use Rattle.format.specs.TextReader.{hex2u16, parse_decimal, maybe_hex2u16, block_at, parse_text_group, parse_symbol_row, parse_symbol_group}
use Rattle.format.specs.TextReader.{parse_linker_row, parse_linker_group, parse_debug_group, parse_group}
use Rattle.format.specs.Calls.{refusal_of}
use Rattle.format.proofs.Outcomes.{Gives, gives_ask, gives_bind}
use Rattle.std.specs.Prelude as std
use Rattle.std.specs.Prelude.{Some, None}
use Rattle.std.specs.Option as options
use Rattle.text_lines.specs.Groups.{parts_from, kind_of, HeadAt}
use Rattle.text_tables.specs.Debug.{line_view}
use Rattle.text_tables.specs.Symbols.{symbol_columns, symbol_in, set_symbol, SymbolsChecked}
use Rattle.text_tables.proofs.SymbolLaws.{symbol-row}
use Rattle.text_tables.proofs.GroupLaws.{by_kind, group_kind}
use Rattle.text_linker.specs.Linker.{linker_columns, linker_in, set_linker, LinkerChecked}
use Rattle.text_linker.proofs.LinkerLaws.{linker-row}
use Rattle.text_blocks.specs.Blocks.{Seen, blocks_length, Counts, Settles, Checked, BlocksChecked}
use Rattle.text_debug.specs.declared.SourceRows.{SourceRows}
use Rattle.text_debug.specs.declared.Lines.{Lines}
use Rattle.text_debug.specs.LineTable.{no_lines}
use Rattle.text_debug.specs.DebugGroup.{DebugRead, without_rows, rows_read, DebugSettles, DebugChecked}
use Rattle.format.proofs.Numbered.{RefusedAbove, text_numbered}
use Rattle.text_debug.proofs.DebugGroupLaws.{Kept, Keeps, table_keeps}
use Rattle.text_scan.specs.Walk.{Walk, rows_in, lines_in, line_blocks_of, source_of, Lined, Agrees, Comes, LinesChecked, GroupChecked, DebugWalked}
use Rattle.text_scan.specs.Walk.{groups_from, no_groups, GroupsWalked}

-- from one object to the next: the blocks are marked and counted, the lines stand
abbrev Stands : List ℕ → ℕ → ObjectFile → ObjectFile → Type 0
Stands seen' words' h h' = Seen h' seen' × Counts h' words' × (h'.line_blocks ≡ h.line_blocks) × (h'.source ≡ h.source)

-- blocks that stand are counted as before
counts_same : (h h' : ObjectFile) (words : ℕ) → h'.blocks ≡ h.blocks → Counts h words → Counts h' words
counts_same h h' words e c = c ∙ ap (λ (bs : List Block). blocks_length bs % 2 ^ 64) (sym e)

-- .TEXT
gives_need : {A B : Type 0} (Q : B → Type 0) (n : ℕ) (o : Option A) (f : A → Outcome B) → ((a : A) → Gives Q (f a))
    → Gives Q (need n o >>= f)
gives_need Q n none f k = tt
gives_need Q n (some a) f k = k a

module _ (h₀ : ObjectFile) where
  abbrev Same : ObjectFile → Type 0
  Same h = (h.line_blocks ≡ h₀.line_blocks) × (h.source ≡ h₀.source)

  block_keeps : (h : ObjectFile) (ls : List (List ℕ)) → Same h → Gives (λ (t : ObjectFile × ℕ). Same t.0) (block_at h ls)
  unfolding block_at put_record
  block_keeps h [] s = tt
  block_keeps h (l ∷ []) s = tt
  block_keeps h (l ∷ c ∷ ls) s =
      gives_need (λ (t : ObjectFile × ℕ). Same t.0) 24 (hex2u16 l) _ λ a.
      gives_need (λ (t : ObjectFile × ℕ). Same t.0) 24 (parse_decimal (2 ^ 16) c) _ λ n.
      gives_ask (λ (t : ObjectFile × ℕ). Same t.0) 24 (leb n (length ls)) _ λ _.
      gives_need (λ (t : ObjectFile × ℕ). Same t.0) 24 (all_some maybe_hex2u16 (take n ls)) _ λ ws.
      gives_ask (λ (t : ObjectFile × ℕ). Same t.0) 25 (not (is_some (at_key block_key (a ∷ []) h.blocks))) _ λ _. s

  scan_keeps : (h : ObjectFile) (k : ℕ) (ls : List (List ℕ)) → Same h → Gives Same (scan_tokens block_at h k ls)
  unfolding scan_tokens
  scan_keeps h k [] s = s
  scan_keeps h (suc k) (l ∷ ls) s = scan_keeps h k ls s
  scan_keeps h zero (l ∷ ls) s =
      gives_bind Same (λ (t : ObjectFile × ℕ). Same t.0) (block_at h (l ∷ ls)) _ (block_keeps h (l ∷ ls) s) λ t u.
      scan_keeps t.0 t.1 ls u

  text_keeps : (ls : List (List ℕ)) → Gives Same (parse_text_group h₀ ls)
  unfolding parse_text_group
  text_keeps ls = scan_keeps h₀ 0 ls (refl, refl)

text_comes : (h : ObjectFile) (seen' : List ℕ) (words' n : ℕ) (o : Outcome ObjectFile) → Settles o n seen' words' → Gives (Same h) o → RefusedAbove 9 o
    → Comes (Stands seen' words' h) n o
text_comes h seen' words' n (refused m) s g q = (s, omega (arith, q))
text_comes h seen' words' n (given h') s g q = (s.0, (s.1, s.2, g.0, g.1))

-- .SYMBOL and .LINKER_INFO
keeps_comes : (h : ObjectFile) (seen : List ℕ) (words : ℕ) → Seen h seen → Counts h words → (n : ℕ) (o : Outcome ObjectFile) → Keeps h n o
    → Comes (Stands seen words h) n o
keeps_comes h seen words m c n (refused k) s = s
keeps_comes h seen words m c n (given h') s =
    let k : Kept h h' = s.1 in
    (s.0, ((λ a. ap (λ (bs : List Block). is_some (at_key block_key (a ∷ []) bs)) k.0 ∙ m a), counts_same h h' words k.0 c, k.1, k.2))

pub symbol_keeps : (h : ObjectFile) (ls : List (List ℕ)) (n : ℕ) → n ≡ refusal_of (parse_symbol_group empty_object ls)
    → Keeps h n (parse_symbol_group h ls)
unfolding parse_symbol_group set_symbol put_record
symbol_keeps h ls n e =
    table_keeps parse_symbol_row symbol_in set_symbol 26 symbol-row (omega arith) (λ g r. (refl, refl, refl)) symbol_columns h ls n e

pub linker_keeps : (h : ObjectFile) (ls : List (List ℕ)) (n : ℕ) → n ≡ refusal_of (parse_linker_group empty_object ls)
    → Keeps h n (parse_linker_group h ls)
unfolding parse_linker_group set_linker put_record
linker_keeps h ls n e =
    table_keeps parse_linker_row linker_in set_linker 26 linker-row (omega arith) (λ g r. (refl, refl, refl)) linker_columns h ls n e

-- BY KIND
module _ (h : ObjectFile) (name : List ℕ) (ls : List (List ℕ)) (k : ℕ) (e : k ≡ kind_of name) where
  group_is : (j : ℕ) → k ≡ j → parse_group h (name, ls) ≡ by_kind j h ls
  group_is j q = group_kind h name ls ∙ ap (λ (i : ℕ). by_kind i h ls) (sym e ∙ q)

  is_text : k ≡ 0 → parse_group h (name, ls) ≡ parse_text_group h ls
  unfolding by_kind
  is_text q = group_is 0 q

  is_symbol : k ≡ 1 → parse_group h (name, ls) ≡ parse_symbol_group h ls
  unfolding by_kind
  is_symbol q = group_is 1 q

  is_linker : k ≡ 2 → parse_group h (name, ls) ≡ parse_linker_group h ls
  unfolding by_kind
  is_linker q = group_is 2 q

  is_debug : k ≡ 3 → parse_group h (name, ls) ≡ parse_debug_group h ls
  unfolding by_kind
  is_debug q = group_is 3 q

  is_none : (k ≡ 0 → ⊥) → (k ≡ 1 → ⊥) → (k ≡ 2 → ⊥) → (k ≡ 3 → ⊥) → parse_group h (name, ls) ≡ refused 23
  unfolding by_kind
  is_none a b c d = group_is k refl ∙ simp (ne_eqb k 0 a, ne_eqb k 1 b, ne_eqb k 2 c, ne_eqb k 3 d)

module _ (t : List ℕ) (kind at words : ℕ) (seen : List ℕ) where
  abbrev lines : List (List ℕ)
  lines = (parts_from t at).before

  abbrev Settled : List ℕ → ℕ → ℕ → Type 0
  Settled seen' words' n =
      (name : List ℕ) → kind ≡ kind_of name → (h : ObjectFile) → Seen h seen → Counts h words → Comes (Stands seen' words' h) n (parse_group h (name, lines))

  abbrev kept : ℕ → ℕ → Checked  -- a group that has no blocks
  kept number next = record { number = number; next = next; words = words }

  pub lines-text : (seen' : List ℕ) (r : Checked) → kind ≡ 0 → 8192 ≤ length seen → BlocksChecked t at words seen seen' r
      → LinesChecked t kind at words seen seen' r
  lines-text seen' r k l c =
      let f : Settled seen' r.words r.number = λ name e h s n.
      subst (Comes (Stands seen' r.words h) r.number) (sym (is_text h name lines kind e k))
      (text_comes h seen' r.words r.number (parse_text_group h lines) (c.settles l h s n) (text_keeps h lines) (text_numbered h lines)) in
      record { from = c.from; after = c.after; settles = f }

  pub lines-symbol : (number next : ℕ) → kind ≡ 1 → SymbolsChecked t at number next → LinesChecked t kind at words seen seen (kept number next)
  lines-symbol number next k c =
      let f : Settled seen words number = λ name e h s n.
      subst (Comes (Stands seen words h) number) (sym (is_symbol h name lines kind e k))
      (keeps_comes h seen words s n number (parse_symbol_group h lines) (symbol_keeps h lines number c.same)) in
      record { from = c.from; after = c.after; settles = f }

  pub lines-linker : (number next : ℕ) → kind ≡ 2 → LinkerChecked t at number next → LinesChecked t kind at words seen seen (kept number next)
  lines-linker number next k c =
      let f : Settled seen words number = λ name e h s n.
      subst (Comes (Stands seen words h) number) (sym (is_linker h name lines kind e k))
      (keeps_comes h seen words s n number (parse_linker_group h lines) (linker_keeps h lines number c.same)) in
      record { from = c.from; after = c.after; settles = f }

  pub lines_unknown : (kind ≡ 0 → ⊥) → (kind ≡ 1 → ⊥) → (kind ≡ 2 → ⊥) → (kind ≡ 3 → ⊥)
      → LinesChecked t kind at words seen seen (record { number = 23; next = at; words = words })
  lines_unknown a b c d =
      let f : Settled seen words 23 = λ name e h s n.
      subst (Comes (Stands seen words h) 23) (sym (is_none h name lines kind e a b c d)) (refl, omega arith) in
      record { from = omega arith; after = λ z. absurd (omega (arith, z)); settles = f }

-- a group that is refused: nothing is said of what it leaves
comes_no : (P Q : ObjectFile → Type 0) (n : ℕ) (o : Outcome ObjectFile) → (n ≡ 0 → ⊥) → Comes P n o → Comes Q n o
comes_no P Q n (refused m) ne s = s
comes_no P Q n (given h) ne s = absurd (ne s.0)

-- .DEBUG
lined_some : (t : List ℕ) (sourced : Bool) (rows : ℕ) (lines : Lines) (h : ObjectFile) → Lined t sourced rows lines h → is_some h.source ≡ sourced
unfolding source_of is_some
lined_some t true rows lines h l = ap is_some l.source
lined_some t false rows lines h l = ap is_some l.source

module _ (t : List ℕ) (at : ℕ) (sourced : Bool) (rows : ℕ) (lines : Lines) (words : ℕ) (g : DebugRead) (c : DebugChecked t at sourced g) where
  lined-new : g.lined ≡ true → (h : ObjectFile) (n : ℕ) (o : Outcome ObjectFile) → DebugSettles true (line_view t g.rows).0 h n o
      → Comes (λ h'. (h'.blocks ≡ h.blocks) × Lined t true g.rows g.lines h') n o
  unfolding line_blocks_of source_of
  lined-new q h n (refused m) s = s
  lined-new q h n (given h') s = (s.0, (s.1, record { blocks = s.2.0; source = s.2.1; reads = λ z. s.2.2; makes = λ z. c.makes q }))

  lined_old : (h : ObjectFile) → Lined t sourced rows lines h → (ls : List (List ℕ)) (n : ℕ) (o : Outcome ObjectFile)
      → DebugSettles false ls h n o → Comes (λ h'. (h'.blocks ≡ h.blocks) × Lined t sourced rows lines h') n o
  lined_old h l ls n (refused m) s = s
  lined_old h l ls n (given h') s = (s.0, (s.1, record { blocks = s.2.0 ∙ l.blocks; source = s.2.1 ∙ l.source; reads = l.reads; makes = l.makes }))

  settles_as : (b : Bool) → g.lined ≡ b → (h : ObjectFile) → Lined t sourced rows lines h
      → DebugSettles b (line_view t g.rows).0 h g.number (parse_debug_group h (parts_from t at).before)
  settles_as b e h l =
      subst (λ (x : Bool). DebugSettles x (line_view t g.rows).0 h g.number (parse_debug_group h (parts_from t at).before)) e
      (c.settles h (lined_some t sourced rows lines h l))

  pub debug_new : g.lined ≡ true
      → DebugWalked t at sourced rows lines words
      (record { number = g.number; next = g.next; sourced = true; rows = g.rows; lines = g.lines; words = words })
  debug_new e =
      record {
        counted = refl;
        from = c.from;
        after = c.after;
        settles = λ h l. lined-new e h g.number (parse_debug_group h (parts_from t at).before) (settles_as true e h l);
      }

  pub debug_old : g.lined ≡ false
      → DebugWalked t at sourced rows lines words
      (record { number = g.number; next = g.next; sourced = sourced; rows = rows; lines = lines; words = words })
  debug_old e =
      record {
        counted = refl;
        from = c.from;
        after = c.after;
        settles = λ h l.
            lined_old h l (line_view t g.rows).0 g.number (parse_debug_group h (parts_from t at).before) (settles_as false e h l);
      }

-- a group that is refused
pub debug_no : (t : List ℕ) (at : ℕ) (sourced : Bool) (rows : ℕ) (lines : Lines) (words n : ℕ) → DebugChecked t at sourced (without_rows n at) → (n ≡ 0 → ⊥)
    → DebugWalked t at sourced rows lines words (record { number = n; next = at; sourced = false; rows = 0; lines = no_lines; words = words })
debug_no t at sourced rows lines words n c ne =
    let d = debug_old t at sourced rows lines words (without_rows n at) c refl in
    record {
      counted = refl;
      from = d.from;
      after = d.after;
      settles = λ h l.
          comes_no (λ h'. (h'.blocks ≡ h.blocks) × Lined t sourced rows lines h') (λ h'. (h'.blocks ≡ h.blocks) × Lined t false 0 no_lines h') n _ ne
          (d.settles h l);
    }

-- the source that stands after the group
pub debug_walked : (t : List ℕ) (at : ℕ) (old : std.Option SourceRows) (words next : ℕ) (own : std.Option SourceRows)
    → DebugChecked t at (options.is_some old) (rows_read next own)
    → let now = options.option_or own old in
    DebugWalked t at (options.is_some old) (rows_in old) (lines_in old) words
    (record { number = 0; next = next; sourced = options.is_some now; rows = rows_in now; lines = lines_in now; words = words })
debug_walked t at old words next (Some r) c = debug_new t at (options.is_some old) (rows_in old) (lines_in old) words (rows_read next (Some r)) c refl
debug_walked t at old words next None c = debug_old t at (options.is_some old) (rows_in old) (lines_in old) words (rows_read next None) c refl

-- ANY GROUP
comes_map : (P Q : ObjectFile → Type 0) → ((h : ObjectFile) → P h → Q h) → (n : ℕ) (o : Outcome ObjectFile) → Comes P n o → Comes Q n o
comes_map P Q f n (refused m) s = s
comes_map P Q f n (given h) s = (s.0, f h s.1)

module _ (t : List ℕ) (kind at : ℕ) (sourced : Bool) (rows : ℕ) (lines : Lines) (words : ℕ) (seen : List ℕ) where
  abbrev Fits : List ℕ → Walk → Type 0
  Fits seen' r =
      (name : List ℕ) → kind ≡ kind_of name → (h : ObjectFile) → Agrees t seen sourced rows lines words h
      → Comes (Agrees t seen' r.sourced r.rows r.lines r.words) r.number (parse_group h (name, (parts_from t at).before))

  pub group_debug : (r : Walk) → kind ≡ 3 → DebugWalked t at sourced rows lines words r → GroupChecked t kind at sourced rows lines words seen seen r
  group_debug r k c =
      let f : Fits seen r = λ name e h s.
      subst (Comes (Agrees t seen r.sourced r.rows r.lines r.words) r.number) (sym (is_debug h name (parts_from t at).before kind e k))
      (comes_map (λ h'. (h'.blocks ≡ h.blocks) × Lined t r.sourced r.rows r.lines h') (Agrees t seen r.sourced r.rows r.lines r.words)
      (λ h' p. record {
        marks = λ a. ap (λ (bs : List Block). is_some (at_key block_key (a ∷ []) bs)) p.0 ∙ s.marks a;
        counts = counts_same h h' r.words p.0 (c.counted ∙ s.counts);
        lines = p.1;
      })
      r.number (parse_debug_group h (parts_from t at).before) (c.settles h s.lines)) in
      record { from = c.from; after = c.after; settles = f }

  pub group_lines : (seen' : List ℕ) (r : Checked) → LinesChecked t kind at words seen seen' r
      → GroupChecked t kind at sourced rows lines words seen seen'
      (record { number = r.number; next = r.next; sourced = sourced; rows = rows; lines = lines; words = r.words })
  group_lines seen' r c =
      let f : Fits seen' (record { number = r.number; next = r.next; sourced = sourced; rows = rows; lines = lines; words = r.words }) = λ name e h s.
      comes_map (Stands seen' r.words h) (Agrees t seen' sourced rows lines r.words)
      (λ h' p.
      let o : Lined t sourced rows lines h = s.lines in
      let b : Lined t sourced rows lines h' = record { blocks = p.2 ∙ o.blocks; source = p.3 ∙ o.source; reads = o.reads; makes = o.makes } in
      record { marks = p.0; counts = p.1; lines = b })
      r.number (parse_group h (name, (parts_from t at).before)) (c.settles name e h s.marks s.counts) in
      record { from = c.from; after = c.after; settles = f }

-- a group that is refused
module _ (t : List ℕ) (kind at : ℕ) (sourced : Bool) (rows : ℕ) (lines : Lines) (words : ℕ) (seen seen' : List ℕ) where
  pub group_no : (r : Checked) → LinesChecked t kind at words seen seen' r → (r.number ≡ 0 → ⊥)
      → GroupChecked t kind at sourced rows lines words seen seen'
      (record { number = r.number; next = at; sourced = false; rows = 0; lines = no_lines; words = words })
  group_no r c ne =
      let g = group_lines t kind at sourced rows lines words seen seen' r c in
      record {
        from = omega arith;
        after = λ z. absurd (ne z);
        settles = λ name e h s.
            comes_no (Agrees t seen' sourced rows lines r.words) (Agrees t seen' false 0 no_lines words) r.number _ ne (g.settles name e h s);
      }

-- THE SAME ANSWER FROM THE NEXT GROUP
module _ (t : List ℕ) (at k n : ℕ) (l : HeadAt t at k n) (h : ObjectFile) where
  pub groups-head : groups_from t at h
      ≡ (parse_group h (l.name, (parts_from t n).before) >>= λ h'. fold_outcome parse_group h' (parts_from t n).groups)
  unfolding groups_from fold_outcome is_empty
  groups-head = ap (λ (p : Parts (List ℕ)). ask 22 (is_empty p.before) >>= λ _. fold_outcome parse_group h p.groups) l.same

  pub groups-refused : (m : ℕ) → parse_group h (l.name, (parts_from t n).before) ≡ refused m → groups_from t at h ≡ refused m
  groups-refused m e = groups-head ∙ ap (λ (o : Outcome ObjectFile). o >>= λ h'. fold_outcome parse_group h' (parts_from t n).groups) e

  pub groups-on : (h' : ObjectFile) → parse_group h (l.name, (parts_from t n).before) ≡ given h' → (q : ℕ)
      → parts_from t q ≡ record { before = []; groups = (parts_from t n).groups } → groups_from t q h' ≡ groups_from t at h
  unfolding groups_from is_empty
  groups-on h' e q p =
      ap (λ (x : Parts (List ℕ)). ask 22 (is_empty x.before) >>= λ _. fold_outcome parse_group h' x.groups) p
      ∙ sym (groups-head ∙ ap (λ (o : Outcome ObjectFile). o >>= λ h''. fold_outcome parse_group h'' (parts_from t n).groups) e)

module _ (t : List ℕ) (at : ℕ) (h : ObjectFile) where
  pub groups_loose : is_empty (parts_from t at).before ≡ false → groups_from t at h ≡ refused 22
  unfolding groups_from
  groups_loose e = ap (λ (b : Bool). ask 22 b >>= λ _. fold_outcome parse_group h (parts_from t at).groups) e

  pub groups-done : parts_from t at ≡ record { before = []; groups = [] } → groups_from t at h ≡ given h
  unfolding groups_from fold_outcome is_empty
  groups-done e = ap (λ (x : Parts (List ℕ)). ask 22 (is_empty x.before) >>= λ _. fold_outcome parse_group h x.groups) e

-- groups that read: no line stands before them
pub groups-read : (t : List ℕ) (at : ℕ) (h g : ObjectFile) → groups_from t at h ≡ given g
    → (is_empty (parts_from t at).before ≡ true) × (fold_outcome parse_group h (parts_from t at).groups ≡ given g)
unfolding groups_from
groups-read t at h g e = go (is_empty (parts_from t at).before) e
  where
    go : (b : Bool) → (ask 22 b >>= λ _. fold_outcome parse_group h (parts_from t at).groups) ≡ given g
        → (b ≡ true) × (fold_outcome parse_group h (parts_from t at).groups ≡ given g)
    go true q = (refl, q)
    go false q = let z : ◌≡◌ {A = ℕ} 0 1 = cc in absurd (omega arith)

-- what the walk knows: the object that the definition's fold has by now
pub record Walking (t : List ℕ) (first : ℕ) (seen₀ : List ℕ) (at : ℕ) (seen : List ℕ) (sourced : Bool) (rows : ℕ) (lines : Lines) (words : ℕ) : Type 0 where
  pub size : length seen ≡ length seen₀
  pub object : ObjectFile
  pub same : groups_from t at object ≡ groups_from t first empty_object
  pub agrees : Agrees t seen sourced rows lines words object

pub walking_begin : (t : List ℕ) (first : ℕ) (seen : List ℕ) (lines : Lines) → Seen empty_object seen → Walking t first seen first seen false 0 lines 0
unfolding line_blocks_of source_of empty_object blocks_length flat_map
walking_begin t first seen lines s =
    let b : Lined t false 0 lines empty_object = record { blocks = refl; source = refl; reads = λ z. absurd (true≢false (sym z)); makes = λ z. absurd (true≢false (sym z)) } in
    record { size = refl; object = empty_object; same = refl; agrees = record { marks = s; counts = refl; lines = b } }

-- as the loop keeps it
abbrev pub WalkedTo : List ℕ → ℕ → List ℕ → List ℕ → Walk → Type 0
WalkedTo t first seen₀ seen w = (w.number ≡ 0) × Walking t first seen₀ w.next seen w.sourced w.rows w.lines w.words

pub walked_begin : (t : List ℕ) (first : ℕ) (seen : List ℕ) (w : Walk) → w ≡ no_groups 0 first → Seen empty_object seen → WalkedTo t first seen seen w
walked_begin t first seen w e s = subst (WalkedTo t first seen seen) (sym e) (refl, walking_begin t first seen no_lines s)

module _ (t : List ℕ) (first : ℕ) (seen₀ : List ℕ) (at : ℕ) (seen : List ℕ) (sourced : Bool) (rows : ℕ) (lines : Lines) (words : ℕ)
    (w : Walking t first seen₀ at seen sourced rows lines words) where
  settled : (P : ObjectFile → Type 0) (n : ℕ) (o : Outcome ObjectFile) → groups_from t at w.object ≡ o → Comes P n o
      → Comes P n (groups_from t first empty_object)
  settled P n o e s = subst (Comes P n) (sym e ∙ w.same) s

  module _ (k n : ℕ) (l : HeadAt t at k n) (seen' : List ℕ) (r : Walk) (g : GroupChecked t k n sourced rows lines words seen seen' r) where
    abbrev parsed : Outcome ObjectFile
    parsed = parse_group w.object (l.name, (parts_from t n).before)

    comes : Comes (Agrees t seen' r.sourced r.rows r.lines r.words) r.number parsed
    comes = g.settles l.name l.kind w.object w.agrees

    pub walking_on : length seen' ≡ length seen → r.number ≡ 0 → Walking t first seen₀ r.next seen' r.sourced r.rows r.lines r.words
    walking_on q z = go parsed refl comes
      where
        go : (o : Outcome ObjectFile) → parsed ≡ o → Comes (Agrees t seen' r.sourced r.rows r.lines r.words) r.number o
            → Walking t first seen₀ r.next seen' r.sourced r.rows r.lines r.words
        go (refused m) e s = absurd (omega (arith, s.0, s.1, z))
        go (given h') e s =
            let f = groups-on t at k n l w.object h' e r.next (g.after z) in
            record { size = q ∙ w.size; object = h'; same = f ∙ w.same; agrees = s.1 }

    pub walking_refused : (r.number ≡ 0 → ⊥) → GroupsWalked t first r
    walking_refused ne = go parsed refl comes
      where
        go : (o : Outcome ObjectFile) → parsed ≡ o → Comes (Agrees t seen' r.sourced r.rows r.lines r.words) r.number o → GroupsWalked t first r
        go (refused m) e s =
            settled (λ h. Lined t r.sourced r.rows r.lines h × Counts h r.words) r.number (refused m)
            (groups-refused t at k n l w.object m e) s
        go (given h') e s = absurd (ne s.0)

  pub walking_loose : is_empty (parts_from t at).before ≡ false → GroupsWalked t first (no_groups 22 first)
  walking_loose e =
      settled (λ h. Lined t false 0 no_lines h × Counts h 0) 22 (refused 22) (groups_loose t at w.object e) (refl, omega arith)

  pub walking_done : (number : ℕ) → number ≡ 0 → parts_from t at ≡ record { before = []; groups = [] }
      → GroupsWalked t first (record { number = number; next = at; sourced = sourced; rows = rows; lines = lines; words = words })
  walking_done number z e =
      settled (λ h. Lined t sourced rows lines h × Counts h words) number (given w.object) (groups-done t at w.object e)
      (z, (w.agrees.lines, w.agrees.counts))

-- groups that are refused: nothing is said of what they leave
pub walked_no : (t : List ℕ) (first : ℕ) (r : Walk) → GroupsWalked t first r → (r.number ≡ 0 → ⊥) → GroupsWalked t first (no_groups r.number first)
walked_no t first r g ne =
    comes_no (λ h. Lined t r.sourced r.rows r.lines h × Counts h r.words) (λ h. Lined t false 0 no_lines h × Counts h 0) r.number _ ne g
