-- A line block in a walk along the records. Assumes nothing.
use mathlib.Core.Path.{◌≡◌, refl, sym, ap, ap₂, subst, ◌∙◌}
use mathlib.Core.Bool.{Bool, false}
use mathlib.Core.List.{List, [], ◌∷◌, ◌++◌, flat_map, append_assoc}
use Prim.Native.Nat.{ℕ, ◌+◌, ◌-◌, ◌^◌, ◌≤◌, ◌<◌}
use native.Mathlib.Omega.{arith}
use lib.ListN.{length, drop, length-drop}
use lib.Seq.{take_all, length-take-le}
use lib.Dec.{leb, eqb}
use borrow.Author.Tests.{le-leb, leb-true, leb-false, eq-eqb, ne_eqb, eqb-true, eqb-false}
use Rattle.std.specs.Prelude.{if◌then◌else◌}
use Rattle.format.specs.Basics.{given_or}
use Rattle.format.specs.ObjectFile.{ObjectFile, LineBlock, line_end}
use Rattle.format.specs.Records.{placed, empty_object}
use Rattle.format.specs.Source.{line_count}
use Rattle.format.specs.Calls.{checked}
use Rattle.format.specs.TextWriter.{Row, plain_rows, text_line, line_row, source_cell}
use Rattle.format.proofs.ListLaws.{by_test}
use Rattle.object.specs.Bodies.{body_at}
use Rattle.object.specs.Access.{kind_at, line_block_at}
use Rattle.object.proofs.Formed.{formed}
use Rattle.source_info.proofs.RecordLaws.{Left, start, finish, here, lines-here, lines_other}
use Rattle.writing.specs.Written.{filled, written, Put}
use Rattle.text_lines_out.specs.Merge.{smaller, straight, walk_from}
use Rattle.text_lines_out.specs.Lines.{At, rows_text}
use Rattle.text_lines_out.specs.Walk.{gap_rows, own_rows, record_rows, record_done, Follows, line_blocks_in, walk_rows}
use Rattle.text_lines_out.specs.Runs.{address_from, run_rows, rows_of, Planned}
use Rattle.text_lines_out.specs.declared.Plan.{Plan}
use Rattle.text_lines_out.proofs.MergeLaws.{Apart, past-done, lines-apart}
use Rattle.text_lines_out.proofs.LineLaws.{at_beyond, at_back, run_plain, smaller_right}

-- ROWS OF TWO LISTS
pub rows_append : (width : ℕ) (s : List ℕ) (xs ys : List Row) → rows_text width s (xs ++ ys) ≡ rows_text width s xs ++ rows_text width s ys
unfolding rows_text flat_map
rows_append width s [] ys = refl
rows_append width s (x ∷ xs) ys =
    let one = text_line (line_row width (source_cell s) x) in
    ap (λ (r : List ℕ). one ++ r) (rows_append width s xs ys) ∙ sym (append_assoc one (rows_text width s xs) (rows_text width s ys))

pub rows_none : (width : ℕ) (s : List ℕ) → rows_text width s [] ≡ []
unfolding rows_text flat_map
rows_none width s = refl

-- THE LINES OF A BLOCK
straight-length : (l : LineBlock) → length (straight l) ≡ smaller (length l.addresses) (2 ^ 64 - l.first)
straight-length l =
    let n : ℕ = 2 ^ 64 - l.first in
    let m : ℕ = length l.addresses in
    by_test (leb n m)
    (λ t. let h = leb-true n m t in length-take-le n l.addresses h ∙ (let z : n ≡ smaller m n = omega arith in z))
    (λ t. let h = leb-false n m t in
    ap length (take_all n l.addresses (omega arith)) ∙ (let z : m ≡ smaller m n = omega arith in z))

-- of numbers
capped : (lines x : ℕ) → lines ≤ x → smaller x lines ≡ lines
capped lines x h = omega arith

same_end : (w f n own : ℕ) → own ≡ n - (w - f) → w + (f - w) + own ≡ w + (f + n - w)
same_end w f n own e = omega arith

all-straight : (n f : ℕ) → f + n ≤ 2 ^ 64 → smaller n (2 ^ 64 - f) ≡ n
all-straight n f h = omega arith

some_straight : (n f : ℕ) → 2 ^ 64 < f + n → smaller n (2 ^ 64 - f) ≡ 2 ^ 64 - f
some_straight n f h = omega arith

past_top : (lines w f own : ℕ) → lines ≤ 2 ^ 64 → w < 2 ^ 64 → f < 2 ^ 64 → own ≡ 2 ^ 64 - f - (w - f) → lines ≤ w + (f - w) + own
past_top lines w f own few h k e = omega arith

past_end : (lines w f n : ℕ) → lines ≤ 2 ^ 64 → 2 ^ 64 < f + n → lines ≤ w + (f + n - w)
past_end lines w f n few h = omega arith

module _ (lines w : ℕ) (l : LineBlock) (low : l.first < 2 ^ 64) (few : lines ≤ 2 ^ 64) (some-wrap : w < 2 ^ 64) where
  abbrev f : ℕ
  f = l.first

  abbrev n : ℕ
  n = length l.addresses

  abbrev own : ℕ
  own = length (drop (w - f) (straight l))

  own_length : own ≡ smaller n (2 ^ 64 - f) - (w - f)
  own_length = length-drop (w - f) (straight l) ∙ ap (λ (x : ℕ). x - (w - f)) (straight-length l)

  pub block_below : w + (f - w) + own ≤ 2 ^ 64
  block_below = below w f n own low some-wrap own_length
    where
      below : (w f n own : ℕ) → f < 2 ^ 64 → w < 2 ^ 64 → own ≡ smaller n (2 ^ 64 - f) - (w - f) → w + (f - w) + own ≤ 2 ^ 64
      below w f n own low h e = omega arith

  pub block-past : smaller (w + (f - w) + own) lines ≡ smaller (w + (line_end l - w)) lines
  block-past =
      by_test (leb (f + n) (2 ^ 64))
      (λ t. let h = leb-true (f + n) (2 ^ 64) t in
      ap (λ (x : ℕ). smaller x lines) (same_end w f n own (own_length ∙ ap (λ (x : ℕ). x - (w - f)) (all-straight n f h))))
      (λ t. let h = leb-false (f + n) (2 ^ 64) t in
      let b : own ≡ 2 ^ 64 - f - (w - f) = own_length ∙ ap (λ (x : ℕ). x - (w - f)) (some_straight n f h) in
      capped lines (w + (f - w) + own) (past_top lines w f own few some-wrap low b)
      ∙ sym (capped lines (w + (f + n - w)) (past_end lines w f n few h)))

-- A RECORD of the walk
module _ (ws : List ℕ) (at lines wraps done e : ℕ) (ls : List LineBlock) where
  pub record Walks : Type 0 where
    pub past : ℕ
    pub others : List LineBlock
    pub follows : Follows ws at lines wraps done
    pub rows :
        walk_from lines wraps done ls
        ≡ record_rows ws at lines wraps done ++ walk_from lines wraps (record_done ws at lines wraps done) others
    pub apart : Apart past others
    pub done_is : record_done ws at lines wraps done ≡ smaller (wraps + (past - wraps)) lines
    pub left : (n : ℕ) → n ≡ at + 1 + length (body_at ws (at + 1)) → Left ws n (λ (h : ObjectFile). h.line_blocks) others

  pub walks : at < length ws → Left ws at (λ (h : ObjectFile). h.line_blocks) ls → Apart e ls
      → done ≡ smaller (wraps + (e - wraps)) lines → Walks
  unfolding record_rows record_done walk_from
  walks h q a d =
      let F : ObjectFile → List LineBlock = λ (h : ObjectFile). h.line_blocks in
      let g = here ws F at ls h q in
      let rest : List LineBlock = (placed g.rest).line_blocks in
      let next : (n : ℕ) → n ≡ at + 1 + length (body_at ws (at + 1)) → Left ws n F rest =
      λ n z. subst (λ (k : ℕ). Left ws k F rest) (sym z) (record { records = g.rest; stops = g.stops; read = g.read; same = refl }) in
      by_test (eqb (kind_at ws at) 3)
      (λ t. let l = line_block_at ws at in
      let same : l ∷ rest ≡ ls = sym (lines-here ws at g.rest (eqb-true (kind_at ws at) 3 t)) ∙ g.same in
      let b : Apart e (l ∷ rest) = subst (λ (xs : List LineBlock). Apart e xs) (sym same) a in
      let low : e ≤ l.first = b.0 in
      let E : ℕ = line_end l in
      let up : e ≤ E = omega arith in
      let R : Bool → List Row = λ (c : Bool). if c then gap_rows ws at lines wraps done ++ own_rows ws at lines wraps done else [] in
      let D : Bool → ℕ = λ (c : Bool). if c then done + (smaller E lines - done) else done in
      record {
        past = E;
        others = rest;
        follows = λ z. (e, low, b.1, d);
        rows = ap (walk_from lines wraps done) (sym same)
            ∙ sym (append_assoc (gap_rows ws at lines wraps done) (own_rows ws at lines wraps done)
            (walk_from lines wraps (done + (smaller E lines - done)) rest))
            ∙ ap (λ (c : Bool). R c ++ walk_from lines wraps (D c) rest) (sym t);
        apart = b.2;
        done_is = ap D t ∙ ap (λ (x : ℕ). x + (smaller E lines - x)) d ∙ sym (past-done lines wraps e E up);
        left = next;
      })
      (λ t. let no = eqb-false (kind_at ws at) 3 t in
      let same : rest ≡ ls = lines_other ws at g.rest no ∙ g.same in
      let R : Bool → List Row = λ (c : Bool). if c then gap_rows ws at lines wraps done ++ own_rows ws at lines wraps done else [] in
      let D : Bool → ℕ = λ (c : Bool). if c then done + (smaller (line_end (line_block_at ws at)) lines - done) else done in
      record {
        past = e;
        others = rest;
        follows = λ z. absurd (no z);
        rows = ap (walk_from lines wraps done) (sym same) ∙ ap (λ (c : Bool). R c ++ walk_from lines wraps (D c) rest) (sym t);
        apart = subst (λ (xs : List LineBlock). Apart e xs) (sym same) a;
        done_is = ap D t ∙ d;
        left = next;
      })

pub walk-last : (lines wraps done : ℕ) → walk_from lines wraps done [] ≡ plain_rows done (lines - done)
unfolding walk_from
walk-last lines wraps done = refl

-- A RECORD'S ROWS, as its two runs
module _ (ws : List ℕ) (at lines wraps done : ℕ) where
  pub record_other : (kind_at ws at ≡ 3 → ⊥) → (record_rows ws at lines wraps done ≡ []) × (record_done ws at lines wraps done ≡ done)
  unfolding record_rows record_done
  record_other n = let t = ne_eqb (kind_at ws at) 3 n in (rw t, rw t)

  module _ (k : kind_at ws at ≡ 3) (fs : Follows ws at lines wraps done) (few : lines < 2 ^ 64) (low : wraps < 2 ^ 64)
      (r : Plan) (p : Planned ws at lines wraps done r) (s : List ℕ) (counted : lines ≡ line_count s) where
    abbrev l : LineBlock
    l = line_block_at ws at

    record_rows_lem : record_rows ws at lines wraps done ≡ gap_rows ws at lines wraps done ++ own_rows ws at lines wraps done
    unfolding record_rows
    record_rows_lem = rw (eq-eqb (kind_at ws at) 3 k)

    record_done_lem : record_done ws at lines wraps done ≡ done + (smaller (line_end l) lines - done)
    unfolding record_done
    record_done_lem = rw (eq-eqb (kind_at ws at) 3 k)

    gap-sum : done + r.gap ≡ smaller r.own.first lines
    gap-sum =
        let q = fs k in
        ap (λ (x : ℕ). done + x) p.gap
        ∙ ap (λ (x : ℕ). x + (smaller l.first lines - x)) q.3
        ∙ sym (past-done lines wraps q.0 l.first q.1)
        ∙ ap (λ (x : ℕ). smaller x lines) (sym p.first)

    pub gap-fits : done + r.gap ≤ 2 ^ 64
    gap-fits = let h = smaller_right r.own.first lines in omega (arith, gap-sum, h)

    pub own_fits : r.own.first + r.own.count ≤ 2 ^ 64
    own_fits =
        let h = block_below lines wraps l (fs k).2 (let z : lines ≤ 2 ^ 64 = omega arith in z) low in
        subst (λ (x : ℕ). x ≤ 2 ^ 64) (sym (ap₂ (λ (x y : ℕ). x + y) p.first p.size)) h

    pub gap_passed : (x : ℕ) → At s (done + r.gap) x → At s r.own.first x
    gap_passed x a =
        at_beyond s r.own.first x
        (subst (λ (m : ℕ). At s m x) (gap-sum ∙ ap (smaller r.own.first) counted) a)

    own_sum : smaller (r.own.first + r.own.count) lines ≡ record_done ws at lines wraps done
    own_sum =
        let q = fs k in
        let up : q.0 ≤ line_end l = (let z : q.0 ≤ l.first = q.1 in omega arith) in
        ap (λ (x : ℕ). smaller x lines) (ap₂ (λ (x y : ℕ). x + y) p.first p.size)
        ∙ block-past lines wraps l q.2 (let z : lines ≤ 2 ^ 64 = omega arith in z) low
        ∙ past-done lines wraps q.0 (line_end l) up
        ∙ sym (ap (λ (x : ℕ). x + (smaller (line_end l) lines - x)) q.3) ∙ sym record_done_lem

    pub own_passed : (x : ℕ) → At s (r.own.first + r.own.count) x → At s (record_done ws at lines wraps done) x
    own_passed x a =
        subst (λ (m : ℕ). At s m x) (sym (ap (smaller (r.own.first + r.own.count)) counted) ∙ own_sum)
        (at_back s (r.own.first + r.own.count) x a)

    pub two_runs :
        (width : ℕ)
        → rows_text width s (record_rows ws at lines wraps done)
        ≡ rows_text width s (run_rows done (address_from false ws 0) 0 r.gap) ++ rows_text width s
        (rows_of ws r.own)
    two_runs width =
        ap (rows_text width s)
        (record_rows_lem
        ∙ ap₂ (λ (x y : List Row). x ++ y) (sym (run_plain done ws 0 r.gap ∙ ap (plain_rows done) p.gap)) (sym p.rows))
        ∙ rows_append width s (run_rows done (address_from false ws 0) 0 r.gap)
        (rows_of ws r.own)

-- a part of no bytes
pub nothing_put : {part : List ℕ} (room : List ℕ) → part ≡ [] → Put part room 0 room
unfolding filled written
nothing_put room e = rw e (rw (le-leb 0 (length room) (omega arith)) refl, rw (le-leb 0 (length room) (omega arith)) refl)

-- THE WALK: which line blocks are left at a place, and where the source stands
abbrev pub line_blocks_of : ObjectFile → List LineBlock
line_blocks_of h = h.line_blocks

pub record Walking (ws s : List ℕ) (lines wraps at done next : ℕ) (ls : List LineBlock) : Type 0 where
  pub past : ℕ
  pub left : Left ws at line_blocks_of ls
  pub apart : Apart past ls
  pub done_is : done ≡ smaller (wraps + (past - wraps)) lines
  pub here : At s done next

module _ (ws s : List ℕ) (lines wraps : ℕ) where
  pub walking_start : (done next : ℕ) → checked ws ≡ 0 → done ≡ smaller wraps lines → At s (smaller wraps lines) next
      → Walking ws s lines wraps 0 done next (line_blocks_in ws)
  walking_start done next e d a =
      let f = formed ws e in
      let q : line_blocks_in ws ≡ f.object.line_blocks = ap (λ o. (given_or o empty_object).line_blocks) f.is in
      let z : wraps ≡ wraps + (0 - wraps) = omega arith in
      record {
        past = 0;
        left = subst (λ (ls : List LineBlock). Left ws 0 line_blocks_of ls) (sym q) (start ws line_blocks_of f.object f.is);
        apart = subst (λ (ls : List LineBlock). Apart 0 ls) (sym q) (lines-apart ws f.object f.is);
        done_is = d ∙ ap (λ (x : ℕ). smaller x lines) z;
        here = subst (λ (m : ℕ). At s m next) (sym d) a;
      }

  module _ (at done next : ℕ) (ls : List LineBlock) (g : Walking ws s lines wraps at done next ls) where
    pub walking_low : done ≤ lines
    walking_low = let h = smaller_right (wraps + (g.past - wraps)) lines in omega (arith, g.done_is, h)

    pub walking_end : (width : ℕ) → length ws ≤ at
        → rows_text width s (walk_from lines wraps done ls) ≡ rows_text width s (run_rows done (address_from false ws 0) 0 (lines - done))
    unfolding empty_object
    walking_end width h =
        let e : [] ≡ ls = finish ws line_blocks_of at ls h g.left in
        ap (rows_text width s)
        (ap (walk_from lines wraps done) (sym e) ∙ walk-last lines wraps done ∙ sym (run_plain done ws 0 (lines - done)))

    module _ (h : at < length ws) where
      abbrev step : Walks ws at lines wraps done g.past ls
      step = walks ws at lines wraps done g.past ls h g.left g.apart g.done_is

      abbrev pub others : List LineBlock
      others = step.others

      pub walking_follows : Follows ws at lines wraps done
      walking_follows = step.follows

      pub walking_rows : (width d : ℕ) → d ≡ record_done ws at lines wraps done
          → rows_text width s (walk_from lines wraps done ls)
          ≡ rows_text width s (record_rows ws at lines wraps done) ++ rows_text width s (walk_from lines wraps d others)
      walking_rows width d e =
          ap (rows_text width s) (step.rows ∙ ap (λ (x : ℕ). record_rows ws at lines wraps done ++ walk_from lines wraps x others) (sym e))
          ∙ rows_append width s (record_rows ws at lines wraps done) (walk_from lines wraps d others)

      pub walking_on : (n d m : ℕ) → n ≡ at + 1 + length (body_at ws (at + 1)) → d ≡ record_done ws at lines wraps done
          → At s (record_done ws at lines wraps done) m → Walking ws s lines wraps n d m others
      walking_on n d m e q a = record {
        past = step.past;
        left = step.left n e;
        apart = step.apart;
        done_is = q ∙ step.done_is;
        here = subst (λ (x : ℕ). At s x m) (sym q) a;
      }

pub walk_rows_lem : (ws : List ℕ) (lines wraps done : ℕ) → done ≡ smaller wraps lines
    → walk_from lines wraps done (line_blocks_in ws) ≡ walk_rows ws lines wraps
unfolding walk_rows
walk_rows_lem ws lines wraps done e = ap (λ (d : ℕ). walk_from lines wraps d (line_blocks_in ws)) e
