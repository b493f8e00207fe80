-- A file's first line, its groups, and the last question. Assumes nothing.
use mathlib.Core.Path.{◌≡◌, refl, sym, ap, ◌∙◌, subst}
use mathlib.Core.Bool.{Bool, true, false, ◌||◌, not}
use mathlib.Core.List.{List, [], ◌∷◌}
use Prim.Native.Nat.{ℕ, zero, suc, ◌-◌, ◌^◌, ◌/◌, ◌%◌, ◌≤◌, ◌<◌}
use native.Mathlib.Nat.{zero-div}
use native.Mathlib.Omega.{arith}
use lib.ListN.{length, take, drop, get_or, replicate}
use lib.Seq.{take-nil, length-take-le}
use lib.Dec.{leb, eqb}
use Rattle.format.specs.Basics.{Outcome, refused, given, ◌>>=◌, ask, every, chain, is_some, is_empty, eqs, begins_with, ascii}
use Rattle.format.specs.Tokens.{parts_at, fold_outcome}
use Rattle.format.specs.Sorted.{at_key}
use Rattle.format.specs.Utf8.{is_utf8, trim}
use Rattle.format.specs.ObjectFile.{ObjectFile, LineBlock}
use Rattle.format.specs.Records.{empty_object, ask_all, concluded, text_questions, drop_stray_relocations}
use Rattle.format.specs.TextReader.{kept_lines, after_magic, parse_group, text_object}
use Rattle.format.specs.Calls.{refusal_of}
use Rattle.trim.specs.Span.{part, Spans}
use Rattle.text_lines.specs.Lines.{kept, LineAt}
use Rattle.text_lines.proofs.LineLaws.{kept-trimmed, to_end}
use Rattle.text_lines.specs.Groups.{parts_from}
use Rattle.text_blocks.specs.Blocks.{is_marked, Seen, Counts}
use Rattle.text_scan.specs.Walk.{Walk, blocks_rise, Lined, Comes, groups_from, GroupsWalked}
use Rattle.text_scan.proofs.RunLaws.{lined_rise}
use Rattle.text_scan.proofs.WalkLaws.{groups-read}
use Rattle.text_scan.specs.Scan.{groups_object, trimmed_object, Scan, refused_scan, Read, Scans}

-- NO BLOCK IS MARKED
get_d_zero : (n a : ℕ) → ◌≡◌ {A = ℕ} (get_or (replicate n 0) a 0) 0
get_d_zero zero a = refl
get_d_zero (suc n) zero = refl
get_d_zero (suc n) (suc a) = get_d_zero n a

none_seen : (n : ℕ) → Seen empty_object (replicate n 0)
unfolding empty_object at_key is_some is_marked
none_seen n a = sym (ap (λ (x : ℕ). eqb (x / 2 ^ (a % 8) % 2) 1) (get_d_zero n (a / 8)) ∙ ap (λ (q : ℕ). eqb (q % 2) 1) (zero-div (2 ^ (a % 8))))

long : (n : ℕ) → n ≤ length {A = ℕ} (replicate n 0)
long zero = omega arith
long (suc n) = let h : n ≤ length {A = ℕ} (replicate n 0) = long n in omega arith

pub marks_begin : (n : ℕ) → (n ≤ length {A = ℕ} (replicate n 0)) × Seen empty_object (replicate n 0)
marks_begin n = (long n, none_seen n)

-- THE FIRST LINE
pub magic-none : (t : List ℕ) (start : ℕ) → kept (drop start t) ≡ [] → trimmed_object t start ≡ refused 21
unfolding trimmed_object after_magic
magic-none t start e = rw e

after_22 : (b : Bool) (o : Outcome ObjectFile) (f : ObjectFile → Outcome ObjectFile)
    → (ask 22 b >>= λ _. o >>= f) ≡ ((ask 22 b >>= λ _. o) >>= f)
after_22 true o f = refl
after_22 false o f = refl

-- what follows the first line
abbrev after_line : List (List ℕ) → Outcome ObjectFile
after_line ls =
    ask 22 (is_empty (parts_at (begins_with (ascii ".")) ls).before) >>= λ _.
    fold_outcome parse_group empty_object (parts_at (begins_with (ascii ".")) ls).groups >>= λ h. concluded text_questions h

module _ (t : List ℕ) (start a e n : ℕ) (l : LineAt kept t start a e n) where
  first-line : (b : Bool) → eqs (part a e t) (ascii "LC-3 OBJ FILE") ≡ b
      → trimmed_object t start ≡ (ask 21 b >>= λ _. after_line (kept (drop n t)))
  unfolding trimmed_object after_magic
  first-line b q = ap (λ (ls : List (List ℕ)). after_magic ls >>= after_line) l.same ∙ go (eqs (part a e t) (ascii "LC-3 OBJ FILE")) b q
    where
      go : (x y : Bool) → x ≡ y
          → ((ask 21 x >>= λ _. given (kept (drop n t))) >>= after_line) ≡ (ask 21 y >>= λ _. after_line (kept (drop n t)))
      go true y q = ap (λ (z : Bool). ask 21 z >>= λ _. after_line (kept (drop n t))) q
      go false y q = ap (λ (z : Bool). ask 21 z >>= λ _. after_line (kept (drop n t))) q

  pub magic_no : eqs (part a e t) (ascii "LC-3 OBJ FILE") ≡ false → trimmed_object t start ≡ refused 21
  magic_no q = first-line false q

  magic-yes : eqs (part a e t) (ascii "LC-3 OBJ FILE") ≡ true → trimmed_object t start ≡ groups_object t n
  unfolding groups_object groups_from parts_from
  magic-yes q =
      first-line true q
      ∙ after_22 (is_empty (parts_at (begins_with (ascii ".")) (kept (drop n t))).before)
      (fold_outcome parse_group empty_object (parts_at (begins_with (ascii ".")) (kept (drop n t))).groups) (concluded text_questions)

  pub scan_magic : eqs (part a e t) (ascii "LC-3 OBJ FILE") ≡ true → (r : Scan) → Scans t (groups_object t n) r → Scans t (trimmed_object t start) r
  scan_magic q r s = subst (λ (o : Outcome ObjectFile). Scans t o r) (sym (magic-yes q)) s

-- THE GROUPS
module _ (t : List ℕ) (n : ℕ) where
  from-groups : (o : Outcome ObjectFile) → groups_from t n empty_object ≡ o → groups_object t n ≡ (o >>= concluded text_questions)
  unfolding groups_object
  from-groups o g = ap (λ (x : Outcome ObjectFile). x >>= concluded text_questions) g

  module _ (w : Walk) (c : GroupsWalked t n w) where
    abbrev Agreed : ObjectFile → Type 0
    Agreed h = Lined t w.sourced w.rows w.lines h × Counts h w.words

    -- 22 to 30
    pub scan_groups : (w.number ≡ 0 → ⊥) → groups_object t n ≡ refused w.number
    scan_groups ne = go (groups_from t n empty_object) refl c
      where
        go : (o : Outcome ObjectFile) → groups_from t n empty_object ≡ o → Comes Agreed w.number o
            → groups_object t n ≡ refused w.number
        go (refused m) g s = from-groups (refused m) g ∙ ap refused (sym s.0)
        go (given h) g s = absurd (ne s.0)

    module _ (z : w.number ≡ 0) where
      groups-given : (h : ObjectFile) × (groups_from t n empty_object ≡ given h) × Agreed h
      groups-given = go (groups_from t n empty_object) refl c
        where
          go : (o : Outcome ObjectFile) → groups_from t n empty_object ≡ o → Comes Agreed w.number o
              → (h : ObjectFile) × (groups_from t n empty_object ≡ given h) × Agreed h
          go (refused m) g s = absurd (omega (arith, s.0, s.1, z))
          go (given h) g s = (h, g, s.1)

      concluded_by : (h : ObjectFile) (b : Bool) → blocks_rise h.line_blocks ≡ b
          → concluded text_questions h ≡ (ask 31 b >>= λ _. given (drop_stray_relocations h))
      unfolding concluded ask_all blocks_rise
      concluded_by h b q = go (every (λ (l : LineBlock). chain leb l.addresses) h.line_blocks) b q
        where
          go : (x y : Bool) → x ≡ y
              → ((ask 31 x >>= λ _. given (tt {0})) >>= λ _. given (drop_stray_relocations h))
              ≡ (ask 31 y >>= λ _. given (drop_stray_relocations h))
          go true y q = ap (λ (v : Bool). ask 31 v >>= λ _. given (drop_stray_relocations h)) q
          go false y q = ap (λ (v : Bool). ask 31 v >>= λ _. given (drop_stray_relocations h)) q

      concludes : (b : Bool) → (not w.sourced || w.lines.rise) ≡ b
          → groups_object t n ≡ (ask 31 b >>= λ _. given (drop_stray_relocations groups-given.0))
      concludes b q =
          from-groups (given groups-given.0) groups-given.1
          ∙ concluded_by groups-given.0 b (sym (lined_rise t w.sourced w.rows w.lines groups-given.0 groups-given.2.0) ∙ q)

      -- 31
      pub scan_fallen : (not w.sourced || w.lines.rise) ≡ false → groups_object t n ≡ refused 31
      scan_fallen q = concludes false q

      pub scan_read : n ≤ length t → (not w.sourced || w.lines.rise) ≡ true
          → Scans t (groups_object t n) (record { number = 0; first = n; end = length t; sourced = w.sourced; rows = w.rows; lines = w.lines; words = w.words })
      scan_read inside q =
          let r : Scan = record { number = 0; first = n; end = length t; sourced = w.sourced; rows = w.rows; lines = w.lines; words = w.words } in
          subst (λ (o : Outcome ObjectFile). Scans t o r) (sym (concludes true q))
          (record {
            yes = refl;
            end = refl;
            inside = inside;
            object = groups-given.0;
            before = (groups-read t n empty_object groups-given.0 groups-given.1).0;
            groups = (groups-read t n empty_object groups-given.0 groups-given.1).1;
            lines = groups-given.2.0;
            words = groups-given.2.1;
            whole = refl;
          })

-- a refusal
pub scans_no : (t : List ℕ) (o : Outcome ObjectFile) (n : ℕ) (r : Scan) → o ≡ refused n → 0 < n → r ≡ refused_scan n → Scans t o r
scans_no t o n r e l q = subst (λ (x : Outcome ObjectFile). Scans t x r) (sym e) (q, l)

-- THE FILE
drop-take : (x n : ℕ) (l : List ℕ) → drop x (take n l) ≡ take (n - x) (drop x l)
drop-take zero n l = let k : n ≡ n - 0 = omega arith in ap (λ (j : ℕ). take j l) k
drop-take (suc x) zero l = let k : 0 - suc x ≡ 0 = omega arith in ap (λ (j : ℕ). take j (drop (suc x) l)) (sym k)
drop-take (suc x) (suc n) [] = sym (take-nil (suc n - suc x))
drop-take (suc x) (suc n) (b ∷ bs) =
    drop-take x n bs ∙ (let k : n - x ≡ suc n - suc x = omega arith in ap (λ (j : ℕ). take j (drop x bs)) k)

module _ (s : List ℕ) where
  pub scan_bytes : is_utf8 s ≡ false → text_object s ≡ refused 20
  unfolding text_object
  scan_bytes e = rw e

  module _ (start end : ℕ) (u : is_utf8 s ≡ true) (p : Spans s start end (trim (part 0 (length s) s))) where
    trimmed-lines : kept_lines s ≡ kept (drop start (take end s))
    trimmed-lines =
        kept-trimmed s ∙ ap (λ (x : List ℕ). kept (trim x)) (sym (to_end s 0)) ∙ ap kept (sym p.same ∙ sym (drop-take start end s))

    pub scan_file : text_object s ≡ trimmed_object (take end s) start
    unfolding text_object trimmed_object
    scan_file =
        ap (λ (b : Bool). ask 20 b >>= λ _. after_magic (kept_lines s) >>= after_line) u
        ∙ ap (λ (ls : List (List ℕ)). after_magic ls >>= after_line) trimmed-lines

-- the number that a scan hands back
pub scans_number : (t : List ℕ) (o : Outcome ObjectFile) (r : Scan) → Scans t o r → r.number ≡ refusal_of o
scans_number t (refused n) r s = ap (λ (x : Scan). x.number) s.0
scans_number t (given h) r s = s.yes

-- of a file up to the end that is handed back
pub scans_end : (s : List ℕ) (end : ℕ) (o : Outcome ObjectFile) (r : Scan) → end ≤ length s → Scans (take end s) o r
    → Scans (take r.end s) o r
scans_end s end (refused n) r h q = q
scans_end s end (given h') r h q =
    let e : r.end ≡ end = q.end ∙ length-take-le end s h in
    subst (λ (x : ℕ). Read (take x s) r h') (sym e) q
