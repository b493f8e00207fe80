-- What a consistent and a fair object are, part by part, for the laws of the trips; and that `is_fair` asks just what fair says.
-- Assumes nothing.
use mathlib.Core.Path.{◌≡◌, refl, ◌∙◌, ap, subst}
use mathlib.Core.Bool.{Bool, true, ◌&&◌, ◌||◌, not}
use mathlib.Core.List.{List, map}
use mathlib.Core.Option.{Option, none, some}
use Prim.Native.Nat.{ℕ, ◌≤◌}
use native.Mathlib.Omega.{arith}
use lib.ListN.{length}
use lib.Dec.{leb}
use borrow.Author.Tests.{leb-true, le-leb, not-true}
use Rattle.format.specs.Basics.{ascii, is_some, is_empty, every, begins_with, All}
use Rattle.format.specs.Utf8.{is_utf8, is_between}
use Rattle.format.specs.ObjectFile.{LineBlock, ObjectFile, line_end, never_fall, strictly_rise, apart, names_of, source_text, consistent}
use Rattle.format.specs.Source.{newlines}
use Rattle.format.specs.Fair.{no_white_space, FairName, FairLineBlock, gaps_between, FairSource, BlocksOnly, FairParts, only-blocks, with_source_lem, is_fair_name, is_fair_line_block, is_fair_by, is_fair}
use Rattle.format.proofs.ListLaws.{both, all_map, all-every, every-all, all-parts, all_sources, empty_is}

-- what holds of every name holds of the names of labels and of relocations
pub record OfNames (P : List ℕ → Type 0) (h : ObjectFile) : Type 0 where
  pub labels : All (λ l. P l.name) h.labels
  pub relocations : All (λ r. P r.name) h.relocations

pub of_names : (P : List ℕ → Type 0) (h : ObjectFile) → All P (names_of h) → OfNames P h
unfolding names_of
of_names P h all =
    let a = all-parts P (map (λ l. l.name) h.labels) (map (λ r. r.name) h.relocations) all in
    record { labels = all_sources P (λ l. l.name) h.labels a.0; relocations = all_sources P (λ r. r.name) h.relocations a.1 }

pub record Consistent (h : ObjectFile) : Type 0 where
  pub counts : All (λ b. length b.words ≤ 65535) h.blocks
  pub apart : apart h.line_blocks ≡ true
  pub falls : All (λ l. never_fall l.addresses ≡ true) h.line_blocks
  pub home : (is_empty h.line_blocks || is_some h.source) ≡ true
  pub names : OfNames (λ n. is_utf8 n ≡ true) h
  pub text : is_utf8 (source_text h.source) ≡ true

pub consistent-parts : (h : ObjectFile) → consistent h ≡ true → Consistent h
unfolding consistent
consistent-parts h e =
    let a : Bool = every (λ b. leb (length b.words) 65535) h.blocks in
    let b : Bool = apart h.line_blocks in
    let c : Bool = every (λ l. never_fall l.addresses) h.line_blocks in
    let d : Bool = is_empty h.line_blocks || is_some h.source in
    let f : Bool = every is_utf8 (names_of h) in
    let p5 = both (a && b && c && d && f) (is_utf8 (source_text h.source)) e in
    let p4 = both (a && b && c && d) f p5.0 in
    let p3 = both (a && b && c) d p4.0 in
    let p2 = both (a && b) c p3.0 in
    let p1 = both a b p2.0 in
    record {
      counts = all_map (λ x t. leb-true (length x.words) 65535 t) h.blocks (all-every (λ x. leb (length x.words) 65535) h.blocks p1.0);
      apart = p1.1;
      falls = all-every (λ l. never_fall l.addresses) h.line_blocks p2.1;
      home = p3.1;
      names = of_names (λ n. is_utf8 n ≡ true) h (all-every is_utf8 (names_of h) p4.1);
      text = p5.1;
    }

-- a fair object by its source
pub fair-source : (h : ObjectFile) (s : List ℕ) → h.source ≡ some s → FairParts h → FairSource h s
fair-source h s e (only-blocks b) = let n = b.source in let z : ◌≡◌ {A = ℕ} 0 1 = cc in absurd (omega arith)
fair-source h s e (with_source_lem t f) = let n = f.source in let q : t ≡ s = cc in subst (λ (x : List ℕ). FairSource h x) q f

pub fair-blocks : (h : ObjectFile) → h.source ≡ none → FairParts h → BlocksOnly h
fair-blocks h e (only-blocks b) = b
fair-blocks h e (with_source_lem t f) = let n = f.source in let z : ◌≡◌ {A = ℕ} 0 1 = cc in absurd (omega arith)

-- the tests are the facts
name-fair : (n : List ℕ) → is_fair_name n ≡ true → FairName n
unfolding is_fair_name
name-fair n e =
    let dot = begins_with (ascii ".") n in
    let hash = begins_with (ascii "#") n in
    let bar = begins_with (ascii "=") n in
    let a = both (not (is_empty n) && no_white_space n && not dot && not hash) (not bar) e in
    let b = both (not (is_empty n) && no_white_space n && not dot) (not hash) a.0 in
    let c = both (not (is_empty n) && no_white_space n) (not dot) b.0 in
    let d = both (not (is_empty n)) (no_white_space n) c.0 in
    record {
      some_character = not-true (is_empty n) d.0;
      no_white_space_lem = d.1;
      no_dot = not-true dot c.1;
      no_hash = not-true hash b.1;
      no_equals = not-true bar a.1;
    }

fair-name : (n : List ℕ) → FairName n → is_fair_name n ≡ true
unfolding is_fair_name
fair-name n f = rw (f.some_character, f.no_white_space_lem, f.no_dot, f.no_hash, f.no_equals)

line-fair : (s : List ℕ) (l : LineBlock) → is_fair_line_block s l ≡ true → FairLineBlock s l
unfolding is_fair_line_block
line-fair s l e =
    let n : ℕ = length l.addresses in
    let a = both (is_between 1 65535 n && strictly_rise l.addresses) (leb (line_end l) (newlines s)) e in
    let b = both (is_between 1 65535 n) (strictly_rise l.addresses) a.0 in
    let c = both (leb 1 n) (leb n 65535) b.0 in
    record { some_lines = leb-true 1 n c.0; few-lines = leb-true n 65535 c.1; rising = b.1; in_source = leb-true (line_end l) (newlines s) a.1 }

fair-line : (s : List ℕ) (l : LineBlock) → FairLineBlock s l → is_fair_line_block s l ≡ true
unfolding is_fair_line_block
fair-line s l f =
    let n : ℕ = length l.addresses in
    rw (le-leb 1 n f.some_lines, le-leb n 65535 f.few-lines, f.rising, le-leb (line_end l) (newlines s) f.in_source)

pub test_fair : (h : ObjectFile) → is_fair h ≡ true → FairParts h
unfolding is_fair is_fair_by
test_fair h e = go h.source refl e
  where
    go : (o : Option (List ℕ)) → h.source ≡ o → is_fair_by o h ≡ true → FairParts h
    go none q t =
        let a = both (is_empty h.labels && is_empty h.line_blocks) (is_empty h.relocations) t in
        let b = both (is_empty h.labels) (is_empty h.line_blocks) a.0 in
        only-blocks (record {
          labels = empty_is h.labels b.0;
          line-blocks = empty_is h.line_blocks b.1;
          source = q;
          relocations = empty_is h.relocations a.1;
        })
    go (some s) q t =
        let a = both (every is_fair_name (names_of h) && every (is_fair_line_block s) h.line_blocks) (gaps_between h.line_blocks) t in
        let b = both (every is_fair_name (names_of h)) (every (is_fair_line_block s) h.line_blocks) a.0 in
        with_source_lem s (record {
          source = q;
          names = all_map name-fair (names_of h) (all-every is_fair_name (names_of h) b.0);
          line-blocks = all_map (line-fair s) h.line_blocks (all-every (is_fair_line_block s) h.line_blocks b.1);
          gaps = a.1;
        })

pub fair_test : (h : ObjectFile) → FairParts h → is_fair h ≡ true
unfolding is_fair is_fair_by is_empty
fair_test h (only-blocks b) = rw (b.source, b.labels, b.line-blocks, b.relocations)
fair_test h (with_source_lem s f) =
    let n : every is_fair_name (names_of h) ≡ true = every-all is_fair_name (names_of h) (all_map fair-name (names_of h) f.names) in
    let l : every (is_fair_line_block s) h.line_blocks ≡ true = every-all (is_fair_line_block s) h.line_blocks (all_map (fair-line s) h.line_blocks f.line-blocks) in
    ap (λ (o : Option (List ℕ)). is_fair_by o h) f.source ∙ rw (n, l, f.gaps)
