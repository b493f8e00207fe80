-- What the readers keep of the object read so far: its parts rise, each record is as its bytes were asked to be, and line blocks have a
-- source. With the questions after the last record that is a well formed object in range. Assumes nothing.
use mathlib.Core.Path.{◌≡◌, refl, sym, ◌∙◌, ap}
use mathlib.Core.Bool.{or-true, true, ◌&&◌, ◌||◌, not}
use mathlib.Core.List.{List, [], ◌∷◌, ◌++◌, map}
use mathlib.Core.Option.{some}
use Prim.Native.Nat.{ℕ, ◌≤◌}
use lib.ListN.{length}
use lib.Dec.{leb}
use borrow.Author.Tests.{le-leb}
use Rattle.format.specs.Basics.{Outcome, given, ◌>>=◌, every, is_empty, is_some, All}
use Rattle.format.specs.Utf8.{is_utf8}
use Rattle.format.specs.Sorted.{upsert}
use Rattle.format.specs.ObjectFile.{LineBlock, ObjectFile, block_key, label_key, line_key, relocation_key, never_fall, apart, names_of, source_text, consistent}
use Rattle.format.specs.Records.{Record, block, label, line_block, source, relocation, empty_object, put_record, gather_records, drop_stray_relocations, with_blocks, with_labels, with_lines, with_relocations, Question, ask_all, concluded}
use Rattle.format.specs.Words.{words_of, object_of}
use Rattle.format.proofs.WordsOnly.{bind_given, given-same}
use Rattle.format.proofs.WordsTrip.{words_back}
use Rattle.format.proofs.SortedLaws.{Rises, all-upsert, rises-upsert}
use Rattle.format.proofs.ListLaws.{all_map, all_append, all_images, every-all}
use Rattle.format.proofs.Utf8Laws.{Text, text-append, text-ascii, text_utf8}
use Rattle.format.proofs.TextPieces.{text-bytes}
use Rattle.format.proofs.Outcomes.{by_if, Gives, gives, gives_bind}
use Rattle.format.proofs.Ranges.{WellFormed, InRange, InBlock, InLine, In16, In64}

-- a part of an object: its keys rise, and each element is as its reader left it
abbrev pub Kept : {A : Type 0} → (A → List ℕ) → (A → Type 0) → List A → Type 0
Kept key P xs = Rises key xs × All P xs

kept-upsert : {A : Type 0} (key : A → List ℕ) (P : A → Type 0) (a : A) (xs : List A) → P a → Kept key P xs → Kept key P (upsert key a xs)
kept-upsert key P a xs p h = (rises-upsert key a xs h.0, all-upsert key P a xs p h.1)

abbrev pub Whole : ObjectFile → Type 0
Whole h = WellFormed h × InRange h

-- the words of what is well formed and in range are well formed
pub words_formed :
    (o : Outcome ObjectFile) (ws : List ℕ) → Gives Whole o → (o >>= λ h. given (words_of h)) ≡ given ws
    → (h : ObjectFile) × (object_of ws ≡ given h)
words_formed o ws g e =
    let p = bind_given o (λ h. given (words_of h)) ws e in
    let w = gives Whole o p.0 g p.1 in
    (p.0, ap object_of (sym (given-same p.2)) ∙ words_back p.0 w.0 w.1)

-- of the line blocks, what only all of them together settle
abbrev LinesStand : List LineBlock → Type 0
LinesStand ls = (apart ls ≡ true) × (every (λ l. never_fall l.addresses) ls ≡ true)

-- A record as its reader's questions leave it; what they leave of a line block differs between the forms.
module _ (Line : LineBlock → Type 0) where
  abbrev pub Sound : Record → Type 0
  Sound (block b) = InBlock b × (length b.words ≤ 65535)
  Sound (label l) = In16 l.address × In64 l.start × Text l.name
  Sound (line_block l) = InLine l × Line l
  Sound (source s) = Text s
  Sound (relocation r) = In16 r.address × Text r.name

  pub record Formed (h : ObjectFile) : Type 0 where
    pub blocks : Kept block_key (λ b. Sound (block b)) h.blocks
    pub labels : Kept label_key (λ l. Sound (label l)) h.labels
    pub line_blocks : Kept line_key (λ l. Sound (line_block l)) h.line_blocks
    pub source : Text (source_text h.source)
    pub relocations : Kept relocation_key (λ r. Sound (relocation r)) h.relocations
    pub sourced : (is_empty h.line_blocks || is_some h.source) ≡ true

  formed :
      (h : ObjectFile) → Kept block_key (λ b. Sound (block b)) h.blocks → Kept label_key (λ l. Sound (label l)) h.labels
      → Kept line_key (λ l. Sound (line_block l)) h.line_blocks → Text (source_text h.source)
      → Kept relocation_key (λ r. Sound (relocation r)) h.relocations → (is_empty h.line_blocks || is_some h.source) ≡ true → Formed h
  formed h b l m s r e = record { blocks = b; labels = l; line_blocks = m; source = s; relocations = r; sourced = e }

  pub empty_formed : Formed empty_object
  unfolding empty_object is_empty source_text
  empty_formed = formed empty_object (tt, tt) (tt, tt) (tt, tt) (text-ascii [] tt) (tt, tt) refl

  -- other line blocks, with a source
  pub lines_formed :
      (h : ObjectFile) (ls : List LineBlock) (s : List ℕ) → Formed h → Kept line_key (λ l. Sound (line_block l)) ls → Text s
      → Formed (with_lines h ls (some s))
  unfolding source_text is_some
  lines_formed h ls s f k x = formed (with_lines h ls (some s)) f.blocks f.labels k x f.relocations (or-true (is_empty ls))

  -- a record put to the object keeps it formed
  pub put_formed : (h : ObjectFile) (r : Record) → Formed h → Sound r → Formed (put_record h r)
  unfolding put_record source_text is_some
  put_formed h (block b) f s =
      formed (with_blocks h (upsert block_key b h.blocks)) (kept-upsert block_key (λ b. Sound (block b)) b h.blocks s f.blocks)
      f.labels f.line_blocks f.source f.relocations f.sourced
  put_formed h (label l) f s =
      formed (with_labels h (upsert label_key l h.labels)) f.blocks
      (kept-upsert label_key (λ l. Sound (label l)) l h.labels s f.labels) f.line_blocks f.source f.relocations f.sourced
  put_formed h (line_block l) f s =
      lines_formed h (upsert line_key l h.line_blocks) (source_text h.source) f
      (kept-upsert line_key (λ l. Sound (line_block l)) l h.line_blocks s f.line_blocks) f.source
  put_formed h (source t) f s =
      lines_formed h h.line_blocks (source_text h.source ++ t) f f.line_blocks (text-append (source_text h.source) t f.source s)
  put_formed h (relocation r) f s =
      formed (with_relocations h (upsert relocation_key r h.relocations)) f.blocks f.labels f.line_blocks f.source
      (kept-upsert relocation_key (λ r. Sound (relocation r)) r h.relocations s f.relocations) f.sourced

  pub gather_formed : (h : ObjectFile) (rs : List Record) → Formed h → All Sound rs → Formed (gather_records h rs)
  unfolding gather_records
  gather_formed h [] f s = f
  gather_formed h (r ∷ rs) f s = gather_formed (put_record h r) rs (put_formed h r f s.0) s.1

  -- and with the line blocks apart and their addresses never falling it is well formed and in range
  formed_whole : (h : ObjectFile) → Formed h → LinesStand h.line_blocks → Whole h
  unfolding consistent names_of
  formed_whole h f k =
      let counts =
      every-all (λ b. leb (length b.words) 65535) h.blocks
      (all_map (λ b s. le-leb (length b.words) 65535 s.1) h.blocks f.blocks.1) in
      let named = all_map (λ l s. text_utf8 l.name s.2) h.labels f.labels.1 in
      let moved = all_map (λ r s. text_utf8 r.name s.1) h.relocations f.relocations.1 in
      let names =
      every-all is_utf8 (map (λ l. l.name) h.labels ++ map (λ r. r.name) h.relocations)
      (all_append (λ t. is_utf8 t ≡ true) (map (λ l. l.name) h.labels) (map (λ r. r.name) h.relocations)
      (all_images (λ t. is_utf8 t ≡ true) (λ l. l.name) h.labels named)
      (all_images (λ t. is_utf8 t ≡ true) (λ r. r.name) h.relocations moved)) in (
        record {
          blocks = f.blocks.0;
          labels = f.labels.0;
          line_blocks = f.line_blocks.0;
          relocations = f.relocations.0;
          consistent = rw (counts, k.0, k.1, f.sourced, names, text_utf8 (source_text h.source) f.source);
        },
        record {
          blocks = all_map (λ b s. s.0) h.blocks f.blocks.1;
          labels = all_map (λ l s. (s.0, s.1, text-bytes l.name s.2)) h.labels f.labels.1;
          line_blocks = all_map (λ l s. s.0) h.line_blocks f.line_blocks.1;
          source = text-bytes (source_text h.source) f.source;
          relocations = all_map (λ r s. (s.0, text-bytes r.name s.1)) h.relocations f.relocations.1;
        },
      )

  -- what a reader hands on, where its last questions and what it kept of the line blocks settle these two
  pub concluded_formed :
      (qs : List Question) (h : ObjectFile) → Formed h → Gives (λ _. LinesStand h.line_blocks) (ask_all qs h)
      → Gives Whole (concluded qs h)
  unfolding concluded drop_stray_relocations
  concluded_formed qs h f q =
      gives_bind _ (λ _. LinesStand h.line_blocks) (ask_all qs h) _ q λ _ k.
      by_if Whole (is_empty h.labels && not (is_some h.source)) _ _
      (λ _. formed_whole (with_relocations h [])
      (formed (with_relocations h []) f.blocks f.labels f.line_blocks f.source (tt, tt) f.sourced) k)
      (λ _. formed_whole h f k)
