-- Two parts: the address, and the entries' words. Assumes nothing.
use borrow.Author.Rules.{rules}
use native.Mathlib.Omega.{arith}
use mathlib.Core.Path.{◌≡◌, refl, sym, ap, ◌∙◌}
use mathlib.Core.List.{List, [], ◌∷◌, map, append-nil}
use Prim.Native.Nat.{ℕ, suc, ◌<◌}
use lib.ListN.{length}
use Rattle.format.specs.Words.{memory_word}
use Rattle.writing.specs.Written.{Put}
use Rattle.writing.proofs.WriteLaws.{too_short}
use Rattle.writing.proofs.Parts.{State, Emits, after, rest, begin, emit, emitted, within, small}
use Rattle.text_gather.specs.Keys.{address_at}
use Rattle.text_words.specs.declared.Entries.{Entries}
use Rattle.text_words.specs.Written.{entries_from, EntriesOf, words_at}
use Rattle.text_words.proofs.WordLaws.{entries-length, rest-room, block_words_lem}
use Rattle.text_words.proofs.put_block.Goals as goal
use Rattle.text_words.proofs.put_block.Goals.{After-put_word-at}

module _ (t out : List ℕ) (p a : ℕ) (e : Entries) (ha : a ≡ address_at 0 t p) (he : EntriesOf t p e) where
  abbrev whole : List ℕ
  whole = words_at 0 t p

  abbrev entries : List ℕ
  entries = map memory_word (entries_from t e.from e.count)

  words : whole ≡ a ∷ entries
  words = block_words_lem _ _ _ _ ha he.same

  long : length entries ≡ e.count
  long = entries-length _ _ _ he.all

  abbrev start : State ℕ
  start = record { at = 0; out = out }

  address-put : (r : ℕ) (o : List ℕ) → e.count < length out → Put (a ∷ []) (rest start) r o → Emits whole out entries (after start r o)
  address-put r o h w = emit (begin _ _ (omega (arith, ap length words, long, h))) (a ∷ []) entries words w

emits1 : (c : After-put_word-at) →
    let e = c.entries_at-e.result in
    let t = c.args.t.now in
    Emits (words_at 0 t c.args.p) c.args.out.now (map memory_word (entries_from t e.from e.count)) (after (record { at = 0; out = c.args.out.now }) c.put_word-at.result c.put_word-at.new.out)
emits1 c =
    address-put _ _ _ _ _ (c.from.ensures ∙ c.address_at-address.ensures) c.entries_at-e.ensures _ _ c.if-out-e.false c.put_word-at.ensures

pub returns-then-out-e : goal.returns-then-out-e
returns-then-out-e c =
    let t = c.args.t.now in
    let e = c.entries_at-e in
    too_short _ _ (suc e.result.count)
    (ap length (words t c.args.out.now c.args.p _ e.result c.address_at-address.ensures e.ensures) ∙ ap suc (long t c.args.out.now c.args.p _ e.result c.address_at-address.ensures e.ensures))
    (omega (arith, c.if-out-e.true))

pub offset_bounds-out-at-2 : goal.offset_bounds-out-at-2
offset_bounds-out-at-2 c = let h = within (emits1 (goal.at.offset_bounds-out-at-2 c).After-put_word-at) in search rules

pub slice_bounds-put_entries-count : goal.slice_bounds-put_entries-count
slice_bounds-put_entries-count c = within (emits1 (goal.at.slice_bounds-put_entries-count c).After-put_word-at)

pub slice_bounds-put_entries-start : goal.slice_bounds-put_entries-start
slice_bounds-put_entries-start c = within (emits1 (goal.at.slice_bounds-put_entries-start c).After-put_word-at)

pub put_entries-at-requires : goal.put_entries-at-requires
put_entries-at-requires c =
    let e = c.entries_at-e in
    (omega (arith, rest-room _ _ _ _ (emits1 (goal.at.put_entries-at-requires c).After-put_word-at), entries-length _ _ _ e.ensures.all), e.ensures.all)

pub overflow_add-at-2 : goal.overflow_add-at-2
overflow_add-at-2 c =
    small (emit (emits1 (goal.at.overflow_add-at-2 c).After-put_word-at) _ [] (sym (append-nil _)) c.put_entries-at.ensures) (omega arith)

pub returns : goal.returns
returns c =
    emitted (emit (emits1 (goal.at.returns c).After-put_word-at) _ [] (sym (append-nil _)) c.put_entries-at.ensures) refl
