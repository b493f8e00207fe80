-- The walk agrees with the definition. Assumes nothing.
use mathlib.Core.Path.{◌≡◌, refl, sym, ◌∙◌, ap}
use mathlib.Core.Bool.{Bool, true, false, ◌&&◌, ◌||◌, not}
use mathlib.Core.List.{List, [], ◌∷◌, ◌++◌, map}
use mathlib.Core.Option.{Option, none}
use Prim.Native.Nat.{ℕ, Ordering}
use native.Mathlib.Omega.{arith}
use lib.ListN.{length}
use lib.Dec.{leb}
use borrow.Author.Tests.{le-leb}
use Rattle.format.specs.Basics.{Outcome, refused, given, ◌>>=◌, ask, is_empty, every, chain}
use Rattle.format.specs.Sorted.{order, is_less, rises}
use Rattle.format.proofs.SortedLaws.{order_trans}
use Rattle.format.specs.Tokens.{parts_at}
use Rattle.format.specs.Utf8.{is_utf8, scalars_from}
use Rattle.format.specs.Basics.{is_given}
use Rattle.format.specs.ObjectFile.{LineBlock, Relocation, ObjectFile, line_end, never_fall, apart, names_of, source_text}
use Rattle.format.specs.ObjectFile.{consistent}
use Rattle.format.specs.Basics.{is_some}
use Rattle.format.specs.Records.{Record, block, label, line_block, source, relocation, record_key, placed, empty_object, with_relocations}
use Rattle.format.specs.Words.{is_head, record_from, records_from, object_of}
use Rattle.object.specs.Bodies.{allows}
use Rattle.well_formed.specs.Run.{Past, start, sound_record, apart_from, fits, after, along, walk}
use Rattle.format.proofs.ListLaws.{by_test}
use Rattle.object.proofs.Tests.{clash, none_pass}

-- keys that rise from a key
abbrev rises_from : List ℕ → List Record → Bool
rises_from k [] = true
rises_from k (r ∷ rs) = is_less (order k (record_key r)) && rises_from (record_key r) rs

rises-cons : (r : Record) (rs : List Record) → rises record_key (r ∷ rs) ≡ rises_from (record_key r) rs
unfolding rises chain
rises-cons r [] = refl
rises-cons r (q ∷ rs) = ap (λ t. is_less (order (record_key r) (record_key q)) && t) (rises-cons q rs)

key-first : (r : Record) → is_less (order [] (record_key r)) ≡ true
unfolding order record_key
key-first (block b) = refl
key-first (label l) = refl
key-first (line_block l) = refl
key-first (source s) = refl
key-first (relocation r) = refl

rises-from : (rs : List Record) → rises record_key rs ≡ rises_from [] rs
unfolding rises chain
rises-from [] = refl
rises-from (r ∷ rs) = rises-cons r rs ∙ rw (key-first r)

-- line blocks apart from a place on
abbrev apart_all : ℕ → List LineBlock → Bool
apart_all e [] = true
apart_all e (l ∷ ls) = leb e l.first && apart_all (line_end l) ls

apart_cons : (l : LineBlock) (ls : List LineBlock) → apart (l ∷ ls) ≡ apart_all (line_end l) ls
unfolding apart chain
apart_cons l [] = refl
apart_cons l (m ∷ ls) = ap (λ t. leb (line_end l) m.first && t) (apart_cons m ls)

apart_from_lem : (ls : List LineBlock) → apart ls ≡ apart_all 0 ls
unfolding apart chain
apart_from_lem [] = refl
apart_from_lem (l ∷ ls) = apart_cons l ls ∙ rw (leb-zero l.first)
  where
    leb-zero : (n : ℕ) → leb 0 n ≡ true
    leb-zero n = le-leb 0 n (omega arith)

-- what is left to ask of an object, after a past
abbrev blocks_ok : ObjectFile → Bool
blocks_ok h = every (λ b. leb (length b.words) 65535) h.blocks

abbrev lines_ok : ObjectFile → Bool
lines_ok h = every (λ l. never_fall l.addresses) h.line_blocks

abbrev names_ok : ObjectFile → Bool
names_ok h = every is_utf8 (names_of h)

abbrev text_ok : ObjectFile → Bool
text_ok h = is_utf8 (source_text h.source)

abbrev source_ok : Past → ObjectFile → Bool
source_ok p h = (not p.lined && is_empty h.line_blocks) || (p.sourced || is_some h.source)

abbrev sound_from : Past → ObjectFile → Bool
sound_from p h = blocks_ok h && (apart_all p.end h.line_blocks && (lines_ok h && (source_ok p h && (names_ok h && text_ok h))))

and_right : (a b c d e f : Bool) → (a && b && c && d && e && f) ≡ (a && (b && (c && (d && (e && f)))))
and_right false b c d e f = refl
and_right true false c d e f = refl
and_right true true false d e f = refl
and_right true true true false e f = refl
and_right true true true true e f = refl

sound-from : (h : ObjectFile) → consistent h ≡ sound_from start h
unfolding consistent
sound-from h = rw (apart_from_lem h.line_blocks) (and_right (blocks_ok h) (apart_all 0 h.line_blocks) (lines_ok h)
    (is_empty h.line_blocks || is_some h.source) (names_ok h) (text_ok h))

-- Bools of the walk and of the definition, regrouped
of_block_lem : (k r b e x : Bool) → ((k && r) && ((b && e) && x)) ≡ ((k && (b && true)) && (r && (e && x)))
of_block_lem false r b e x = refl
of_block_lem true false false e x = refl
of_block_lem true false true e x = refl
of_block_lem true true false e x = refl
of_block_lem true true true e x = refl

of_name : (k r b a n d u x t : Bool) → ((k && r) && (b && (a && (n && (d && ((u && x) && t))))))
    ≡ ((k && (u && true)) && (r && (b && (a && (n && (d && (x && t)))))))
of_name false r b a n d u x t = refl
of_name true r b a n d true x t = refl
of_name true false b a n d false x t = refl
of_name true true false a n d false x t = refl
of_name true true true false n d false x t = refl
of_name true true true true false d false x t = refl
of_name true true true true true false false x t = refl
of_name true true true true true true false x t = refl

of_line : (k r b f a v n o s x : Bool)
    → ((k && r) && (b && ((f && a) && ((v && n) && (((o && false) || s) && x)))))
    ≡ ((k && (v && f)) && (r && (b && (a && (n && ((false || s) && x))))))
of_line false r b f a v n o s x = refl
of_line true false b true a true n o s x = refl
of_line true false b true a false n o s x = refl
of_line true false b false a true n o s x = refl
of_line true false b false a false n o s x = refl
of_line true true b true a true n true s x = refl
of_line true true b true a true n false s x = refl
of_line true true true false a true n o s x = refl
of_line true true false false a true n o s x = refl
of_line true true true false a false n o s x = refl
of_line true true false false a false n o s x = refl
of_line true true false true a false n o s x = refl
of_line true true true true false false n o s x = refl
of_line true true true true true false n o s x = refl

of_source_lem : (k b a n l o u t : Bool)
    → ((k && true) && (b && (a && (n && ((l || (o || true)) && (u && t))))))
    ≡ ((k && (t && true)) && (true && (b && (a && (n && ((l || (true || false)) && (u && true)))))))
of_source_lem false b a n l o u t = refl
of_source_lem true false a n l o u true = refl
of_source_lem true false a n l o u false = refl
of_source_lem true true false n l o u true = refl
of_source_lem true true false n l o u false = refl
of_source_lem true true true false l o u true = refl
of_source_lem true true true false l o u false = refl
of_source_lem true true true true true o true true = refl
of_source_lem true true true true true o true false = refl
of_source_lem true true true true true o false true = refl
of_source_lem true true true true true o false false = refl
of_source_lem true true true true false true true true = refl
of_source_lem true true true true false true true false = refl
of_source_lem true true true true false true false true = refl
of_source_lem true true true true false true false false = refl
of_source_lem true true true true false false true true = refl
of_source_lem true true true true false false true false = refl
of_source_lem true true true true false false false true = refl
of_source_lem true true true true false false false false = refl

of_fallen : (k t x : Bool) → ((k && false) && x) ≡ ((k && (t && true)) && false)
of_fallen false t x = refl
of_fallen true true x = refl
of_fallen true false x = refl

of_end : (l s : Bool) → ((not l && true) || (s || false)) && true ≡ not l || s
of_end true true = refl
of_end true false = refl
of_end false true = refl
of_end false false = refl

-- after a source, or a later key, no source comes
no_source : (k : List ℕ) (rs : List Record) → is_less (order k (3 ∷ [])) ≡ false → rises_from k rs ≡ true → (placed rs).source ≡ none
unfolding placed empty_object record_key
no_source k [] h e = refl
no_source k (r ∷ rs) h e = go r (λ q. no_source (record_key q) rs) (and_left (is_less (order k (record_key r))) (rises_from (record_key r) rs) e)
  where
    and_left : (a b : Bool) → (a && b) ≡ true → (a ≡ true) × (b ≡ true)
    and_left true b e = (refl, e)
    and_left false b e = clash e refl

    is_lt : (o : Ordering) → is_less o ≡ true → o ≡ Ordering.lt
    is_lt Ordering.lt e = refl
    is_lt Ordering.eq e = clash e refl
    is_lt Ordering.gt e = clash e refl

    later : (q : Record) → is_less (order k (record_key q)) ≡ true → is_less (order (record_key q) (3 ∷ [])) ≡ false
    later q a =
        by_test (is_less (order (record_key q) (3 ∷ [])))
        (λ t. clash (ap is_less (order_trans k (record_key q) (3 ∷ []) (is_lt _ a) (is_lt _ t))) h)
        (λ t. t)

    go : (q : Record) → ((q : Record) → is_less (order (record_key q) (3 ∷ [])) ≡ false → rises_from (record_key q) rs ≡ true
        → (placed rs).source ≡ none)
        → (is_less (order k (record_key q)) ≡ true) × (rises_from (record_key q) rs ≡ true) → (placed (q ∷ rs)).source ≡ none
    go (block b) ih w = ih (block b) (later (block b) w.0) w.1
    go (label l) ih w = ih (label l) (later (label l) w.0) w.1
    go (line_block l) ih w = ih (line_block l) (later (line_block l) w.0) w.1
    go (source s) ih w = clash w.0 h
    go (relocation q) ih w = ih (relocation q) (later (relocation q) w.0) w.1

every_append : {A : Type 0} (t : A → Bool) (xs ys : List A) → every t (xs ++ ys) ≡ (every t xs && every t ys)
unfolding every
every_append t [] ys = refl
every_append t (x ∷ xs) ys = rw (every_append t xs ys) (assoc (t x) (every t xs) (every t ys))
  where
    assoc : (a b c : Bool) → (a && (b && c)) ≡ ((a && b) && c)
    assoc true b c = refl
    assoc false b c = refl

names_split : (h : ObjectFile) → every is_utf8 (names_of h) ≡ (every is_utf8 (map (λ l. l.name) h.labels) && every is_utf8
    (map (λ r. r.name) h.relocations))
unfolding names_of
names_split h = every_append is_utf8 (map (λ l. l.name) h.labels) (map (λ r. r.name) h.relocations)

names_more : (h : ObjectFile) (q : Relocation) → names_ok (with_relocations h (q ∷ h.relocations)) ≡ (is_utf8 q.name && names_ok h)
unfolding every
names_more h q =
    names_split (with_relocations h (q ∷ h.relocations))
    ∙ swap (every is_utf8 (map (λ l. l.name) h.labels)) (is_utf8 q.name) (every is_utf8 (map (λ r. r.name) h.relocations))
    ∙ ap (λ t. is_utf8 q.name && t) (sym (names_split h))
  where
    swap : (a b c : Bool) → (a && (b && c)) ≡ (b && (a && c))
    swap true true c = refl
    swap true false c = refl
    swap false true c = refl
    swap false false c = refl

not_below : (s : List ℕ) → is_less (order (record_key (source s)) (3 ∷ [])) ≡ false
unfolding order record_key
not_below s = refl

-- the definition's order and soundness, from a past on
agrees : (p : Past) (rs : List Record) → (rises_from p.key rs && sound_from p (placed rs)) ≡ along p rs
unfolding along fits after sound_record apart_from placed empty_object every is_empty names_of is_some source_text is_utf8 scalars_from
agrees p [] = of_end p.lined p.sourced
agrees p (block b ∷ rs) =
    let h = placed rs in
    let r = block b in
    of_block_lem (is_less (order p.key (record_key r))) (rises_from (record_key r) rs) (sound_record r) (blocks_ok h)
    (apart_all p.end h.line_blocks && (lines_ok h && (source_ok p h && (names_ok h && text_ok h))))
    ∙ ap (λ t. fits p r && t) (agrees (after p r) rs)
agrees p (label l ∷ rs) =
    let h = placed rs in
    let r = label l in
    of_name (is_less (order p.key (record_key r))) (rises_from (record_key r) rs) (blocks_ok h) (apart_all p.end h.line_blocks)
    (lines_ok h) (source_ok p h)
    (sound_record r) (names_ok h) (text_ok h)
    ∙ ap (λ t. fits p r && t) (agrees (after p r) rs)
agrees p (line_block l ∷ rs) =
    let h = placed rs in
    let r = line_block l in
    of_line (is_less (order p.key (record_key r))) (rises_from (record_key r) rs) (blocks_ok h) (leb p.end l.first)
    (apart_all (line_end l) h.line_blocks)
    (sound_record r) (lines_ok h) (not p.lined) (p.sourced || is_some h.source) (names_ok h && text_ok h)
    ∙ ap (λ t. fits p r && t) (agrees (after p r) rs)
agrees p (source s ∷ rs) =
    let h = placed rs in
    let r = source s in
    let k = is_less (order p.key (record_key r)) in
    let l = not p.lined && is_empty h.line_blocks in
    by_test (rises_from (record_key r) rs)
    (λ e. let n : h.source ≡ none = no_source (record_key r) rs (not_below s) e in
    ap (λ t. (k && t) && sound_from p (placed (r ∷ rs))) e
    ∙ of_source_lem k (blocks_ok h) (apart_all p.end h.line_blocks) (lines_ok h) l p.sourced (names_ok h) (is_utf8 s)
    ∙ ap (λ t. fits p r && t) (sym (ap (λ t. t && sound_from (after p r) h) e
    ∙ ap (λ (o : Option (List ℕ)). true && (blocks_ok h && (apart_all p.end h.line_blocks &&
    (lines_ok h && ((l || (true || is_some o)) && (names_ok h && is_utf8 (source_text o))))))) n))
    ∙ ap (λ t. fits p r && t) (agrees (after p r) rs))
    (λ e. ap (λ t. (k && t) && sound_from p (placed (r ∷ rs))) e
    ∙ of_fallen k (is_utf8 s) (sound_from p (placed (r ∷ rs)))
    ∙ ap (λ t. fits p r && t) (sym (ap (λ t. t && sound_from (after p r) h) e))
    ∙ ap (λ t. fits p r && t) (agrees (after p r) rs))
agrees p (relocation q ∷ rs) =
    let h = placed rs in
    let r = relocation q in
    let k = is_less (order p.key (record_key r)) in
    ap (λ t. (k && rises_from (record_key r) rs) && (blocks_ok h &&
    (apart_all p.end h.line_blocks && (lines_ok h && (source_ok p h && (t && text_ok h)))))) (names_more h q)
    ∙ of_name k (rises_from (record_key r) rs) (blocks_ok h) (apart_all p.end h.line_blocks) (lines_ok h) (source_ok p h)
    (sound_record r) (names_ok h) (text_ok h)
    ∙ ap (λ t. fits p r && t) (agrees (after p r) rs)

pub records_agree : (rs : List Record) → (rises record_key rs && consistent (placed rs)) ≡ along start rs
records_agree rs = rw (rises-from rs, sound-from (placed rs)) (agrees start rs)

-- reading each record when it is asked for
pub groups_agree : (p : Past) (gs : List (ℕ × List ℕ)) → allows (records_from gs) (along p) ≡ walk p gs
unfolding along walk records_from
groups_agree p [] = refl
groups_agree p (g ∷ gs) = go (record_from g) (λ r. groups_agree (after p r) gs)
  where
    front : (t : Bool) (o : Outcome (List Record)) (f : List Record → Bool) → allows o (λ rs. t && f rs) ≡ (t && allows o f)
    front true o f = refl
    front false o f = none_pass o

    lift : (o : Outcome (List Record)) (r : Record) → allows (o >>= λ rs. given (r ∷ rs)) (along p)
        ≡ allows o (λ rs. fits p r && along (after p r) rs)
    lift (refused n) r = refl
    lift (given rs) r = refl

    go : (o : Outcome Record) → ((r : Record) → allows (records_from gs) (along (after p r)) ≡ walk (after p r) gs)
        → allows (o >>= λ r. records_from gs >>= λ rs. given (r ∷ rs)) (along p) ≡ allows o (λ r. fits p r && walk (after p r) gs)
    go (refused n) ih = refl
    go (given r) ih = lift (records_from gs) r ∙ front (fits p r) (records_from gs) (along (after p r)) ∙ ap (λ t. fits p r && t) (ih r)

-- THE BRIDGE: an object is well formed where its first word is a head and the walk passes
pub walk_agrees : (ws : List ℕ) → is_given (object_of ws) ≡ (is_empty (parts_at is_head ws).before && walk start (parts_at is_head ws).groups)
unfolding object_of
walk_agrees ws = first (is_empty (parts_at is_head ws).before) ∙ ap (λ t. is_empty (parts_at is_head ws).before && t)
    (groups_agree start (parts_at is_head ws).groups)
  where
    last : (a b : Bool) (h : ObjectFile) → is_given (ask 1 a >>= λ _. ask 1 b >>= λ _. given h) ≡ (a && b)
    last true true h = refl
    last true false h = refl
    last false b h = refl

    then : (o : Outcome (List Record)) → is_given (o >>= λ rs. ask 1 (rises record_key rs) >>= λ _. ask 1 (consistent (placed rs)) >>= λ
        _. given (placed rs)) ≡ allows o (along start)
    then (refused n) = refl
    then (given rs) = last (rises record_key rs) (consistent (placed rs)) (placed rs) ∙ records_agree rs

    first : (t : Bool)
        → is_given (ask 1 t >>= λ _. records_from (parts_at is_head ws).groups >>= λ rs. ask 1 (rises record_key rs) >>= λ _. ask 1
        (consistent (placed rs)) >>= λ _. given (placed rs))
        ≡ (t && allows (records_from (parts_at is_head ws).groups) (along start))
    first true = then (records_from (parts_at is_head ws).groups)
    first false = refl
