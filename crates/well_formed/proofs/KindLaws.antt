-- A step over a record of each kind. Assumes nothing.
use mathlib.Core.Path.{◌≡◌, refl, sym, ◌∙◌, ap}
use mathlib.Core.Bool.{Bool, true, false}
use mathlib.Core.List.{List, [], ◌∷◌}
use mathlib.Core.Option.{Option}
use Prim.Native.Nat.{ℕ, ◌+◌, ◌-◌, ◌/◌, ◌%◌, ◌^◌, ◌≤◌, ◌<◌}
use native.Mathlib.Omega.{arith}
use lib.ListN.{length, get_or}
use lib.Dec.{leb}
use borrow.Author.Tests.{le-leb, lt-leb}
use Rattle.format.specs.Basics.{Outcome, refused, given, ◌>>=◌, given_or}
use Rattle.format.specs.Sorted.{order, is_less}
use Rattle.format.specs.Utf8.{is_utf8}
use Rattle.format.specs.Basics.{is_given}
use Rattle.format.specs.ObjectFile.{never_fall}
use Rattle.format.specs.Records.{Record, block, label, line_block, source, relocation, record_key}
use Rattle.format.specs.Words.{memories_of, addresses_of, number_from, text_from, record_from}
use Rattle.object.specs.Bodies.{allows}
use Rattle.well_formed.specs.Run.{fits, after, sound_record, apart_from}
use Rattle.object.specs.Bodies.{body_at, good_memory, good_addresses, good_text}
use Rattle.well_formed.specs.Steps.{key_in, end_of, past_in, moved, Known, group_at, Advanced}
use Rattle.std.specs.Option.{is_some}
use Rattle.std.specs.Prelude.{Some}
use Rattle.well_formed.specs.declared.Key.{Key}
use Rattle.well_formed.specs.declared.Key.TheVariants as key
use Rattle.well_formed.specs.declared.Seen.{Seen}
use Rattle.well_formed.proofs.StepLaws.{Good, good, given_it, not-read, falls, unsound, near, bad_body, fitting, block-head, block_read}
use Rattle.well_formed.proofs.StepLaws.{label-head, label-number, label-read, line-head, line-number, line_read, source-head, source-read}
use Rattle.well_formed.proofs.StepLaws.{relocation-head, relocation-read, memories_length, addresses-length, number-length}

then : {A B : Type 0} (o : Outcome A) (f : A → B) (a : A) → o ≡ given a → (o >>= λ a. given (f a)) ≡ given (f a)
then o f a e = ap (λ o. o >>= λ a. given (f a)) e

module _ (ws : List ℕ) (at : ℕ) (s : Seen) where
  abbrev w : ℕ
  w = get_or ws at 0

  abbrev body : List ℕ
  body = body_at ws (at + 1)

  -- what stands after a number
  abbrev more : ℕ
  more = at + 1 + 3

  abbrev Refused : Type 0
  Refused = allows (record_from (group_at ws at)) (fits (past_in ws s)) ≡ false

  abbrev rising : Key → Bool
  rising k = is_less (order (key_in ws s.key) (key_in ws k))

  module _ (k : w / 2 ^ 29 ≡ 0) where
    pub block_1 : (w / 2 ^ 16 ≡ 0 → ⊥) → Refused
    block_1 n = not-read (group_at ws at) (past_in ws s) (block-head w body k n)

    module _ (h : w / 2 ^ 16 ≡ 0) where
      abbrev made : List (Option ℕ) → Record
      made ms = block (record { address = w; words = ms })

      pub block_2 : good_memory body ≡ false → Refused
      unfolding good_memory
      block_2 g = go (memories_of body) (block_read w body k h) g
        where
          go : (o : Outcome (List (Option ℕ))) → record_from (group_at ws at) ≡ (o >>= λ ms. given (made ms)) → is_given o ≡ false → Refused
          go (refused n) e g = not-read (group_at ws at) (past_in ws s) e
          go (given ms) e g = let z : ◌≡◌ {A = ℕ} 0 1 = cc in absurd (omega arith)

      module _ (g : good_memory body ≡ true) where
        memories : Good (memories_of body) (λ ms. true)
        unfolding good_memory
        memories = given_it (memories_of body) g

        reads : record_from (group_at ws at) ≡ given (made memories.it)
        reads = block_read w body k h ∙ then (memories_of body) made memories.it memories.gives

        size : length memories.it ≡ length body
        size = memories_length body memories.it memories.gives

        key_is : (v : ℕ) → v ≡ w → key_in ws (key.Block v) ≡ record_key (made memories.it)
        unfolding record_key
        key_is v e = ap (λ x. 0 ∷ x ∷ []) e

        pub block_3 : 65535 < length body → Refused
        unfolding sound_record
        block_3 l = unsound (group_at ws at) (past_in ws s) (made memories.it) reads
            (lt-leb (length memories.it) 65535 (omega (arith, size)))

        pub block_4 : (v : ℕ) → v ≡ w → rising (key.Block v) ≡ false → Refused
        unfolding past_in
        block_4 v e r = falls (group_at ws at) (past_in ws s) (made memories.it) reads
            (ap (λ x. is_less (order (key_in ws s.key) x)) (sym (key_is v e)) ∙ r)

        pub block-next : (v n : ℕ) → v ≡ w → length body ≤ 65535 → rising (key.Block v) ≡ true → n ≡ at + 1 + length body
            → Advanced ws at s n (moved s (key.Block v))
        unfolding past_in sound_record apart_from after
        block-next v n e l r p =
            record {
              read = made memories.it;
              reading = reads;
              fitting = fitting (past_in ws s) (made memories.it)
                  (ap (λ x. is_less (order (key_in ws s.key) x)) (sym (key_is v e)) ∙ r)
                  (le-leb (length memories.it) 65535 (omega (arith, size))) refl;
              past = ap (λ x. record { key = x; end = end_of s.lines; lined = is_some s.lines; sourced = s.sourced }) (key_is v e);
              known = tt;
              place = p;
            }

  -- a record that is a head, words read before, and a text at a place
  module _ (make : List ℕ → Record) (p : ℕ) (reads : record_from (group_at ws at) ≡ (text_from (body_at ws p) >>= λ t. given (make t)))
      (is-sound : (t : List ℕ) → sound_record (make t) ≡ is_utf8 t) (is-apart : (e : ℕ) (t : List ℕ) → apart_from e (make t) ≡ true) where
    pub text_1 : good_text (body_at ws p) ≡ false → Refused
    unfolding good_text
    text_1 g = bad_body (group_at ws at) (past_in ws s) (text_from (body_at ws p)) is_utf8 make is-sound reads g

    module _ (g : good_text (body_at ws p) ≡ true) where
      pub text : Good (text_from (body_at ws p)) is_utf8
      unfolding good_text
      text = good (text_from (body_at ws p)) is_utf8 g

      text-reads : record_from (group_at ws at) ≡ given (make text.it)
      text-reads = reads ∙ then (text_from (body_at ws p)) make text.it text.gives

      module _ (key : Key) (key_is : key_in ws key ≡ record_key (make text.it)) where
        pub text_2 : rising key ≡ false → Refused
        unfolding past_in
        text_2 r = falls (group_at ws at) (past_in ws s) (make text.it) text-reads
            (ap (λ x. is_less (order (key_in ws s.key) x)) (sym key_is) ∙ r)

        pub text-next : (n : ℕ) (t : Seen) → rising key ≡ true → past_in ws t ≡ after (past_in ws s) (make text.it) → Known ws t.key
            → n ≡ at + 1 + length body → Advanced ws at s n t
        unfolding past_in
        text-next n t r q known p =
            record {
              read = make text.it;
              reading = text-reads;
              fitting = fitting (past_in ws s) (make text.it) (ap (λ x. is_less (order (key_in ws s.key) x)) (sym key_is) ∙ r)
                  (is-sound text.it ∙ text.passes) (is-apart (end_of s.lines) text.it);
              past = q;
              known = known;
              place = p;
            }

  module _ (k : w / 2 ^ 29 ≡ 2) where
    pub label_1 : (w / 2 ^ 17 ≡ 0x2000 → ⊥) → Refused
    label_1 n = not-read (group_at ws at) (past_in ws s) (label-head w body k n)

    module _ (h : w / 2 ^ 17 ≡ 0x2000) where
      pub label_2 : number_from body ≡ refused 1 → Refused
      label_2 e = not-read (group_at ws at) (past_in ws s) (label-number w body k h e)

      module _ (v : ℕ) (e : number_from body ≡ given (v, body_at ws more)) where
        abbrev labelled : List ℕ → Record
        labelled t = label (record { name = t; address = w % 2 ^ 29 % 2 ^ 16; external = leb (2 ^ 16) (w % 2 ^ 29); start = v })

        label-key : (t : List ℕ) → text_from (body_at ws more) ≡ given t → key_in ws (key.Label more) ≡ record_key (labelled t)
        unfolding record_key
        label-key t q = ap (λ o. 1 ∷ given_or o []) q

        pub label_3 : good_text (body_at ws more) ≡ false → Refused
        unfolding sound_record apart_from
        label_3 g = text_1 labelled more (label-read w body k v (body_at ws more) h e) (λ t. refl) (λ d t. refl) g

        module _ (g : good_text (body_at ws more) ≡ true) where
          pub label_4 : rising (key.Label more) ≡ false → Refused
          unfolding sound_record apart_from
          label_4 r =
              text_2 labelled more (label-read w body k v (body_at ws more) h e) (λ t. refl) (λ d t. refl) g (key.Label more)
              (label-key _ (text labelled more (label-read w body k v (body_at ws more) h e) (λ t. refl) (λ d t. refl) g).gives) r

          pub label-known : Known ws (key.Label more)
          unfolding good_text
          label-known = ap is_given (good (text_from (body_at ws more)) is_utf8 g).gives

          pub label-next : (n : ℕ) → rising (key.Label more) ≡ true → n ≡ more + length (body_at ws more)
              → Advanced ws at s n (moved s (key.Label more))
          unfolding sound_record apart_from past_in after
          label-next n r p =
              let q = label-key _ (text labelled more (label-read w body k v (body_at ws more) h e) (λ t. refl) (λ d t. refl) g).gives in
              text-next labelled more (label-read w body k v (body_at ws more) h e) (λ t. refl) (λ d t. refl) g (key.Label more) q n
              (moved s (key.Label more)) r
              (ap (λ x. record { key = x; end = end_of s.lines; lined = is_some s.lines; sourced = s.sourced }) q) label-known
              (omega (arith, p, number-length body (body_at ws more) v e))

  module _ (k : w / 2 ^ 29 ≡ 4) where
    pub source_1 : (w ≡ 0x8000_0000 → ⊥) → Refused
    source_1 n = not-read (group_at ws at) (past_in ws s) (source-head w body k n)

    module _ (h : w ≡ 0x8000_0000) where
      source-key : (t : List ℕ) → key_in ws key.Source ≡ record_key (source t)
      unfolding record_key
      source-key t = refl

      pub source_2 : good_text body ≡ false → Refused
      unfolding sound_record apart_from
      source_2 g = text_1 source (at + 1) (source-read w body k h) (λ t. refl) (λ d t. refl) g

      module _ (g : good_text body ≡ true) where
        pub source_3 : rising key.Source ≡ false → Refused
        unfolding sound_record apart_from
        source_3 r = text_2 source (at + 1) (source-read w body k h) (λ t. refl) (λ d t. refl) g key.Source (source-key _) r

        pub source-next : (n : ℕ) → rising key.Source ≡ true → n ≡ at + 1 + length body
            → Advanced ws at s n (record { key = key.Source; lines = s.lines; sourced = true })
        unfolding sound_record apart_from past_in after
        source-next n r p =
            text-next source (at + 1) (source-read w body k h) (λ t. refl) (λ d t. refl) g key.Source (source-key _) n
            (record { key = key.Source; lines = s.lines; sourced = true }) r
            (ap (λ x. record { key = x; end = end_of s.lines; lined = is_some s.lines; sourced = true }) (source-key _))
            tt p

  module _ (k : w / 2 ^ 29 ≡ 5) where
    pub relocation_1 : (w / 2 ^ 16 ≡ 0xA000 → ⊥) → Refused
    relocation_1 n = not-read (group_at ws at) (past_in ws s) (relocation-head w body k n)

    module _ (h : w / 2 ^ 16 ≡ 0xA000) where
      abbrev relocated : List ℕ → Record
      relocated t = relocation (record { address = w % 2 ^ 16; name = t })

      relocation-key : (t : List ℕ) (v : ℕ) → v ≡ w % 2 ^ 16 → key_in ws (key.Relocation v) ≡ record_key (relocated t)
      unfolding record_key
      relocation-key t v e = ap (λ x. 4 ∷ x ∷ []) e

      pub relocation_2 : good_text body ≡ false → Refused
      unfolding sound_record apart_from
      relocation_2 g = text_1 relocated (at + 1) (relocation-read w body k h) (λ t. refl) (λ d t. refl) g

      module _ (g : good_text body ≡ true) (v : ℕ) (e : v ≡ w % 2 ^ 16) where
        pub relocation_3 : rising (key.Relocation v) ≡ false → Refused
        unfolding sound_record apart_from
        relocation_3 r = text_2 relocated (at + 1) (relocation-read w body k h) (λ t. refl) (λ d t. refl) g (key.Relocation v)
            (relocation-key _ v e) r

        pub relocation-next : (n : ℕ) → rising (key.Relocation v) ≡ true → n ≡ at + 1 + length body → Advanced ws at s n (moved s (key.Relocation v))
        unfolding sound_record apart_from past_in after
        relocation-next n r p =
            text-next relocated (at + 1) (relocation-read w body k h) (λ t. refl) (λ d t. refl) g (key.Relocation v) (relocation-key _ v e) n
            (moved s (key.Relocation v)) r
            (ap (λ x. record { key = x; end = end_of s.lines; lined = is_some s.lines; sourced = s.sourced }) (relocation-key _ v e))
            tt p

  module _ (k : w / 2 ^ 29 ≡ 3) where
    pub line_1 : (w ≡ 0x6000_0000 → ⊥) → Refused
    line_1 n = not-read (group_at ws at) (past_in ws s) (line-head w body k n)

    module _ (h : w ≡ 0x6000_0000) where
      pub line_2 : number_from body ≡ refused 1 → Refused
      line_2 e = not-read (group_at ws at) (past_in ws s) (line-number w body k h e)

      module _ (v : ℕ) (e : number_from body ≡ given (v, body_at ws more)) where
        abbrev lined : List ℕ → Record
        lined ns = line_block (record { first = v; addresses = ns })

        line-key : (ns : List ℕ) → key_in ws (key.LineBlock v) ≡ record_key (lined ns)
        unfolding record_key
        line-key ns = refl

        pub line_3 : good_addresses (body_at ws more) ≡ false → Refused
        unfolding good_addresses sound_record
        line_3 g = bad_body (group_at ws at) (past_in ws s) (addresses_of (body_at ws more)) never_fall lined (λ t. refl)
            (line_read w body k v (body_at ws more) h e) g

        module _ (g : good_addresses (body_at ws more) ≡ true) where
          addresses : Good (addresses_of (body_at ws more)) never_fall
          unfolding good_addresses
          addresses = good (addresses_of (body_at ws more)) never_fall g

          line_reads : record_from (group_at ws at) ≡ given (lined addresses.it)
          line_reads = line_read w body k v (body_at ws more) h e
              ∙ then (addresses_of (body_at ws more)) lined addresses.it addresses.gives

          pub line_4 : v < end_of s.lines → Refused
          unfolding apart_from past_in
          line_4 l = near (group_at ws at) (past_in ws s) (lined addresses.it) line_reads (lt-leb (end_of s.lines) v l)

          pub line_5 : rising (key.LineBlock v) ≡ false → Refused
          unfolding past_in
          line_5 r = falls (group_at ws at) (past_in ws s) (lined addresses.it) line_reads
              (ap (λ x. is_less (order (key_in ws s.key) x)) (sym (line-key addresses.it)) ∙ r)

          pub line-next : (n c : ℕ) → end_of s.lines ≤ v → rising (key.LineBlock v) ≡ true → n ≡ more + length (body_at ws more) → c
              ≡ n - more
              → Advanced ws at s n (record { key = key.LineBlock v; lines = Some (record { first = v; count = c }); sourced = s.sourced })
          unfolding past_in apart_from sound_record after
          line-next n c l r p q =
              let size = addresses-length (body_at ws more) addresses.it addresses.gives in
              let d : v + c ≡ v + length addresses.it = omega (arith, size, p, q) in
              record {
                read = lined addresses.it;
                reading = line_reads;
                fitting = fitting (past_in ws s) (lined addresses.it)
                    (ap (λ x. is_less (order (key_in ws s.key) x)) (sym (line-key addresses.it)) ∙ r) addresses.passes
                    (le-leb (end_of s.lines) v l);
                past = ap (λ x. record { key = x; end = v + c; lined = true; sourced = s.sourced }) (line-key addresses.it)
                    ∙ ap (λ x. record { key = record_key (lined addresses.it); end = x; lined = true; sourced = s.sourced }) d;
                known = tt;
                place = omega (arith, p, number-length body (body_at ws more) v e);
              }
