-- The tokens that a source is from, and its text written. Assumes nothing.
use mathlib.Core.Path.{◌≡◌, refl, sym, ap, ◌∙◌, subst}
use mathlib.Core.Bool.{true}
use mathlib.Core.List.{List, [], ◌++◌, flat_map}
use Prim.Native.Nat.{ℕ, ◌≤◌}
use native.Mathlib.Omega.{arith}
use lib.ListN.{length}
use Rattle.format.specs.Basics.{refused, given}
use Rattle.format.specs.Tokens.{tokens}
use Rattle.format.specs.TextReader.{unescape, unescape_at}
use Rattle.format.specs.Utf8.{is_scalar, encode_scalar}
use Rattle.format.specs.Words.{text_words}
use Rattle.format.proofs.ListLaws.{flat_map-append}
use Rattle.format.proofs.WordsOnly.{bind_given, given-same}
use Rattle.writing.specs.Written.{Put}
use Rattle.writing.proofs.Parts.{begin, same}
use Rattle.encode.specs.Scalar.{scalar_bytes}
use Rattle.text_source.specs.declared.Source.{Source}
use Rattle.text_source.specs.Stream.{source_from, bytes_left}
use Rattle.text_source.specs.Unescape.{tokens_left, TokenAt}
use Rattle.text_push.specs.Pushes.{State, Pushes, Flushes}
use Rattle.text_push.proofs.PushLaws.{Texting, pushed-text, flushed-text}
use Rattle.text_read.specs.SourceText.{source_at, Unescapes}

-- TOKENS
abbrev joined : List (List ℕ) → List ℕ
joined ts = flat_map (λ t. t) ts

-- the tokens left of a source that unescapes, and their bytes
pub record Drains (t : List ℕ) (cur : Source) (left : List ℕ) : Type 0 where
  pub ts : List (List ℕ)
  pub given_these : tokens_left t cur ≡ given ts
  pub bytes : joined ts ≡ left

abbrev at_rows : ℕ → Source
at_rows rows = record { at = 0; end = 0; next = rows }

pub drains_begin : (t : List ℕ) (rows : ℕ) → Unescapes t rows → Drains t (at_rows rows) (source_at t rows)
unfolding unescape
drains_begin t rows u =
    let b = bind_given (tokens unescape_at 0 (source_from t rows)) (λ ts. given (joined ts)) (source_at t rows) u in
    record { ts = b.0; given_these = b.1; bytes = given-same b.2 }

module _ (t : List ℕ) (cur : Source) (left : List ℕ) (r : Drains t cur left) where
  pub drains_bad : tokens_left t cur ≡ refused 30 → ⊥
  drains_bad e = let q : refused 30 ≡ given r.ts = sym e ∙ r.given_these in let z : ◌≡◌ {A = ℕ} 0 1 = cc in omega arith

  pub drains_done : bytes_left t cur ≡ [] → left ≡ []
  unfolding tokens flat_map
  drains_done e =
      let q : given [] ≡ given r.ts = sym (ap (tokens unescape_at 0) e) ∙ r.given_these in
      sym r.bytes ∙ ap joined (sym (given-same q))

  pub drains_on : (bs : List ℕ) (d : Source) → TokenAt t cur bs d → (more : List ℕ) × (left ≡ bs ++ more) × Drains t d more
  unfolding flat_map
  drains_on bs d k =
      let b = bind_given (tokens_left t d) (λ ts. given (k.parts ++ ts)) r.ts (sym k.same ∙ r.given_these) in (
        joined b.0,
        sym r.bytes ∙ ap joined (sym (given-same b.2)) ∙ flat_map-append (λ x. x) k.parts b.0 ∙ ap (λ (x : List ℕ). x ++ joined b.0) k.bytes,
        record { ts = b.0; given_these = b.1; bytes = refl },
      )

-- written
pub record Draining (t : List ℕ) (rows : ℕ) (room out : List ℕ) (cur : Source) (h : State) : Type 0 where
  pub left : List ℕ
  pub drains : Drains t cur left
  pub state : Texting (text_words (source_at t rows)) room left (h, out)

pub draining_begin : (t : List ℕ) (rows : ℕ) (room : List ℕ) → Unescapes t rows → length (text_words (source_at t rows)) ≤ length room
    → Draining t rows room room (at_rows rows) (record { at = 0; count = 0; low = 0; mid = 0 })
draining_begin t rows room u h =
    record {
      left = source_at t rows;
      drains = drains_begin t rows u;
      state = record { held = []; is = refl; emits = begin (text_words (source_at t rows)) room h };
    }

scalar_is : (v : ℕ) → is_scalar v ≡ true → scalar_bytes v ≡ encode_scalar v
unfolding scalar_bytes
scalar_is v z = simp z

module _ (t : List ℕ) (rows : ℕ) (room out : List ℕ) (cur : Source) (h : State) (s : Draining t rows room out cur h) where
  abbrev whole : List ℕ
  whole = text_words (source_at t rows)

  pub draining_long : length out ≡ length room
  draining_long = same s.state.emits

  pub draining_on : (bs : List ℕ) (d : Source) → TokenAt t cur bs d → (g : State) (after : List ℕ) → Pushes bs h out g after
      → Draining t rows room after d g
  draining_on bs d k g after w =
      let n = drains_on t cur s.left s.drains bs d k in
      let x : Texting whole room (bs ++ n.0) (h, out) = subst (λ (l : List ℕ). Texting whole room l (h, out)) n.1 s.state in
      record {
        left = n.0;
        drains = n.2;
        state = subst (λ (p : State × List ℕ). Texting whole room n.0 p) (sym w) (pushed-text whole room bs n.0 (h, out) x);
      }

  pub draining_scalar : (v : ℕ) → is_scalar v ≡ true → (d : Source) → TokenAt t cur (encode_scalar v) d → (g : State) (after : List ℕ)
      → Pushes (scalar_bytes v) h out g after → Draining t rows room after d g
  draining_scalar v z d k g after w =
      draining_on (encode_scalar v) d k g after (subst (λ (bs : List ℕ). Pushes bs h out g after) (scalar_is v z) w)

  pub draining_end : bytes_left t cur ≡ [] → (r : ℕ) (after : List ℕ) → Flushes h out r after → Put whole room r after
  draining_end e r after w =
      let x : Texting whole room [] (h, out) =
      subst (λ (l : List ℕ). Texting whole room l (h, out)) (drains_done t cur s.left s.drains e) s.state in
      subst (λ (p : ℕ × List ℕ). Put whole room p.0 p.1) (sym w) (flushed-text whole room h out x)
