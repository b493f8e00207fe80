-- What the queries ask first, and how their answers come from a source's bytes. Assumes nothing.
use mathlib.Core.Path.{◌≡◌, refl, sym, ◌∙◌, ap}
use mathlib.Core.List.{List}
use mathlib.Core.Option.{none, some}
use Prim.Native.Nat.{ℕ, suc, ◌+◌}
use Rattle.format.specs.Basics.{Outcome, refused, given, ◌>>=◌}
use Rattle.format.specs.ObjectFile.{ObjectFile}
use Rattle.format.specs.Words.{object_of}
use Rattle.format.specs.Source.{Span, Position, newlines, line_count, raw_line_span, trimmed, line_span, get_pos_pair}
use Rattle.format.specs.Calls.{checked, source_in, value_answer, span_answer, position_answer, query_count_lines}
use Rattle.format.specs.Calls.{query_raw_line_span, query_line_span, query_pos_pair}
use Rattle.object.proofs.Formed.{not_formed}
use native.Mathlib.Numerals.{add-one}

-- the source of an object, as bytes
abbrev pub source_of : List ℕ → Outcome (List ℕ)
source_of ws = source_in ws >>= λ x. given x.1

pub source-number : (ws : List ℕ) (n : ℕ) → n ≡ checked ws → (n ≡ 0 → ⊥) → refused n ≡ source_of ws
unfolding source_in
source-number ws n e nz = sym (rw (not_formed ws n e nz))

pub source-none : (ws : List ℕ) (h : ObjectFile) → object_of ws ≡ given h → h.source ≡ none → refused 4 ≡ source_of ws
unfolding source_in
source-none ws h e s = rw (e, s)

pub source_some : (ws : List ℕ) (h : ObjectFile) (t u : List ℕ) → object_of ws ≡ given h → h.source ≡ some t → u ≡ t → given u ≡ source_of ws
unfolding source_in
source_some ws h t u e s q = rw (e, s) (ap given q)

-- a question on the bytes alone
through : {B : Type 0} (ws : List ℕ) (o : Outcome (List ℕ)) (f : List ℕ → Outcome B) → o ≡ source_of ws → (o >>= f)
    ≡ (source_in ws >>= λ x. f x.1)
through ws o f e = ap (λ p. p >>= f) e ∙ go (source_in ws)
  where
    go : (o : Outcome (ObjectFile × List ℕ)) → ((o >>= λ x. given x.1) >>= f) ≡ (o >>= λ x. f x.1)
    go (refused n) = refl
    go (given x) = refl

-- the answers, by the source's bytes
module _ (ws : List ℕ) (n : ℕ) (e : refused n ≡ source_of ws) where
  pub count-refused : record { number = n; value = 0 } ≡ query_count_lines ws
  unfolding query_count_lines value_answer
  count-refused = ap value_answer (through ws (refused n) (λ s. given (line_count s)) e)

  pub raw_refused : (line : ℕ) → record { number = n; start = 0; end = 0 } ≡ query_raw_line_span ws line
  unfolding query_raw_line_span span_answer
  raw_refused line = ap span_answer (through ws (refused n) (λ s. raw_line_span s line) e)

  pub line_refused : (line : ℕ) → record { number = n; start = 0; end = 0 } ≡ query_line_span ws line
  unfolding query_line_span span_answer
  line_refused line = ap span_answer (through ws (refused n) (λ s. line_span s line) e)

  pub pair_refused : (i : ℕ) → record { number = n; line = 0; column = 0 } ≡ query_pos_pair ws i
  unfolding query_pos_pair position_answer
  pair_refused i = ap position_answer (through ws (refused n) (λ s. given (get_pos_pair s i)) e)

module _ (ws s : List ℕ) (e : given s ≡ source_of ws) where
  pub count-given : (c : ℕ) → c ≡ newlines s → record { number = 0; value = c + 1 } ≡ query_count_lines ws
  unfolding query_count_lines value_answer line_count
  count-given c q =
      ap (λ v. record { number = 0; value = v }) (add-one c ∙ ap suc q) ∙ ap value_answer (through ws (given s) (λ t. given (line_count t)) e)

  pub raw_given : (line a b : ℕ) → given (record { start = a; end = b }) ≡ raw_line_span s line → record { number = 0; start = a; end = b }
      ≡ query_raw_line_span ws line
  unfolding query_raw_line_span span_answer
  raw_given line a b q = ap span_answer (q ∙ through ws (given s) (λ t. raw_line_span t line) e)

  pub raw_past : {n : ℕ} (line : ℕ) → refused n ≡ raw_line_span s line → record { number = n; start = 0; end = 0 } ≡ query_raw_line_span ws line
  unfolding query_raw_line_span span_answer
  raw_past line q = ap span_answer (q ∙ through ws (given s) (λ t. raw_line_span t line) e)

  pub line-given :
      (line : ℕ) (r t : Span) → given r ≡ raw_line_span s line → t ≡ trimmed s r → record { number = 0; start = t.start; end = t.end }
      ≡ query_line_span ws line
  unfolding query_line_span span_answer line_span
  line-given line r t q u =
      ap (λ x. span_answer (given x)) u ∙ ap (λ o. span_answer (o >>= λ x. given (trimmed s x))) q
      ∙ ap span_answer (through ws (given s) (λ t. line_span t line) e)

  pub line-past : {n : ℕ} (line : ℕ) → refused n ≡ raw_line_span s line → record { number = n; start = 0; end = 0 } ≡ query_line_span ws line
  unfolding query_line_span span_answer line_span
  line-past line q = ap (λ o. span_answer (o >>= λ x. given (trimmed s x))) q ∙ ap span_answer (through ws (given s) (λ t. line_span t line) e)

  pub pair_given : (i : ℕ) (p : Position) → p ≡ get_pos_pair s i → record { number = 0; line = p.line; column = p.column }
      ≡ query_pos_pair ws i
  unfolding query_pos_pair position_answer
  pair_given i p q = ap (λ x. position_answer (given x)) q ∙ ap position_answer (through ws (given s) (λ t. given (get_pos_pair t i)) e)
