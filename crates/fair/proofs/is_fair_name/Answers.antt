use native.Mathlib.Omega.{arith}
use mathlib.Core.Path.{◌≡◌, sym, ap, ◌∙◌}
use mathlib.Core.List.{List}
use Prim.Native.Nat.{ℕ, ◌<◌}
use lib.ListN.{length, get_or}
use Rattle.format.specs.Utf8.{is_utf8}
use Rattle.format.specs.Fair.{no_white_space}
use Rattle.object.specs.Bodies.{text_at}
use Rattle.object.specs.Texts.{text_len, text_bytes}
use Rattle.object.proofs.ByteLaws.{text-len, text_byte_lem, text-bytes}
use Rattle.fair.proofs.NameLaws.{name-empty, name_dot, name_hash, name_equals, name-rest}
use Rattle.fair.proofs.is_fair_name.Lts as lts
use Rattle.fair.proofs.is_fair_name.Reads as reads
use Rattle.fair.proofs.is_fair_name.Tie as tie
use Rattle.fair.proofs.is_fair_name.Goals as goal

abbrev Else4 : Type 0
Else4 = lts.Else4 tie.the-claims reads.Pre reads.Post

abbrev After-text_byte : Type 0
After-text_byte = lts.After-text_byte tie.the-claims reads.Pre reads.Post

abbrev After-text_len : Type 0
After-text_len = lts.After-text_len tie.the-claims reads.Pre reads.Post

abbrev ws : (c : After-text_len) → List ℕ
ws c = c.args.ws.now

abbrev at : (c : After-text_len) → ℕ
at c = c.args.at

abbrev name : (c : After-text_len) → List ℕ
name c = text_at (ws c) (at c)

size : (c : After-text_len) → c.text_len-n.result ≡ length (name c)
size c = c.text_len-n.ensures ∙ ap (text_len (ws c) (at c)) c.body_end.ensures ∙ text-len (ws c) (at c) c.requires.0

some : (c : After-text_byte) → 0 < length (name c.before.before)
some c = omega (arith, size c.before.before, c.if-n-eq0.false)

first : (c : After-text_byte) → c.text_byte-first.result ≡ get_or (name c.before.before) 0 0
first c =
    c.text_byte-first.ensures
    ∙ text_byte_lem (ws c.before.before) (at c.before.before) 0 c.requires.0 (some c)

bytes_is : (c : Else4) → text_bytes (ws c.before.before.before.before.before) (at c.before.before.before.before.before)
    c.text_len-n.result
    ≡ name c.before.before.before.before.before
bytes_is c =
    ap (text_bytes (ws c.before.before.before.before.before) (at c.before.before.before.before.before)) (size c.before.before.before.before.before) ∙ text-bytes (ws c.before.before.before.before.before) (at c.before.before.before.before.before) c.requires.0

pub returns-then-n-eq0 : goal.returns-then-n-eq0
returns-then-n-eq0 c = name-empty _ (sym (size c.before.before) ∙ c.if-n-eq0.true)

pub returns-then-first-eq46 : goal.returns-then-first-eq46
returns-then-first-eq46 c = name_dot _ (some c.before.before) (sym (first c.before.before) ∙ c.if-first-eq46.true)

pub returns-then-first-eq-HASH : goal.returns-then-first-eq-HASH
returns-then-first-eq-HASH c = name_hash _ (some c.before.before.before) (sym (first c.before.before.before) ∙ c.if-first-eq-HASH.true)

pub returns-then-first-eq61 : goal.returns-then-first-eq61
returns-then-first-eq61 c = name_equals _ (some c.before.before.before.before) (sym (first c.before.before.before.before) ∙ c.if-first-eq61.true)

pub has_no_white_space-requires : goal.has_no_white_space-requires
has_no_white_space-requires c =
    ap is_utf8 (bytes_is c.before) ∙ c.requires.1

pub returns : goal.returns
returns c =
    c.has_no_white_space.ensures ∙ ap no_white_space (bytes_is c.before.before)
    ∙ name-rest _ (some c.before.before.before.before.before) (λ z. c.if-first-eq46.false (first c.before.before.before.before.before ∙ z)) (λ z. c.if-first-eq-HASH.false (first c.before.before.before.before.before ∙ z))
    (λ z. c.if-first-eq61.false (first c.before.before.before.before.before ∙ z))
