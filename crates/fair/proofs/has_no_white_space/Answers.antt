use borrow.Author.Rules.{rules}
use native.Mathlib.Omega.{arith}
use mathlib.Core.Path.{◌≡◌, refl, sym, ap, ◌∙◌}
use mathlib.Core.List.{List}
use mathlib.Core.Option.{some}
use Prim.Native.Nat.{ℕ, ◌+◌, ◌<◌}
use lib.ListN.{drop}
use Rattle.format.specs.Utf8.{char_at}
use Rattle.utf8.specs.Chars.{char_of}
use Rattle.utf8.proofs.CharLaws.{char_inside}
use Rattle.object.specs.Texts.{text_bytes}
use Rattle.word_chars.proofs.CharLaws.{size_is}
use Rattle.fair.proofs.NameLaws.{Split, split, no_more, white_stops, white_on}
use Rattle.fair.proofs.has_no_white_space.Goals as goal
use Rattle.fair.proofs.has_no_white_space.Goals.{In-Some}

abbrev text : (v : In-Some) → List ℕ
text v = text_bytes v.args.ws.now v.args.at v.args.n

abbrev p : (v : In-Some) → ℕ
p v = v.loop-c.p

abbrev value : (v : In-Some) → ℕ
value v = v.in-Some.c.value

abbrev more : (v : In-Some) → ℕ
more v = v.in-Some.c.more

char_is : (v : In-Some) → char_at (drop (p v) (text v)) ≡ some ((value v), (more v))
char_is v = sym v.char_in.ensures ∙ ap char_of v.in-Some.is

inside : (v : In-Some) → (p v) + (more v) < v.args.n
inside v =
    let h = char_inside (text v) (p v) (value v) (more v) (char_is v) in
    let e = size_is v.args.ws.now v.args.at v.args.n in
    omega (arith, h, e)

parts : (v : In-Some) → Split (drop (p v) (text v)) (value v) (drop ((p v) + ((more v) + 1)) (text v))
parts v = split (text v) (p v) (value v) (more v) (char_is v) v.loop-c.invariant.0

pub loop-c-init : goal.loop-c-init
loop-c-init c = (c.requires, refl)

pub returns-in_default : goal.returns-in_default
returns-in_default c =
    no_more _ (sym c.char_in.ensures ∙ ap char_of c.in_default.is) c.loop-c.invariant.0 ∙ c.loop-c.invariant.1

pub returns-then-is_white_space : goal.returns-then-is_white_space
returns-then-is_white_space c =
    white_stops _ _ _ (parts (goal.at.returns-then-is_white_space c).In-Some) (sym c.is_white_space.ensures ∙ c.if-is_white_space.true) ∙ c.loop-c.invariant.1

pub overflow_add-p : goal.overflow_add-p
overflow_add-p c = let h = inside (goal.at.overflow_add-p c).In-Some in search rules

pub overflow_add-p-in-loop-c : goal.overflow_add-p-in-loop-c
overflow_add-p-in-loop-c c = let h = inside (goal.at.overflow_add-p-in-loop-c c).In-Some in search rules

pub loop-c-smaller : goal.loop-c-smaller
loop-c-smaller c = omega (arith, inside (goal.at.loop-c-smaller c).In-Some)

pub loop-c-preserved : goal.loop-c-preserved
loop-c-preserved c =
    ((parts (goal.at.loop-c-preserved c).In-Some).utf8, white_on _ _ _ (parts (goal.at.loop-c-preserved c).In-Some) (sym c.is_white_space.ensures ∙ c.if-is_white_space.false) ∙ c.loop-c.invariant.1)
