use native.Mathlib.Omega.{arith}
use borrow.Author.Rules.{rules}
use mathlib.Core.Path.{◌≡◌, refl}
use mathlib.Core.List.{List}
use Prim.Native.Nat.{ℕ}
use lib.ListN.{take}
use Rattle.std.specs.Prelude.{Ok, Err}
use Rattle.format.specs.Basics.{given}
use Rattle.format.specs.Calls.{Filled, read_binary}
use Rattle.format.proofs.Numbered.{binary-read}
use Rattle.units.specs.declared.refusal.Refusal.TheVariants as refusal
use Rattle.units.specs.Refusal.{filled_of}
use Rattle.units.proofs.RefusalLaws.{number_of-above}
use Rattle.printing.specs.Printed.{words_read, Counts}
use Rattle.printing.proofs.PrintLaws.{too_long, not-read, is_read}
use Rattle.binary_to_text.proofs.TextLaws.{stops, goes_on}
use Rattle.binary_to_text.proofs.text_of_binary.Goals as goal
use Rattle.binary_to_text.proofs.text_of_binary.Goals.{In_ok-n}

-- what is read, at the front of the words
abbrev words : In_ok-n → List ℕ
words c = take c.in_ok-n.n c.read_binary.new.out

read : (c : In_ok-n) → (words_read read_binary c.args.input.now ≡ given (words c)) × Counts c.in_ok-n.n c.read_binary.new.out
read c =
    is_read read_binary c.args.input.now c.if-input-gt-MOST_INPUT.false _ c.object_room-words.ensures (filled_of (Ok c.in_ok-n.n) c.read_binary.new.out)
    c.in_ok-n.ensures (binary-read c.args.input.now) refl

pub returns-then-input-gt-MOST_INPUT : goal.returns-then-input-gt-MOST_INPUT
returns-then-input-gt-MOST_INPUT c =
    stops c.args.input.now c.args.out.now refusal.ShortBuffer (too_long read_binary c.args.input.now c.if-input-gt-MOST_INPUT.true)

pub returns-in_err-n : goal.returns-in_err-n
returns-in_err-n c =
    let e : c.from_residual.result ≡ Err c.in_err-n.field-0.0 = search rules in
    rw e
    (stops c.args.input.now c.args.out.now c.in_err-n.field-0.0
    (not-read read_binary c.args.input.now c.if-input-gt-MOST_INPUT.false _ c.object_room-words.ensures (filled_of (Err c.in_err-n.field-0.0) c.read_binary.new.out)
    c.in_err-n.ensures (λ z. omega (arith, number_of-above c.in_err-n.field-0.0, z))))

pub slice_bounds-words-end : goal.slice_bounds-words-end
slice_bounds-words-end c = (read c).1.0

pub slice_bounds-write_text-end : goal.slice_bounds-write_text-end
slice_bounds-write_text-end c = (read (goal.at.slice_bounds-write_text-end c).In_ok-n).1.1

pub returns : goal.returns
returns c =
    goes_on c.args.input.now c.args.out.now _ (filled_of c.write_text.result c.write_text.new.out) (read (goal.at.returns c).In_ok-n).0 c.write_text.ensures
