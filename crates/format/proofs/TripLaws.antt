-- One trip, in either form: its number by the lengths of its buffers, and that the words stand after it. Each form has a law, `FormTrip`;
-- what follows from it is said once, for every form. Assumes nothing.
use mathlib.Core.Path.{◌≡◌, refl, sym, ◌∙◌, ap, subst}
use mathlib.Core.Bool.{Bool, true, false, ◌||◌}
use mathlib.Core.List.{List}
use mathlib.Core.Option.{Option, none, some}
use Prim.Native.Nat.{ℕ, ◌^◌, ◌≤◌, ◌<◌}
use native.Mathlib.Omega.{arith}
use lib.ListN.{length, drop}
use lib.Seq.{take-append_seam}
use lib.Dec.{leb, ltb}
use borrow.Author.Tests.{leb-true, leb-false, le-leb, lt-ltb, le-ltb}
use Rattle.std.specs.Prelude.{if◌then◌else◌}
use Rattle.format.specs.Basics.{Outcome, given, every, All}
use Rattle.format.specs.ObjectFile.{Label, Relocation, ObjectFile, source_text}
use Rattle.format.specs.Records.{source_records}
use Rattle.format.specs.Words.{words_of, object_of}
use Rattle.format.specs.Source.{newlines}
use Rattle.format.specs.Fair.{FairParts, only-blocks, with_source_lem}
use Rattle.format.specs.Binary.{binary_file, binary_object, counts_fit}
use Rattle.format.specs.TextWriter.{text_file}
use Rattle.format.specs.TextReader.{text_object}
use Rattle.format.specs.Calls.{Filled, fill, in_order, write_binary, write_text, read_binary, read_text}
use Rattle.format.specs.Trips.{Form, binary, text, Trip, Writes, Reads, filled_part, TripMade, write_refused, read-refused, completed, log_entry, file_in, file_of, is_short, AsExpected}
use Rattle.format.proofs.Ranges.{WellFormed, InRange}
use Rattle.format.proofs.ListLaws.{by_test, every-all, all_map}
use Rattle.format.proofs.WordsTrip.{words_back, words-only}
use Rattle.format.proofs.Lengths.{binary-order}
use Rattle.format.proofs.DebugTrip.{newlines-length}
use Rattle.format.proofs.BinaryFair.{binary-fair, texts-short, Short}
use Rattle.format.proofs.TextTrip.{text-trip}

-- a call that would give `out`, by the length of its buffer
module _ (out buffer : List ℕ) (r : Filled) (e : r ≡ fill (given out) buffer) where
  pub filled : r.number ≡ 0 → (length out ≤ length buffer) × (filled_part r ≡ out)
  unfolding fill
  filled z = by_test (leb (length out) (length buffer)) yes_case no_case
    where
      yes_case : leb (length out) (length buffer) ≡ true → (length out ≤ length buffer) × (filled_part r ≡ out)
      yes_case t = (leb-true (length out) (length buffer) t, ap filled_part (rw t at e) ∙ take-append_seam out (drop (length out) buffer))

      no_case : leb (length out) (length buffer) ≡ false → (length out ≤ length buffer) × (filled_part r ≡ out)
      no_case t = let n : r.number ≡ 3 = ap (λ (x : Filled). x.number) (rw t at e) in absurd (omega arith)

  pub not-filled : ¬ (r.number ≡ 0) → (length buffer < length out) × (r.number ≡ 3)
  unfolding fill
  not-filled z = by_test (leb (length out) (length buffer)) yes_case no_case
    where
      yes_case : leb (length out) (length buffer) ≡ true → (length buffer < length out) × (r.number ≡ 3)
      yes_case t = absurd (z (ap (λ (x : Filled). x.number) (rw t at e)))

      no_case : leb (length out) (length buffer) ≡ false → (length buffer < length out) × (r.number ≡ 3)
      no_case t = (leb-false (length out) (length buffer) t, ap (λ (x : Filled). x.number) (rw t at e))

-- the words of a fair object, few enough for a slice
pub record Stands (ws : List ℕ) (h : ObjectFile) : Type 0 where
  pub words : words_of h ≡ ws
  pub well : WellFormed h
  pub range : InRange h
  pub fair : FairParts h
  pub size : length ws < 2 ^ 62

pub stands : (ws : List ℕ) (h : ObjectFile) → length ws < 2 ^ 62 → object_of ws ≡ given h → FairParts h → Stands ws h
stands ws h n e f = let o = words-only ws h e in record { words = o.0; well = o.1; range = o.2; fair = f; size = n }

read_back : (ws : List ℕ) (h : ObjectFile) → Stands ws h → object_of ws ≡ given h
read_back ws h s = ap object_of (sym s.words) ∙ words_back h s.well s.range

words-few : (ws : List ℕ) (h : ObjectFile) → Stands ws h → length (words_of h) < 2 ^ 62
words-few ws h s = subst (λ (x : List ℕ). length x < 2 ^ 62) (sym s.words) s.size

file_of_lem : (f : Form) (ws : List ℕ) (h : ObjectFile) → Stands ws h → file_of f ws ≡ file_in f h
unfolding file_of
file_of_lem f ws h s = rw (read_back ws h s)

-- what a read that gives the object's words fills a buffer with
reads-words :
    (ws : List ℕ) (h : ObjectFile) → Stands ws h → (room : List ℕ) {o : Outcome (List ℕ)} → o ≡ given (words_of h) → fill o room ≡ fill (given ws) room
reads-words ws h s room e = ap (λ (x : Outcome (List ℕ)). fill x room) (e ∙ ap given s.words)

-- what a write of words that stand promises, and a read of the file written
pub record Promise (f : Form) (ws buffer : List ℕ) (w : Filled) : Type 0 where
  pub file : List ℕ
  pub written : w ≡ fill (given file) buffer
  pub size : length file ≡ length (file_of f ws)
  pub back : (room : List ℕ) (r : Filled) → Reads f file room r → r ≡ fill (given ws) room

-- A form's law: a fair object's file comes back as the object.
abbrev pub FormTrip : Form → Type 0
FormTrip f =
    (ws : List ℕ) (h : ObjectFile) → Stands ws h → (buffer : List ℕ) (w : Filled) → Writes f ws buffer w → Promise f ws buffer w

-- the binary form

-- question 2 is never answered no
fair-counts : (h : ObjectFile) → FairParts h → counts_fit h ≡ true
unfolding counts_fit every
fair-counts h (only-blocks b) = rw b.line-blocks
fair-counts h (with_source_lem s f) =
    every-all (λ l. leb (length l.addresses) 65535) h.line_blocks
    (all_map (λ l u. le-leb (length l.addresses) 65535 u.few-lines) h.line_blocks f.line-blocks)

bytes-binary :
    (ws : List ℕ) (h : ObjectFile) (ls : List Label) (rs : List Relocation) → object_of ws ≡ given h → counts_fit h ≡ true
    → write_binary ws ls rs ≡ given (binary_file (in_order h ls rs))
unfolding write_binary
bytes-binary ws h ls rs e c = rw (e, c)

words-binary : (bs : List ℕ) (h : ObjectFile) → binary_object bs ≡ given h → read_binary bs ≡ given (words_of h)
unfolding read_binary
words-binary bs h e = rw e

pub binary-form : FormTrip binary
binary-form ws h s buffer w p =
    let ls : List Label = p.0 in
    let rs : List Relocation = p.1 in
    let e = read_back ws h s in
    let o = p.2 h e in
    let b = binary-fair h ls rs s.well s.range s.fair o.0 o.1 (texts-short h (words-few ws h s)) in
    record {
      file = binary_file (in_order h ls rs);
      written = p.3 ∙ ap (λ (x : Outcome (List ℕ)). fill x buffer) (bytes-binary ws h ls rs e (fair-counts h s.fair));
      size = binary-order h ls rs o.0 o.1 ∙ ap length (sym (file_of_lem binary ws h s));
      back = λ room r q. q ∙ reads-words ws h s room (words-binary (binary_file (in_order h ls rs)) h b);
    }

-- the text form

few-lines : (h : ObjectFile) → length (words_of h) < 2 ^ 62 → newlines (source_text h.source) < 2 ^ 64
unfolding source_records source_text newlines
few-lines h n = go h.source (texts-short h n).source
  where
    go : (o : Option (List ℕ)) → All Short (source_records o) → newlines (source_text o) < 2 ^ 64
    go none a = omega arith
    go (some s) a = let e = newlines-length s in let b = a.0 in omega arith

bytes-text : (ws : List ℕ) (h : ObjectFile) → object_of ws ≡ given h → write_text ws ≡ given (text_file h)
unfolding write_text
bytes-text ws h e = rw e

words-text : (bs : List ℕ) (h : ObjectFile) → text_object bs ≡ given h → read_text bs ≡ given (words_of h)
unfolding read_text
words-text bs h e = rw e

-- what is written of a fair object is read as it
pub text-back : (ws : List ℕ) (h : ObjectFile) → Stands ws h → read_text (text_file h) ≡ given (words_of h)
text-back ws h s = words-text (text_file h) h (text-trip h s.well s.range s.fair (few-lines h (words-few ws h s)))

pub text-form : FormTrip text
text-form ws h s buffer w p = record {
  file = text_file h;
  written = p ∙ ap (λ (x : Outcome (List ℕ)). fill x buffer) (bytes-text ws h (read_back ws h s));
  size = ap length (sym (file_of_lem text ws h s));
  back = λ room r q. q ∙ reads-words ws h s room (text-back ws h s);
}

pub form-trip : (f : Form) → FormTrip f
form-trip binary = binary-form
form-trip text = text-form

-- a trip by the lengths of its buffers, the file's and the object's
module _ (t : Trip) (ws : List ℕ) where
  abbrev bytes_short : Bool
  bytes_short = ltb (length t.bytes) (length (file_of t.form ws))

  abbrev words_short : Bool
  words_short = ltb (length t.words) (length ws)

  number_of_lem : (a b : Bool) → bytes_short ≡ a → words_short ≡ b → ◌≡◌ {A = ℕ} (if is_short t ws then 3 else 0) (if a || b then 3 else 0)
  unfolding is_short
  number_of_lem a b p q = ap (λ (x : Bool). if x || words_short then 3 else 0) p ∙ ap (λ (y : Bool). if a || y then 3 else 0) q

-- a trip from the words of a fair object
pub trip_law :
    (t : Trip) (ws : List ℕ) (h : ObjectFile) (n : ℕ) (next : List ℕ) → Stands ws h → TripMade t ws n next → AsExpected (log_entry t ws n next)
trip_law t ws h n next s (write_refused w p ne) =
    let x = form-trip t.form ws h s t.bytes w p in
    let o = not-filled x.file t.bytes w x.written ne in
    let z = x.size in
    let a : bytes_short t ws ≡ true = lt-ltb (length t.bytes) (length (file_of t.form ws)) (omega arith) in
    record { number = o.1 ∙ sym (number_of_lem t ws true (words_short t ws) a refl); stood = refl }
trip_law t ws h n next s (read-refused w r p e q ne) =
    let x = form-trip t.form ws h s t.bytes w p in
    let o = filled x.file t.bytes w x.written e in
    let z = x.size in
    let q' : Reads t.form x.file t.words r = subst (λ (b : List ℕ). Reads t.form b t.words r) o.1 q in
    let u = not-filled ws t.words r (x.back t.words r q') ne in
    let a : bytes_short t ws ≡ false = le-ltb (length t.bytes) (length (file_of t.form ws)) (omega arith) in
    let b : words_short t ws ≡ true = lt-ltb (length t.words) (length ws) (omega arith) in
    record { number = u.1 ∙ sym (number_of_lem t ws false true a b); stood = refl }
trip_law t ws h n next s (completed w r p e q d) =
    let x = form-trip t.form ws h s t.bytes w p in
    let o = filled x.file t.bytes w x.written e in
    let z = x.size in
    let q' : Reads t.form x.file t.words r = subst (λ (b : List ℕ). Reads t.form b t.words r) o.1 q in
    let u = filled ws t.words r (x.back t.words r q') d in
    let a : bytes_short t ws ≡ false = le-ltb (length t.bytes) (length (file_of t.form ws)) (omega arith) in
    let b : words_short t ws ≡ false = le-ltb (length t.words) (length ws) (omega arith) in
    record { number = sym (number_of_lem t ws false false a b); stood = u.1 }
