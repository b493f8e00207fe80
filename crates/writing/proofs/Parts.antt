-- THE COMPOSITION LAW. Parts are written one after the other, each by a part writer that is lent the unused rest of the output,
-- `at += put(&mut out[at..], ..);`. That all of it fits is shown once, by `begin`; `emit` takes a part off what is left, `emitted` ends it.
-- For elements of any type. Assumes nothing.
use mathlib.Core.Path.{◌≡◌, refl, sym, ap, ap₂, ◌∙◌}
use mathlib.Core.List.{List, [], ◌∷◌, ◌++◌, append-nil, append_assoc}
use Prim.Native.Nat.{ℕ, ◌+◌, ◌-◌, ◌^◌, ◌≤◌, ◌<◌}
use native.Mathlib.Nat.{le_refl}
use native.Mathlib.Omega.{arith}
use lib.ListN.{length, take, drop, set, length-append, length-drop, drop_of_length-le}
use mir.Syntax.{w64}
use mir.Val.{Fits}
use borrow.Author.Rules.{part_to_end}
use borrow.Rule.Slice.PartMut.{mid_of, post_of, put_mid}
use Rattle.writing.specs.Written.{into, Put}
use Rattle.writing.proofs.WriteLaws.{filled-fits, written-fits, length-into, into-into, into_snoc}

-- a writer's state: the next place, and the output
pub record State (A : Type 0) : Type 0 where
  pub at : ℕ
  pub out : List A

module _ {A : Type 0} where
  -- the rest that is lent
  abbrev pub rest : State A → List A
  rest s = mid_of s.at (length s.out - s.at) s.out

  -- the state after a part writer returned r and left ys in the rest
  abbrev pub after : State A → ℕ → List A → State A
  after s r ys = record { at = s.at + r; out = put_mid s.at (length s.out - s.at) s.out ys }

-- `whole` is being written into the output that was `room`: all but `left` of it stands at the front, and the next place is its end
pub record Emits {A : Type 0} (whole room left : List A) (s : State A) : Type 0 where
  pub done : List A
  pub split : done ++ left ≡ whole
  pub place : s.at ≡ length done
  pub held : s.out ≡ into done room
  pub fits : length whole ≤ length room

pub begin : {A : Type 0} (whole room : List A) → length whole ≤ length room → Emits whole room whole (record { at = 0; out = room })
begin whole room h = record { done = []; split = refl; place = refl; held = refl; fits = h }

-- the same past a first part, whose writer was lent all of the room
pub begun : {A : Type 0} {whole room ys : List A} {r : ℕ} (part left : List A) → whole ≡ part ++ left → length whole ≤ length room
    → Put part room r ys → Emits whole room left (record { at = r; out = ys })
begun {room} part left e h p =
    let n : length part ≤ length room = omega (arith, ap length e, length-append part left) in
    record { done = part; split = sym e; place = p.0 ∙ filled-fits part room n; held = p.1 ∙ written-fits part room n; fits = h }

module _ {A : Type 0} {whole room left : List A} {s : State A} (f : Emits whole room left s) where
  -- there is room for what is left
  has_place : s.at + length left ≤ length room
  has_place = omega (arith, f.place, f.fits, simp length-append at (ap length f.split))

  -- the output keeps its length
  pub same : length s.out ≡ length room
  same = ap length f.held ∙ length-into f.done room (omega (arith, f.place, has_place))

  pub has_room : s.at + length left ≤ length s.out
  has_room = rw same has_place

  -- what `&mut out[at..]` asks
  pub within : s.at ≤ length s.out
  within = omega (arith, has_room)

  -- what `at += ..` asks
  pub small : length room < 2 ^ 64 → Fits w64 s.at
  small h = record { fits = omega (arith, has_place) }

  -- the rest that is lent is the room that is left, and nothing lies past it
  rest_is : rest s ≡ drop s.at s.out
  rest_is = part_to_end s.out s.at

  past : post_of s.at (length s.out - s.at) s.out ≡ []
  past = drop_of_length-le (drop s.at s.out) {i = length s.out - s.at} (simp length-drop (le_refl _))

  -- a part that is the front of what is left
  pub emit :
      (part left' : List A) {ys : List A} {r : ℕ} → left ≡ part ++ left' → Put part (rest s) r ys → Emits whole room left' (after s r ys)
  emit part left' e p =
      let n : length left ≡ length part + length left' = ap length e ∙ length-append part left' in
      let h : length part ≤ length (rest s) = rw (rest_is, length-drop) (omega (arith, has_room)) in
      record {
        done = f.done ++ part;
        split = append_assoc f.done part left' ∙ sym (ap (λ (l : List A). f.done ++ l) e) ∙ f.split;
        place = ap₂ (λ (x y : ℕ). x + y) f.place (p.0 ∙ filled-fits part (rest s) h) ∙ sym (length-append f.done part);
        held =
            ap₂ (λ (x y : List A). take s.at s.out ++ (x ++ y)) (p.1 ∙ written-fits part (rest s) h) past
            ∙ ap (λ (x : List A). take s.at s.out ++ x) (append-nil (into part (rest s)))
            ∙ ap₂ (λ (x y : List A). take s.at x ++ into part y) f.held (rest_is ∙ ap (drop s.at) f.held)
            ∙ into-into f.done part room s.at f.place (omega (arith, f.place, has_place));
        fits = f.fits;
      }

  -- all is written
  pub emitted : left ≡ [] → Put whole room s.at s.out
  emitted e =
      let w : f.done ≡ whole = sym (append-nil f.done) ∙ sym (ap (λ (l : List A). f.done ++ l) e) ∙ f.split in (
        f.place ∙ ap length w ∙ sym (filled-fits whole room f.fits),
        f.held ∙ ap (λ (l : List A). into l room) w ∙ sym (written-fits whole room f.fits),
      )

  -- one element, stored at the next place
  module _ (x : A) (left' : List A) (e : left ≡ x ∷ left') where
    pub room-one : s.at < length s.out
    room-one = omega (arith, has_room, ap length e)

    pub emit_one : Emits whole room left' (record { at = s.at + 1; out = set s.out s.at x })
    emit_one = record {
      done = f.done ++ (x ∷ []);
      split = append_assoc f.done (x ∷ []) left' ∙ sym (ap (λ (l : List A). f.done ++ l) e) ∙ f.split;
      place = ap (λ (k : ℕ). k + 1) f.place ∙ sym (length-append f.done (x ∷ []));
      held =
          ap (λ (o : List A). set o s.at x) f.held
          ∙ into_snoc f.done room s.at x f.place (omega (arith, f.place, has_place, ap length e));
      fits = f.fits;
    }
