-- A text written into words byte by byte. Words past the end of the output are left out. Assumes nothing.
use Rattle.std.specs.Prelude.{◌≡◌, List, [], ◌∷◌, ℕ, ◌+◌, ◌*◌, length, set, eqb, ltb, if◌then◌else◌}
use Rattle.text_push.specs.declared.Held.{Held}
use Rattle.text_push.specs.declared.Over.{Over}
use Rattle.text_push.specs.declared.Over.TheVariants as over

-- a text that is being written: the place of its next word, how many bytes are held over for it, and the two first of these
pub record State : Type 0 where
  pub at : ℕ
  pub count : ℕ
  pub low : ℕ
  pub mid : ℕ

abbrev pub held_over : ℕ → Over → State
held_over at over.Nothing = record { at = at; count = 0; low = 0; mid = 0 }
held_over at (over.One a) = record { at = at; count = 1; low = a; mid = 0 }
held_over at (over.Two a b) = record { at = at; count = 2; low = a; mid = b }

abbrev pub state_of : Held → State
state_of h = held_over h.at h.over

-- the words of three bytes, and of one and two at the end
abbrev pub full_word : ℕ → ℕ → ℕ → ℕ
full_word a b c = 0xE300_0000 + a + 256 * b + 65536 * c

abbrev pub last_word : ℕ → ℕ → ℕ → ℕ
last_word n a b = if eqb n 1 then 0xE100_0000 + a else 0xE200_0000 + a + 256 * b

-- the place after one more word, if there is room for it
unfoldable pub place_after : ℕ → List ℕ → ℕ
place_after at out = if ltb at (length out) then at + 1 else at

-- the state after a word is stored at a place, and the output
abbrev pub stored : ℕ → ℕ → List ℕ → State × List ℕ
stored w at out = (record { at = place_after at out; count = 0; low = 0; mid = 0 }, set out at w)

-- the state after a byte, and the output
unfoldable pub pushed : ℕ → State × List ℕ → State × List ℕ
pushed b s =
    if eqb s.0.count 0 then (record { at = s.0.at; count = 1; low = b; mid = 0 }, s.1)
    else if eqb s.0.count 1 then (record { at = s.0.at; count = 2; low = s.0.low; mid = b }, s.1)
    else stored (full_word s.0.low s.0.mid b) s.0.at s.1

-- and after bytes
unfoldable pub pushed_all : List ℕ → State × List ℕ → State × List ℕ
pushed_all [] s = s
pushed_all (b ∷ bs) s = pushed_all bs (pushed b s)

-- the length of what is written in the end, and the output
unfoldable pub flushed : State → List ℕ → ℕ × List ℕ
flushed h out =
    if eqb h.count 0 then (h.at, out) else (place_after h.at out, set out h.at (last_word h.count h.low h.mid))

-- THE CONTRACTS: what is returned, and what the output holds at exit
abbrev pub Stores : ℕ → ℕ → List ℕ → State → List ℕ → Type 0
Stores w at out r after = (r, after) ≡ stored w at out

abbrev pub Pushes : List ℕ → State → List ℕ → State → List ℕ → Type 0
Pushes bs h out r after = (r, after) ≡ pushed_all bs (h, out)

abbrev pub Flushes : State → List ℕ → ℕ → List ℕ → Type 0
Flushes h out r after = (r, after) ≡ flushed h out
