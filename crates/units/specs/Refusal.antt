-- The numbers of refusals (document 01, "Checks, by number": '"no" gives the number'; "All yes gives number 0"). Of calls that fill a
-- buffer or tell a length also what they hand back, as the records of crate `format` that the contracts cite. Assumes nothing.
use Rattle.std.specs.Prelude.{ℕ, List, Result, Ok, Err}
use Rattle.format.specs.Calls as calls
use Rattle.units.specs.declared.refusal.Refusal.{Refusal}
use Rattle.units.specs.declared.refusal.Refusal.TheVariants as refusal

-- a refusal's number
abbrev pub number_of : Refusal → ℕ
number_of refusal.NotWellFormed = 1
number_of refusal.TooManyAddresses = 2
number_of refusal.ShortBuffer = 3
number_of refusal.NoSource = 4
number_of refusal.NoSuchLine = 5
number_of refusal.NotMapped = 6
number_of refusal.NoHeader = 10
number_of refusal.UnknownRecord = 11
number_of refusal.MissingBytes = 12
number_of refusal.RecordNotUtf8 = 13
number_of refusal.UnsortedAddresses = 14
number_of refusal.OverlappingLines = 15
number_of refusal.FileNotUtf8 = 20
number_of refusal.NoMagicLine = 21
number_of refusal.LooseLine = 22
number_of refusal.UnknownGroup = 23
number_of refusal.BadBlock = 24
number_of refusal.RepeatedBlock = 25
number_of refusal.BadLabels = 26
number_of refusal.NoDivider = 27
number_of refusal.BadLines = 28
number_of refusal.SecondLineTable = 29
number_of refusal.BadEscape = 30
number_of refusal.FallingAddresses = 31
number_of refusal.TooManyWords = 38

-- the number of what is handed back: 0 where nothing is refused
abbrev pub number_in : {A : Type 0} → Result A Refusal → ℕ
number_in (Ok a) = 0
number_in (Err r) = number_of r

-- what is handed back, with the buffer at exit: a contract reads `filled_of result out.new ≡ fill answer out.old`
abbrev pub filled_of : Result ℕ Refusal → List ℕ → calls.Filled
filled_of (Ok len) buffer = record { number = 0; len = len; buffer = buffer }
filled_of (Err r) buffer = record { number = number_of r; len = 0; buffer = buffer }

-- what is handed back of a length that is told: a contract reads `measured_of result ≡ measured answer`
abbrev pub measured_of : Result ℕ Refusal → calls.Measured
measured_of (Ok len) = record { number = 0; len = len }
measured_of (Err r) = record { number = number_of r; len = 0 }
