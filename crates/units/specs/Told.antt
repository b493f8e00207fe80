-- What C is handed of a call that fills a buffer or tells a length, and the records of crate `format` that it stands for. Assumes nothing.
use Rattle.std.specs.Prelude.{ℕ, List, Result, Ok, Err}
use Rattle.format.specs.Calls as calls
use Rattle.units.specs.declared.Filled.{Filled}
use Rattle.units.specs.declared.refusal.Refusal.{Refusal}
use Rattle.units.specs.Refusal.{number_of}

-- "number" and "length .. handed back 0"
abbrev pub told : Result ℕ Refusal → Filled
told (Ok len) = record { number = 0; len = len }
told (Err r) = record { number = number_of r; len = 0 }

-- with the buffer at exit: a contract reads `filled_told result out.new ≡ fill answer out.old`
abbrev pub filled_told : Filled → List ℕ → calls.Filled
filled_told r buffer = record { number = r.number; len = r.len; buffer = buffer }

-- of a length alone: a contract reads `measured_told result ≡ measured answer`
abbrev pub measured_told : Filled → calls.Measured
measured_told r = record { number = r.number; len = r.len }
