-- A file that begins with the header is the binary form's. Assumes nothing.
use mathlib.Core.Path.{◌≡◌, subst}
use mathlib.Core.List.{List}
use Prim.Native.Nat.{ℕ}
use Rattle.format.specs.Binary.{header, binary_file}
use Rattle.format.specs.Calls.{Filled, write_binary, WritesBinary}
use Rattle.binary_write.specs.Files.{file_after, WritesAfter}

-- after the header, a file is the binary form's
pub writes_binary : (front ws buffer : List ℕ) (r : Filled) → front ≡ header → WritesAfter front ws buffer r → WritesBinary ws buffer r
unfolding file_after write_binary binary_file
writes_binary front ws buffer r e w = subst (λ f. WritesAfter f ws buffer r) e w
