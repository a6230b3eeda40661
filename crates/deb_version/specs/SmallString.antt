-- How contracts see a string that keeps short texts inline.
use Rattle.std.specs.Prelude.{ℕ, List, take}
use Rattle.std.specs.String.{string_bytes}
use Rattle.deb_version.specs.declared.small_string.Data.{Data}
use Rattle.deb_version.specs.declared.small_string.Data.TheVariants.{Inline, Heap}

-- its bytes
abbrev pub bytes_of : Data → List ℕ
bytes_of (Inline len bytes) = take len bytes
bytes_of (Heap text) = string_bytes text
