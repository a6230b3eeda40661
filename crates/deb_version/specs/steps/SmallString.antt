-- Steps beside `specs/SmallString.antt`.
use Rattle.std.specs.Prelude.{◌≤◌, ⊤, take, IsUtf8}
use Rattle.deb_version.specs.declared.small_string.Data.{Data}
use Rattle.deb_version.specs.declared.small_string.Data.TheVariants.{Inline, Heap}

-- the inline bytes are UTF-8 and fit in the room for them
abbrev pub IsText : Data → Type 0
IsText (Inline len bytes) = (len ≤ 30) × IsUtf8 (take len bytes)
IsText (Heap text) = ⊤
