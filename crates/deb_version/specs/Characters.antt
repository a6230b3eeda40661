-- The characters that versions, control data and mails are written with, by their codes. (ASCII, RFC 20)
use Rattle.std.specs.Prelude.{ℕ, codes, slice_index}
use Prim.Native.String.{String}

-- the code of the only character of a text
abbrev pub char : String → ℕ
char text = slice_index (codes text) 0
