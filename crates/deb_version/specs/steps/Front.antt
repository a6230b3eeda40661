-- The front of a part, where two parts are compared.
use Rattle.std.specs.Prelude.{ℕ, ◌+◌, ◌==◌, if◌then◌else◌, List, [], ◌∷◌}
use Rattle.std.specs.Char.{is_ascii_digit, is_ascii_alphabetic}
use Rattle.deb_version.specs.Characters.{char}

-- the weight of a non-digit, plus 1, and 1 for a digit, which ends a run of non-digits
abbrev pub rank : ℕ → ℕ
rank c = if c == char "~" then 0 else (if is_ascii_digit c then 1 else (if is_ascii_alphabetic c then c + 1 else c + 257))

-- the rank of the first byte, and 1 for the end of the part
abbrev pub front_rank : List ℕ → ℕ
front_rank [] = 1
front_rank (c ∷ cs) = rank c
