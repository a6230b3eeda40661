-- How much of a header line has arrived.
use Rattle.std.specs.Prelude.{◌≡◌, ℕ, ◌+◌, ◌<◌, ◌≤◌, List, ◌++◌, length, take, codes, decimal, nat_le, if◌then◌else◌}

-- the bytes of a line up to a place: after the blank, at place 5, the digits of a number
abbrev pub spelled : ℕ → ℕ → List ℕ
spelled place value = if nat_le place 5 then take place (codes "mail ") else codes "mail " ++ decimal value

-- the place is after the digits
pub record IsLine (place value : ℕ) : Type 0 where
  pub within : place ≤ 14
  pub digits : 5 < place → length (decimal value) + 5 ≡ place
  pub small : value ≤ 999_999_999
