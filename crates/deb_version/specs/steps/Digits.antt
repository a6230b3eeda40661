-- The runs of a block; runs of digits are numbers of any length.
use Rattle.std.specs.Prelude.{◌≡◌, ◌==◌, ℕ, Bool, true, not, List, drop}
use Rattle.std.specs.Char.{is_ascii_digit}
use Rattle.std.specs.List.{position_or_len, list_all, before_first}
use Rattle.deb_version.specs.Characters.{char}
use Rattle.deb_version.specs.Key.{is_non_digit, from_digits}

-- the longest run of non-digits at the front
abbrev pub text_run : List ℕ → List ℕ
text_run part = before_first is_ascii_digit part

-- the longest run of digits after the longest run of non-digits
abbrev pub digit_run : List ℕ → List ℕ
digit_run part = before_first is_non_digit (from_digits part)

-- each byte is a digit
abbrev pub AreDigits : List ℕ → Type 0
AreDigits digits = list_all is_ascii_digit digits ≡ true

-- the longest run of digits at the front
abbrev pub leading_digits : List ℕ → List ℕ
leading_digits part = before_first is_non_digit part

-- what follows that run
abbrev pub after_digits : List ℕ → List ℕ
after_digits part = drop (position_or_len is_non_digit part) part

-- a digit other than `0`
abbrev pub is_not_zero : ℕ → Bool
is_not_zero c = not (c == char "0")

-- the digits without leading zeros
abbrev pub significant : List ℕ → List ℕ
significant digits = drop (position_or_len is_not_zero digits) digits
