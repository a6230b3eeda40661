-- Steps beside `specs/Values.antt`.
use Rattle.std.specs.Prelude.{◌≡◌, ℕ, true, List, length, take, drop}
use Rattle.std.specs.List.{list_all}
use Rattle.std.specs.Char.{is_ascii_digit}

-- the text has these parts
pub record DayForm (text : List ℕ) : Type 0 where
  pub size : length text ≡ 10
  pub year : list_all is_ascii_digit (take 4 text) ≡ true
  pub month : list_all is_ascii_digit (take 2 (drop 5 text)) ≡ true
  pub day : list_all is_ascii_digit (take 2 (drop 8 text)) ≡ true
