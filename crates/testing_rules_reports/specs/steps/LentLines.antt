-- Borrowed lines, in a list and in a set.
use Rattle.std.specs.Prelude.{ℕ, Bool, List, map}
use Rattle.std.specs.Borrow.{Bor}
use Rattle.std.specs.List.{list_any}
use Rattle.std.specs.Str.{bytes_eq}

-- the borrowed lines
abbrev pub lent_lines : List (Bor (List ℕ)) → List (List ℕ)
lent_lines found = map (λ t. t.now) found

-- whether a line is among the keys of a set
abbrev pub has_line : List (Bor (List ℕ)) → List ℕ → Bool
has_line keys line = list_any (λ k. bytes_eq line k.now) keys
