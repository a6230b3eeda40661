-- How two reports of the same kind differ, line by line.
use Rattle.std.specs.Prelude.{ℕ, Bool, not, nat_eq, List, [], ◌∷◌, ◌++◌, codes, filter, if◌then◌else◌}
use Rattle.std.specs.List.{flat_map, list_any, starts_with}
use Rattle.std.specs.Str.{bytes_eq}
use Rattle.std.specs.Str.Lines.{lines}

-- an inner line of an excuse begins with a space
abbrev pub is_inner : List ℕ → Bool
is_inner line = starts_with nat_eq line (codes " ")

-- lines of excuses, each inner one with the first line of its excuse before it
abbrev pub fronted : List ℕ → List (List ℕ) → List (List ℕ)
fronted front [] = []
fronted front (line ∷ rest) = if is_inner line then (front ++ line) ∷ fronted front rest else line ∷ fronted line rest

-- the lines of a report on excuses, each readable alone: the name and the versions of its source, and perhaps a line
-- about it
abbrev pub excuse_lines : List ℕ → List (List ℕ)
excuse_lines report = fronted [] (lines report)

-- the lines that aren't among the others
abbrev pub lacked : List (List ℕ) → List (List ℕ) → List (List ℕ)
lacked these others = filter (λ line. not (list_any (bytes_eq line) others)) these

-- a line after a word
abbrev pub behind : List ℕ → List ℕ → List ℕ
behind word line = word ++ line ++ 10 ∷ []

-- the lines only in the first report, each after one word, then those only in the second, each after another
abbrev pub changes : List ℕ → List ℕ → List (List ℕ) → List (List ℕ) → List ℕ
changes gone come first second = flat_map (behind gone) (lacked first second) ++ flat_map (behind come) (lacked second first)
