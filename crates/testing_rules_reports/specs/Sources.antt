-- What the reports of a run say about one source. This office decides to report on a source alone.
use Rattle.std.specs.Prelude.{ℕ, Bool, true, false, List, [], ◌∷◌, ◌++◌, ◌==◌, codes, decimal, drop, filter, nat_eq, if◌then◌else◌}
use Rattle.std.specs.List.{before_first, flat_map, list_any, slice_split, starts_with}
use Rattle.std.specs.Str.{bytes_eq}
use Rattle.std.specs.Str.Lines.{lines}
use Rattle.testing_rules_reports.specs.Changes.{is_inner, behind}

-- a space, which ends a word of a line
abbrev pub is_space : ℕ → Bool
is_space c = c == 32

-- the words of a line, separated by spaces
abbrev pub words : List ℕ → List (List ℕ)
words line = slice_split is_space line

-- a name is among the words of a line after its first one
abbrev pub names : List ℕ → List ℕ → Bool
names name line = list_any (bytes_eq name) (drop 1 (words line))

-- whether a line of excuses is about a source: an inner line if the line before it is, any other if its first word is
-- the source's name
abbrev pub is_own : List ℕ → Bool → List ℕ → Bool
is_own name before line = if is_inner line then before else bytes_eq (before_first is_space line) name

-- the lines of excuses about a source
abbrev pub own_lines : List ℕ → Bool → List (List ℕ) → List (List ℕ)
own_lines name before [] = []
own_lines name before (line ∷ rest) = if is_own name before line then line ∷ own_lines name true rest else own_lines name false rest

-- the lines after the heading of a report
abbrev pub told_lines : List ℕ → List (List ℕ)
told_lines report = drop 1 (lines report)

-- the source's excuse
abbrev pub excuse_of : List ℕ → List ℕ → List (List ℕ)
excuse_of name excuses = own_lines name false (told_lines excuses)

-- the lines of an update that name a source
abbrev pub update_on : List ℕ → List ℕ → List (List ℕ)
update_on name update = filter (names name) (told_lines update)

-- what the reports of a run say about a source: its excuse, then a text, then each line of the update that names it
abbrev pub source_text : ℕ → List ℕ → List ℕ → List ℕ → List ℕ → List ℕ
source_text run name excuses update origins =
    codes "why " ++ decimal run ++ 32 ∷ name ++ 10 ∷ flat_map (behind []) (excuse_of name excuses) ++ origins ++ flat_map (behind []) (update_on name update)

-- a source waits in an update: some line begins with the word `wait`, a space, the source's name and a space
abbrev pub waits_in : List ℕ → List ℕ → Bool
waits_in name update = list_any (λ line. starts_with nat_eq line (codes "wait " ++ name ++ 32 ∷ [])) (told_lines update)
