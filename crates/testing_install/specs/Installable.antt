-- The installable rows as a computed list: the rows of all closed sets together.
use Rattle.std.specs.Prelude.{Bool, true, false, ◌||◌, cond, List, [], ◌∷◌, ◌++◌, map}
use Rattle.std.specs.List.{list_all, list_any, filter, fold}
use Rattle.deb_control.specs.declared.binary.Binary.{Binary}
use Rattle.testing_install.specs.Satisfies.{meets}

-- all choices of rows: for each row, whether it is chosen
abbrev pub choices : {A : Type 0} → List A → List (List Bool)
choices [] = [] ∷ []
choices (row ∷ rows) = map (λ c. true ∷ c) (choices rows) ++ map (λ c. false ∷ c) (choices rows)

-- the chosen rows
abbrev pub chosen : {A : Type 0} → List A → List Bool → List A
chosen [] c = []
chosen (row ∷ rows) [] = []
chosen (row ∷ rows) (b ∷ c) = cond b (row ∷ chosen rows c) (chosen rows c)

-- each clause of each of these rows is met by one of them
abbrev pub is_closed : List Binary → Bool
is_closed rows = list_all (λ row. list_all (λ clause. list_any (λ other. meets other clause) rows) row.clauses) rows

-- the rows chosen in either choice
abbrev pub either : List Bool → List Bool → List Bool
either [] d = d
either (b ∷ c) [] = b ∷ c
either (b ∷ c) (e ∷ d) = (b || e) ∷ either c d

-- for each row, whether some closed choice has it
unfoldable pub are_installable : List Binary → List Bool
are_installable rows = fold either (map (λ _. false) rows) (filter (λ c. is_closed (chosen rows c)) (choices rows))
