-- Which rows were installable, by the names of the architecture's own rows that were, and of those of `all`.
use Rattle.std.specs.Prelude.{ℕ, Bool, ◌&&◌, ◌||◌, not, ◌==◌, if◌then◌else◌, List, map, filter}
use Rattle.std.specs.Borrow.{Bor}
use Rattle.testing_rules_items.specs.Words.{Text}
use Rattle.testing_rules_model.specs.declared.suite.RowIn.{RowIn}
use Rattle.testing_rules_model.specs.Moves.{RowAnswer, is_row_of, is_watched_on}
use Rattle.testing_rules_reports.specs.steps.LentLines.{has_line}

-- the names of those of the rows of a place that are installable
abbrev pub working_names : ℕ → List RowAnswer → List Text
working_names place before = map (λ j. j.row.binary.name) (filter (λ j. j.is_installable && (j.row.arch == place)) before)

-- the row's name is among those of its place
abbrev pub worked_by : ℕ → List (Bor (List ℕ)) → List (Bor (List ℕ)) → RowIn → Bool
worked_by arch own all r = if r.arch == arch then has_line own r.binary.name else has_line all r.binary.name

-- the row fails, by these names
abbrev pub fails_by : ℕ → List Text → List (Bor (List ℕ)) → List (Bor (List ℕ)) → RowAnswer → Bool
fails_by arch group own all j = is_watched_on arch j.row && not j.is_installable && (is_row_of group j.row || worked_by arch own all j.row)
