-- The rows of a source that moves, as the code has them.
use Rattle.std.specs.Prelude.{◌≡◌, ℕ, List, map}
use Rattle.std.specs.List.{list_any}
use Rattle.std.specs.Str.{bytes_eq}
use Rattle.testing_rules_model.specs.JudgedRows.{lent}
use Rattle.testing_rules_reports.specs.steps.LentLines.{has_line}
use Rattle.testing_rules_refusals.specs.declared.living.Arrival.{Arrival}

-- the set has the names of the rows' packages
abbrev pub IsArrival : Arrival → Type 0
IsArrival a = (name : List ℕ) → has_line a.packages.now.keys name ≡ list_any (bytes_eq name) (map (λ r. r.binary.name) (lent a.rows.now))
