-- Steps beside `specs/Unstable.antt`.
use Rattle.std.specs.Prelude.{ℕ, List, map, filter}
use Rattle.std.specs.Str.{bytes_eq}
use Rattle.testing_rules_model.specs.declared.facts.BuildIn.{BuildIn}
use Rattle.testing_rules_model.specs.declared.suite.RowIn.{RowIn}
use Rattle.testing_rules_items.specs.Words.{Text}
use Rattle.testing_rules_model.specs.Unstable.{row_at}

-- the builds of an architecture as its rows, at its place
abbrev pub built_on : List BuildIn → ℕ × Text → List RowIn
built_on builds p = map (row_at p.0) (filter (λ b. bytes_eq b.binary.architecture p.1) builds)
