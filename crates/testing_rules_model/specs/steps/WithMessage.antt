-- Steps beside `specs/WithMessage.antt`.
use Rattle.std.specs.Prelude.{Bool, List}
use Rattle.std.specs.List.{list_all}
use Rattle.testing_rules_model.specs.declared.facts.BuildIn.{BuildIn}
use Rattle.testing_rules_model.specs.declared.facts.DropIn.{DropIn}
use Rattle.testing_rules_model.specs.WithMessage.{outlives}

-- the package outlives all of these drops
abbrev pub stands_beside : List DropIn → BuildIn → Bool
stands_beside drops b = list_all (λ d. outlives d b) drops
