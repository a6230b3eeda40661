-- Ordered builds, kept in blocks.
use Rattle.std.specs.Prelude.{List}
use Rattle.std.specs.List.{flat_map}
use Rattle.testing_rules_model.specs.declared.facts.BuildIn.{BuildIn}

-- the rows of all blocks, concatenated
abbrev pub joined : List (List BuildIn) → List BuildIn
joined blocks = flat_map (λ rows. rows) blocks
