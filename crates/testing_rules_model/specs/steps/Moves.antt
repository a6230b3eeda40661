-- Steps beside `specs/Moves.antt`.
use Rattle.std.specs.Prelude.{ℕ, Bool, ◌||◌, ◌==◌}
use Rattle.testing_rules_model.specs.declared.suite.RowIn.{RowIn}
use Rattle.testing_rules_items.specs.Words.{all_place}

-- the row is on the architecture: its own, or of `all`
abbrev pub is_row_on : ℕ → RowIn → Bool
is_row_on arch r = (r.arch == arch) || (r.arch == all_place)
