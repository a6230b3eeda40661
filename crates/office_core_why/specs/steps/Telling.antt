-- Unstable as facts give it.
use Rattle.std.specs.Prelude.{List, filter}
use Rattle.testing_rules_items.specs.Words.{Text}
use Rattle.testing_rules_model.specs.FactLists.{FactLists}
use Rattle.testing_rules_model.specs.Unstable.{built_rows, is_in_force}
use Rattle.office_core_why.specs.Why.{Unstable}

-- what unstable has, by facts
abbrev pub unstable_of : List Text → FactLists → Unstable
unstable_of archs f = record { sources = f.sources; rows = built_rows archs f.rows; bugs = f.bugs; hints = filter (is_in_force f.unhints) f.hints }
