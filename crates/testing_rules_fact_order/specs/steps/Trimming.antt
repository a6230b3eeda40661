-- A testing of which only the sources are used.
use Rattle.std.specs.Prelude.{List, []}
use Rattle.testing_rules_model.specs.declared.suite.SourceIn.{SourceIn}
use Rattle.testing_rules_model.specs.Suite.{Suite}

-- these sources, and no row
abbrev pub with_sources : List SourceIn → Suite
with_sources sources = record { sources = sources; rows = [] }
