-- The order in which testing keeps its sources and its rows.
use Rattle.std.specs.Prelude.{List, map}
use Rattle.std.specs.List.Sorted.{IsStrictlySortedBy}
use Rattle.testing_rules_model.specs.declared.suite.SourceIn.{SourceIn}
use Rattle.testing_rules_model.specs.declared.suite.RowIn.{RowIn}
use Rattle.testing_rules_items.specs.Words.{byte_cmp}
use Rattle.testing_rules_model.specs.Moves.{row_cmp, row_key}

-- sources in byte order of their names, each name once
abbrev pub AreByName : List SourceIn → Type 0
AreByName sources = IsStrictlySortedBy byte_cmp (map (λ s. s.name) sources)

-- rows by architecture and then in byte order of their names, each pair once
abbrev pub AreByKey : List RowIn → Type 0
AreByKey rows = IsStrictlySortedBy row_cmp (map row_key rows)
