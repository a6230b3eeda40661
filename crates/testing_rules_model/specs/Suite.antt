-- How contracts see testing.
use Rattle.std.specs.Prelude.{List, [], Option, Some, None}
use Rattle.std.specs.declared.alloc.Global.{Global}
use Rattle.std.specs.declared.rc.Rc.{Rc}
use Rattle.testing_rules_model.specs.declared.suite.SourceIn.{SourceIn}
use Rattle.testing_rules_model.specs.declared.suite.RowIn.{RowIn}

-- one version per source, by name, and one row per architecture and binary name, in this order
pub record Suite : Type 0 where
  pub sources : List SourceIn
  pub rows : List RowIn

-- the entries that testing shares with its copies, or none
abbrev pub suite_of : Option (Rc Suite Global) → Suite
suite_of None = record { sources = []; rows = [] }
suite_of (Some entries) = entries.value
