-- The suites that a run leaves for the next one.
use Rattle.std.specs.Prelude.{List, Option, Some, None}
use Rattle.testing_install.specs.Closed.{marked}
use Rattle.testing_rules_model.specs.declared.suite.RowIn.{RowIn}
use Rattle.testing_rules_suites.specs.Present.{CarriedState, IsShown}

-- if there are suites, the present ones of their rows are testing's rows
abbrev pub AreCarriedOver : Option CarriedState → List RowIn → Type 0
AreCarriedOver None rows = Unit {0}
AreCarriedOver (Some s) rows = IsShown s.rows (marked s.stands) rows
