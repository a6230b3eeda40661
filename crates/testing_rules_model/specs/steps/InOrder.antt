-- Steps beside `specs/InOrder.antt`.
use Rattle.std.specs.Prelude.{List}
use Rattle.testing_rules_model.specs.declared.suite.SourceIn.{SourceIn}
use Rattle.testing_rules_model.specs.declared.suite.RowIn.{RowIn}
use Rattle.testing_rules_model.specs.InOrder.{AreByName, AreByKey}

-- the sources are by name, and the rows by key
pub record IsInOrder (sources : List SourceIn) (rows : List RowIn) : Type 0 where
  pub by_name : AreByName sources
  pub by_key : AreByKey rows
