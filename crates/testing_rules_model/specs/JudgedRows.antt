-- Rows with answers, as the code has them.
use Rattle.std.specs.Prelude.{List, map}
use Rattle.testing_rules_model.specs.declared.suite.RowIn.{RowIn}
use Rattle.testing_rules_model.specs.declared.suite.LentRow.{LentRow}

-- the borrowed row
abbrev pub row_of : LentRow → RowIn
row_of r = record { arch = r.arch; binary = r.binary.now; sender = r.sender; number = r.number; place = r.place }

-- the borrowed rows
abbrev pub lent : List LentRow → List RowIn
lent rows = map row_of rows
