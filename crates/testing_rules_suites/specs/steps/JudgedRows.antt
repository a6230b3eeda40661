-- Rows with answers, as the code has them.
use Rattle.std.specs.Prelude.{List, map}
use Rattle.testing_rules_suites.specs.declared.offender.RowAnswer.{RowAnswer}
use Rattle.testing_rules_model.specs.Moves.{RowAnswer as Answer}
use Rattle.testing_rules_model.specs.JudgedRows.{row_of}

-- the answer, with its row in place of the reference
abbrev pub answer : RowAnswer → Answer
answer j = record { row = row_of j.row; is_installable = j.is_installable }

-- the answers, with their rows in place of the references
abbrev pub answers : List RowAnswer → List Answer
answers judged = map answer judged
