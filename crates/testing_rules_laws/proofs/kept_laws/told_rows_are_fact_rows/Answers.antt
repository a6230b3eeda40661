use Rattle.testing_rules_laws.proofs.Once.{told_rows_are_fact_rows}
use Rattle.testing_rules_laws.proofs.kept_laws.told_rows_are_fact_rows.Goals as goal

pub returns : goal.returns
returns c = told_rows_are_fact_rows
