use Rattle.testing_rules_laws.proofs.Once.{rows_once}
use Rattle.testing_rules_laws.proofs.kept_laws.rows_once.Goals as goal

pub returns : goal.returns
returns c = rows_once
