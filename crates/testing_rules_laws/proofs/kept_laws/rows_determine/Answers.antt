use Rattle.testing_rules_laws.proofs.Restoring.{rows_determine}
use Rattle.testing_rules_laws.proofs.kept_laws.rows_determine.Goals as goal

pub returns : goal.returns
returns c = rows_determine
