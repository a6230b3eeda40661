use Rattle.testing_rules_laws.proofs.Telling.{rows_tell}
use Rattle.testing_rules_laws.proofs.kept_laws.rows_tell.Goals as goal

pub returns : goal.returns
returns c = rows_tell
