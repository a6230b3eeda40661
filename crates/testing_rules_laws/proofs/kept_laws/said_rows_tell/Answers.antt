use Rattle.testing_rules_laws.proofs.Said.{said_rows_tell}
use Rattle.testing_rules_laws.proofs.kept_laws.said_rows_tell.Goals as goal

pub returns : goal.returns
returns c = said_rows_tell
