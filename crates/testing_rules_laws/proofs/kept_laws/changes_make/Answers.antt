use Rattle.testing_rules_laws.proofs.Logging.{changes_make}
use Rattle.testing_rules_laws.proofs.kept_laws.changes_make.Goals as goal

pub returns : goal.returns
returns c = changes_make
