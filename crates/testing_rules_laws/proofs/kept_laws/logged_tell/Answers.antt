use Rattle.testing_rules_laws.proofs.Said.{logged_tell}
use Rattle.testing_rules_laws.proofs.kept_laws.logged_tell.Goals as goal

pub returns : goal.returns
returns c = logged_tell
