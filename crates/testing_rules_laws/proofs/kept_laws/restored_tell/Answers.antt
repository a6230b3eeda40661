use Rattle.testing_rules_laws.proofs.Said.{restored_tell}
use Rattle.testing_rules_laws.proofs.kept_laws.restored_tell.Goals as goal

pub returns : goal.returns
returns c = restored_tell
