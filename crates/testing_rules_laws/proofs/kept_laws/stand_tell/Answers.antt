use Rattle.testing_rules_laws.proofs.Said.{stand_tell}
use Rattle.testing_rules_laws.proofs.kept_laws.stand_tell.Goals as goal

pub returns : goal.returns
returns c = stand_tell
