use Rattle.testing_rules_laws.proofs.Said.{trimmed_tell}
use Rattle.testing_rules_laws.proofs.kept_laws.trimmed_tell.Goals as goal

pub returns : goal.returns
returns c = trimmed_tell
