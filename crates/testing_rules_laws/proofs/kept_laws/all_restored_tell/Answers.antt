use Rattle.testing_rules_laws.proofs.Said.{all_restored_tell}
use Rattle.testing_rules_laws.proofs.kept_laws.all_restored_tell.Goals as goal

pub returns : goal.returns
returns c = all_restored_tell
