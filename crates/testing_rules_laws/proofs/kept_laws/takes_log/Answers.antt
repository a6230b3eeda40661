use Rattle.testing_rules_facts.proofs.Shifting.{takes_log}
use Rattle.testing_rules_laws.proofs.kept_laws.takes_log.Goals as goal

pub returns : goal.returns
returns c = takes_log
