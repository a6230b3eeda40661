use Rattle.testing_rules_laws.proofs.Logging.{trims_log}
use Rattle.testing_rules_laws.proofs.kept_laws.trims_log.Goals as goal

pub returns : goal.returns
returns c = trims_log
