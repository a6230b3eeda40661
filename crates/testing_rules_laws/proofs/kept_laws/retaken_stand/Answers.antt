use Rattle.testing_rules_laws.proofs.BesideTesting.{retaken_stand}
use Rattle.testing_rules_laws.proofs.kept_laws.retaken_stand.Goals as goal

pub returns : goal.returns
returns c = retaken_stand
