use Rattle.testing_rules_model.proofs.Giving.{archs-known}
use Rattle.testing_rules_laws.proofs.laws.archs_stay_known.Goals as goal

pub returns : goal.returns
returns c = archs-known
