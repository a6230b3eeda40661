use Rattle.testing_rules_model.proofs.Giving.{update-given}
use Rattle.testing_rules_laws.proofs.laws.update_is_given.Goals as goal

pub returns : goal.returns
returns c = update-given
