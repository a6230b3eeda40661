use Rattle.testing_rules_laws.proofs.Giving.{facts_give_update}
use Rattle.testing_rules_laws.proofs.kept_laws.facts_give_update.Goals as goal

pub returns : goal.returns
returns c = facts_give_update
