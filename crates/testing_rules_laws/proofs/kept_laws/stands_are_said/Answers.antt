use Rattle.testing_rules_laws.proofs.Telling.{stands_are_said}
use Rattle.testing_rules_laws.proofs.kept_laws.stands_are_said.Goals as goal

pub returns : goal.returns
returns c = stands_are_said
