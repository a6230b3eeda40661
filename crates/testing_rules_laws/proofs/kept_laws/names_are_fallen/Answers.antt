use Rattle.testing_rules_laws.proofs.FallenNames.{names_are_fallen}
use Rattle.testing_rules_laws.proofs.kept_laws.names_are_fallen.Goals as goal

pub returns : goal.returns
returns c = names_are_fallen
