use Rattle.testing_rules_model.specs.Covered.{drops_in}
use Rattle.testing_rules_model.proofs.GreatestDrops.{greatest-decide}
use Rattle.testing_rules_laws.proofs.laws.greatest_drops_decide.Goals as goal

pub returns : goal.returns
returns c = λ s b. greatest-decide b (drops_in s)
