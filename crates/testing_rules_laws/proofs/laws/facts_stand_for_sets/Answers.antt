use Rattle.testing_rules_model.proofs.SameFacts.{stands-same}
use Rattle.testing_rules_laws.proofs.laws.facts_stand_for_sets.Goals as goal

pub returns : goal.returns
returns c = λ f s o t same one h. stands-same s o same one f t h
