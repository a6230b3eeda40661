use Rattle.testing_rules_model.specs.Covered.{uploads_in}
use Rattle.testing_rules_model.proofs.ByName.{source-found}
use Rattle.testing_rules_laws.proofs.laws.unstable_source_is_found.Goals as goal

pub returns : goal.returns
returns c = λ s name. source-found (uploads_in s) name
