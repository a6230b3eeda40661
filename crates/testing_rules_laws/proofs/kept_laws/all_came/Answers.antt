use Rattle.testing_rules_laws.proofs.AllCame.{all_came}
use Rattle.testing_rules_laws.proofs.kept_laws.all_came.Goals as goal

pub returns : goal.returns
returns c = all_came
