use Rattle.testing_rules_model.specs.Covered.{builds_in}
use Rattle.testing_rules_model.specs.Unstable.{is_above_drops}
use Rattle.testing_rules_model.proofs.MoreMail.{rows-drop}
use Rattle.testing_rules_laws.proofs.laws.drop_takes_one.Goals as goal

pub returns : goal.returns
returns c = λ s m d h. rw h (rows-drop (is_above_drops s) d (builds_in s))
