use Rattle.testing_rules_refusals.proofs.Moving.{waits_so}
use Rattle.testing_rules_refusals.proofs.laws.told_as_the_run_says.Goals as goal

pub returns : goal.returns
returns c = waits_so
