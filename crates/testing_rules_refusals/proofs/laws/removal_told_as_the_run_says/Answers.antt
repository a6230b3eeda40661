use Rattle.testing_rules_refusals.proofs.Moving.{removal_so}
use Rattle.testing_rules_refusals.proofs.laws.removal_told_as_the_run_says.Goals as goal

pub returns : goal.returns
returns c = removal_so
