use Rattle.testing_rules_refusals.proofs.Moving.{group_so}
use Rattle.testing_rules_refusals.proofs.laws.group_told_as_the_run_says.Goals as goal

pub returns : goal.returns
returns c = group_so
