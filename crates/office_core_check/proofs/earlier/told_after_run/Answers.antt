use Rattle.office_core_check.proofs.EarlierFacts.{told_after}
use Rattle.office_core_check.proofs.earlier.told_after_run.Goals as goal

pub returns : goal.returns
returns c = told_after
