use Rattle.office_core_outcome.proofs.OneFacts.{one_trial}
use Rattle.office_core_outcome.proofs.laws.trials_have_one_end.Goals as goal

pub returns : goal.returns
returns c = one_trial
