use Rattle.archive_plan.proofs.SyncFacts.{crowd_refuses_due}
use Rattle.archive_plan.proofs.laws.crowd_is_a_reason.Goals as goal

pub returns : goal.returns
returns c = crowd_refuses_due
