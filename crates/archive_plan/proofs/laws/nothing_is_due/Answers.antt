use Rattle.archive_plan.proofs.SyncFacts.{nothing_due}
use Rattle.archive_plan.proofs.laws.nothing_is_due.Goals as goal

pub returns : goal.returns
returns c = nothing_due
