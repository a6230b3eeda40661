use Rattle.archive_plan.proofs.SyncFacts.{second_none}
use Rattle.archive_plan.proofs.laws.second_has_no_lines.Goals as goal

pub returns : goal.returns
returns c = second_none
