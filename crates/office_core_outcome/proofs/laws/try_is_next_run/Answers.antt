use Rattle.office_core_outcome.proofs.NextFacts.{next_is_tried}
use Rattle.office_core_outcome.proofs.laws.try_is_next_run.Goals as goal

pub returns : goal.returns
returns c = record { next = next_is_tried }
