use Rattle.office_core.proofs.CameFacts.{finished_beside, finished_by}
use Rattle.office_core.proofs.laws.delivered.Goals as goal

pub returns-clause-finished : goal.returns-clause-finished
returns-clause-finished c = finished_by

pub returns-clause-beside : goal.returns-clause-beside
returns-clause-beside c = finished_beside
