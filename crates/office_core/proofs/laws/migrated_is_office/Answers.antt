use Rattle.office_core.proofs.MigratedFacts.{migrated_office}
use Rattle.office_core.proofs.laws.migrated_is_office.Goals as goal

pub returns : goal.returns
returns c = migrated_office
