use Rattle.office_store.proofs.MigratedContent.{gets_last, legible_on}
use Rattle.office_store.proofs.laws.migrated_content.Goals as goal

pub returns-clause-content : goal.returns-clause-content
returns-clause-content c = gets_last

pub returns-clause-legible : goal.returns-clause-legible
returns-clause-legible c = legible_on
