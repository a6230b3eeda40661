use Rattle.office_core_queries.proofs.ExportFacts.{bag_is, gives_back}
use Rattle.office_core_queries.proofs.backup_laws.export_gives_back.Goals as goal

pub returns-clause-bag : goal.returns-clause-bag
returns-clause-bag c = λ setup content office. bag_is setup content.kept office.texts

pub returns-clause-gives : goal.returns-clause-gives
returns-clause-gives c = λ setup content office. gives_back setup content.kept office.texts office.places
