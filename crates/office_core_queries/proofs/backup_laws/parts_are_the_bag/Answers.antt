use Rattle.office_core_queries.proofs.PartFacts.{next_part, no_part}
use Rattle.office_core_queries.proofs.backup_laws.parts_are_the_bag.Goals as goal

pub returns-clause-next : goal.returns-clause-next
returns-clause-next c = next_part

pub returns-clause-end : goal.returns-clause-end
returns-clause-end c = no_part
