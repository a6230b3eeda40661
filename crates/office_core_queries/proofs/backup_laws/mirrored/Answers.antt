use Rattle.office_core_queries.proofs.MirrorFacts.{mirror, same_finished, same_within_each}
use Rattle.office_core_queries.proofs.backup_laws.mirrored.Goals as goal

pub returns-clause-within : goal.returns-clause-within
returns-clause-within c = mirror

pub returns-clause-same : goal.returns-clause-same
returns-clause-same c = same_within_each

pub returns-clause-replicas : goal.returns-clause-replicas
returns-clause-replicas c = same_finished
