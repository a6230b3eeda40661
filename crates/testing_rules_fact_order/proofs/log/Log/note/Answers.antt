use Rattle.std.proofs.Common.{rules}
use Rattle.testing_rules_fact_order.proofs.log.Log.note.Goals as goal

pub returns-clause-left : goal.returns-clause-left
returns-clause-left c = search rules
