use Rattle.std.proofs.Common.{rules}
use Rattle.testing_rules_fact_order.proofs.select.outlives.Goals as goal

pub returns-else-not-eq : goal.returns-else-not-eq
returns-else-not-eq c = search rules
