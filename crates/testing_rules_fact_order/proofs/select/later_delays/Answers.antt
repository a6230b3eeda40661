use Rattle.std.proofs.Common.{rules}
use Rattle.testing_rules_fact_order.proofs.select.later_delays.Goals as goal

pub returns-then-is_lt : goal.returns-then-is_lt
returns-then-is_lt c = search rules

pub returns-else-is_lt : goal.returns-else-is_lt
returns-else-is_lt c = search rules
