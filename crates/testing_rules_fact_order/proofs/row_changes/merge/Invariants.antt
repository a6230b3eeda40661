use Rattle.std.proofs.Common.{length, ◌-◌, ◌+◌}
use Rattle.testing_rules_fact_order.specs.steps.Net.{IsNet}
use Rattle.testing_rules_fact_order.proofs.row_changes.merge.Given as goal

abbrev pub invariant-turns : goal.invariant-turns
invariant-turns l = IsNet l.came l.left l.put.items l.gone.items l.i l.j

abbrev pub decreases-turns : goal.decreases-turns
decreases-turns l = (length l.came - l.i) + (length l.left - l.j)
