use Rattle.std.proofs.Common.{◌-◌, ◌<◌, ◌≤◌, get_or}
use Rattle.testing_rules_model.specs.declared.fact_row.FactRow.{FactRow}
use Rattle.office_core_facts.specs.steps.Taking.{AreNear}
use Rattle.office_core_facts.proofs.restored.rows_end.Given as goal

abbrev pub invariant-rows : goal.invariant-rows
invariant-rows l = record {
  on : l.start < l.place;
  within : l.place ≤ l.end;
  near : (d : FactRow) → AreNear l.span (get_or l.rows l.start d) l.rows l.start l.place;
}

abbrev pub decreases-rows : goal.decreases-rows
decreases-rows l = l.end - l.place
