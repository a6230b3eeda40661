use Rattle.office_store_testing_tables.proofs.WithinLemmas.{kept_within, failed_within, failed_looks}
use Rattle.office_store_testing_tables.proofs.fact_changes.found_fact.Goals as goal

pub returns-clause-looks : goal.returns-clause-looks
returns-clause-looks g c = record {
  steps = kept_within _ c.in_ok-shown.ensures.steps;
  same = c.in_ok-shown.ensures.same;
  yields = λ trusted. record { shown = c.in_ok-shown.shown.items; are = c.in_ok-shown.ensures.yields trusted; only = rw c.as_slice.ensures.value at c.in_ok-id.ensures.ok };
}

pub returns-in_err-shown-clause-looks : goal.returns-in_err-shown-clause-looks
returns-in_err-shown-clause-looks g c = failed_looks _ c.from_residual.ensures.0 (failed_within _ c.from_residual.ensures.0 c.in_err-shown.ensures.steps)

pub returns-in_err-id-clause-looks : goal.returns-in_err-id-clause-looks
returns-in_err-id-clause-looks g c = failed_looks _ c.from_residual-in_err-id.ensures.0 (kept_within _ c.in_ok-shown.ensures.steps)
