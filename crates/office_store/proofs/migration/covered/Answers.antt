use Rattle.sqlite.specs.Held.{state}
use Rattle.office_store_tables.proofs.Passed.{passed}
use Rattle.office_store_tables.proofs.Whole.{not_crowded}
use Rattle.office_store_tables.proofs.WithinLemmas.{failed_within, failed_looks}
use Rattle.office_store.proofs.LookLemmas.{looks_on}
use Rattle.office_store.proofs.migration.covered.Goals as goal

pub returns-clause-looks : goal.returns-clause-looks
returns-clause-looks g c = looks_on _ c.in_ok-orders.ensures.looks (λ trusted. rw (c.as_slice.ensures.value, c.in_ok-orders.ensures.looks.yields trusted, c.runs.ensures.same) at c.cover_of.ensures.ok)

pub returns-in_err-orders-clause-looks : goal.returns-in_err-orders-clause-looks
returns-in_err-orders-clause-looks g c = failed_looks _ c.from_residual.ensures.0 (failed_within _ c.from_residual.ensures.0 c.in_err-orders.ensures.looks.steps)

pub returns-clause-bad : goal.returns-clause-bad
returns-clause-bad g c trusted bad whole = rw (c.as_slice.ensures.value, c.in_ok-orders.ensures.looks.yields trusted, c.runs.ensures.same) at (c.cover_of.ensures.bad bad)

pub returns-in_err-orders-clause-bad : goal.returns-in_err-orders-clause-bad
returns-in_err-orders-clause-bad g c trusted bad whole = absurd (not_crowded ((state g.S.Store c.args.tx.now.conn.now).now.trees 1) whole (c.in_err-orders.ensures.bad trusted (passed c.from_residual.result c.in_err-orders.field-0.0 _ bad c.from_residual.ensures.1)))
