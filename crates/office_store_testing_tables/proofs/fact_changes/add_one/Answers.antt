use Rattle.std.proofs.Common.{sym, ◌∙◌}
use Rattle.sqlite.specs.Held.{state}
use Rattle.office_store_testing_tables.proofs.KindReads.{of_others, of_delays}
use Rattle.office_store_testing_tables.proofs.WithinLemmas.{kept_within, failed_within, failed_does}
use Rattle.office_store_testing_tables.proofs.FactMoves.{adds_fact_moves, adds_delays_moves}
use Rattle.office_store_testing_tables.proofs.fact_changes.add_one.Goals as goal

pub returns-then-is_no_delays : goal.returns-then-is_no_delays
returns-then-is_no_delays g c = record {
  steps = kept_within _ c.in_ok-added.ensures.steps;
  yields = λ trusted. adds_fact_moves c.args.release (state g.S.Store c.args.tx.now.conn.now).now.trees (state g.S.Store c.add_fact.new.tx.conn.now).now.trees c.args.fact.now (of_others c.args.fact.now (sym c.is_no_delays.ensures ∙ c.if-is_no_delays.true)) (c.in_ok-added.ensures.yields trusted);
}

pub returns : goal.returns
returns g c = record {
  steps = kept_within _ c.in_ok-put.ensures.steps;
  yields = λ trusted. adds_delays_moves c.args.release (state g.S.Store c.args.tx.now.conn.now).now.trees (state g.S.Store c.add_delays.new.tx.conn.now).now.trees c.args.fact.now (of_delays c.args.fact.now (sym c.is_no_delays.ensures ∙ c.if-is_no_delays.false)) (c.in_ok-put.ensures.yields trusted);
}

pub returns-in_err-added : goal.returns-in_err-added
returns-in_err-added g c = failed_does _ c.from_residual.ensures.0 (failed_within _ c.from_residual.ensures.0 c.in_err-added.ensures.steps)

pub returns-in_err-put : goal.returns-in_err-put
returns-in_err-put g c = failed_does _ c.from_residual-in_err-put.ensures.0 (failed_within _ c.from_residual-in_err-put.ensures.0 c.in_err-put.ensures.steps)
