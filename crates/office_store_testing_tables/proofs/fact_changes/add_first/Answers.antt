use Rattle.std.proofs.Common.{take, sym, ◌∙◌}
use Rattle.sqlite.specs.Held.{state}
use Rattle.office_store_testing_tables.proofs.WithinLemmas.{kept_within, failed_within, failed_does}
use Rattle.office_store_testing_tables.proofs.FactMoves.{adds_facts_each, adds_head}
use Rattle.office_store_testing_tables.proofs.fact_changes.add_first.Goals as goal

pub returns-then-are_no_delays-clause-does : goal.returns-then-are_no_delays-clause-does
returns-then-are_no_delays-clause-does g c = record {
  steps = kept_within _ c.in_ok-add_eight.ensures.steps;
  yields = λ trusted. adds_facts_each c.args.release (state g.S.Store c.args.tx.now.conn.now).now.trees (state g.S.Store c.add_eight.new.tx.conn.now).now.trees (take 8 c.args.facts.now) (sym c.are_no_delays.ensures ∙ c.if-are_no_delays.true) (c.in_ok-add_eight.ensures.yields trusted);
}

pub returns-clause-does : goal.returns-clause-does
returns-clause-does g c = record {
  steps = kept_within _ c.in_ok-add_one.ensures.steps;
  yields = λ trusted. adds_head c.args.release (state g.S.Store c.args.tx.now.conn.now).now.trees (state g.S.Store c.add_one.new.tx.conn.now).now.trees c.args.facts.now _ c.requires.some (c.in_ok-add_one.ensures.yields trusted);
}

pub returns-in_err-add_eight-clause-does : goal.returns-in_err-add_eight-clause-does
returns-in_err-add_eight-clause-does g c = failed_does _ c.from_residual.ensures.0 (failed_within _ c.from_residual.ensures.0 c.in_err-add_eight.ensures.steps)

pub returns-in_err-add_one-clause-does : goal.returns-in_err-add_one-clause-does
returns-in_err-add_one-clause-does g c = failed_does _ c.from_residual-in_err-add_one.ensures.0 (failed_within _ c.from_residual-in_err-add_one.ensures.0 c.in_err-add_one.ensures.steps)
