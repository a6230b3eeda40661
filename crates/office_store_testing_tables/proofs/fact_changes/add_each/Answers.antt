use Rattle.std.proofs.Common.{◌≤◌, ◌-◌, take, drop, length, true, refl, subst, arith}
use Rattle.std.proofs.lemmas.List.{take_all}
use Rattle.sqlite.specs.Held.{state}
use Rattle.office_store_testing_tables.specs.steps.FactSteps.{AddsEach}
use Rattle.office_store_testing_tables.proofs.WithinLemmas.{none_within, kept_within, failed_within, then_within, failed_does}
use Rattle.office_store_testing_tables.proofs.Eights.{rest_length}
use Rattle.office_store_testing_tables.proofs.FactMoves.{adds_start, adds_on}
use Rattle.office_store_testing_tables.proofs.fact_changes.add_each.Goals as goal

pub facts-init : goal.facts-init
facts-init g c = record {
  steps = none_within _ true c.requires;
  within = omega arith;
  changed = λ trusted. adds_start c.args.release (state g.S.Store c.args.tx.now.conn.now).now.trees (state g.S.Store c.args.tx.now.conn.now).now.trees refl;
}

pub facts-preserved : goal.facts-preserved
facts-preserved g c = record {
  steps = then_within _ c.facts.invariant.steps (kept_within _ c.in_ok-count.ensures.does.steps);
  within =
      let more : c.in_ok-count.count ≤ length (take (length c.args.facts.now - c.facts.at) (drop c.facts.at c.args.facts.now)) = c.in_ok-count.ensures.count.1 in
      omega (arith, more, rest_length c.args.facts.now c.facts.at, c.facts-test.true);
  changed = λ trusted.
      adds_on c.args.release (state g.S.Store c.args.tx.now.conn.now).now.trees (state g.S.Store c.facts.tx.conn.now).now.trees (state g.S.Store c.add_first.new.tx.conn.now).now.trees
      c.args.facts.now c.facts.at c.in_ok-count.count (c.facts.invariant.changed (c.in_ok-count.ensures.does.steps.before trusted)) (c.in_ok-count.ensures.does.yields trusted);
}

pub returns : goal.returns
returns g c = record {
  steps = kept_within _ c.facts.invariant.steps;
  yields = λ trusted. subst (AddsEach c.args.release (state g.S.Store c.args.tx.now.conn.now).now.trees (state g.S.Store c.facts.tx.conn.now).now.trees) (take_all c.facts.at c.args.facts.now c.facts-test.false) (c.facts.invariant.changed trusted);
}

pub returns-in_err-count : goal.returns-in_err-count
returns-in_err-count g c = failed_does _ c.from_residual.ensures.0 (then_within _ c.facts.invariant.steps (failed_within _ c.from_residual.ensures.0 c.in_err-count.ensures.does.steps))
