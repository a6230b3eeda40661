use Rattle.std.proofs.Common.{◌≤◌, length, refl, true, arith}
use Rattle.std.proofs.lemmas.List.{take_all}
use Rattle.sqlite.specs.Held.{state}
use Rattle.office_store_testing_tables.proofs.Passed.{well, still_well}
use Rattle.office_store_testing_tables.proofs.WithinLemmas.{none_within, kept_within, failed_within, then_within, failed_never_bad}
use Rattle.office_store_testing_tables.proofs.FactMoves.{drops_start, drops_at}
use Rattle.office_store_testing_tables.proofs.fact_changes.drop_each.Goals as goal

pub facts-init : goal.facts-init
facts-init g c = record {
  steps = none_within _ true c.requires;
  changed = λ trusted. drops_start c.args.release (state g.S.Store c.args.tx.now.conn.now).now.trees (state g.S.Store c.args.tx.now.conn.now).now.trees refl;
}

pub facts-preserved : goal.facts-preserved
facts-preserved g c = record {
  steps = then_within _ c.facts.invariant.steps (kept_within _ c.in_ok-drop_one.ensures.steps);
  changed = λ trusted.
      drops_at c.args.release (state g.S.Store c.args.tx.now.conn.now).now.trees (state g.S.Store c.facts.tx.conn.now).now.trees (state g.S.Store c.drop_one.new.tx.conn.now).now.trees
      c.args.facts.now c.facts.fact-index _ c.facts-test.true (c.facts.invariant.changed (c.in_ok-drop_one.ensures.steps.before trusted)) (c.in_ok-drop_one.ensures.yields trusted);
}

pub returns : goal.returns
returns g c =
    let over : length c.args.facts.now ≤ c.facts.fact-index = omega (arith, c.facts-test.false) in
    record {
      steps = kept_within _ c.facts.invariant.steps;
      yields = λ trusted. rw (take_all c.facts.fact-index c.args.facts.now over) at (c.facts.invariant.changed trusted);
      bad = well _;
    }

pub returns-in_err-drop_one : goal.returns-in_err-drop_one
returns-in_err-drop_one g c = failed_never_bad _ c.from_residual.ensures.0 (still_well _ _ c.from_residual.ensures.1 c.in_err-drop_one.ensures.bad) (then_within _ c.facts.invariant.steps (failed_within _ c.from_residual.ensures.0 c.in_err-drop_one.ensures.steps))
