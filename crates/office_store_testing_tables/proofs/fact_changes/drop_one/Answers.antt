use Rattle.std.proofs.Common.{arith, refl, sym, ap, ◌∙◌}
use Rattle.sqlite.specs.Held.{state}
use Rattle.testing_rules_model.specs.declared.fact_row.FactRow.{FactRow}
use Rattle.office_store_testing_tables.proofs.KindReads.{of_others, of_delays}
use Rattle.office_store_testing_tables.proofs.Passed.{well, still_well}
use Rattle.office_store_testing_tables.proofs.WithinLemmas.{none_within, kept_within, failed_within, failed_never_bad}
use Rattle.office_store_testing_tables.proofs.FactMoves.{drops_fact_moves, drops_nothing, drops_delays_moves, delays_are}
use Rattle.office_store_testing_tables.proofs.fact_changes.drop_one.Goals as goal

pub returns-then-is_no_delays : goal.returns-then-is_no_delays
returns-then-is_no_delays g c = record {
  steps = kept_within _ c.in_ok-drop_fact.ensures.steps;
  yields = λ trusted. drops_fact_moves c.args.release (state g.S.Store c.args.tx.now.conn.now).now.trees (state g.S.Store c.drop_fact.new.tx.conn.now).now.trees c.args.fact.now (of_others c.args.fact.now (sym c.is_no_delays.ensures ∙ c.if-is_no_delays.true)) (c.in_ok-drop_fact.ensures.yields trusted);
  bad = well _;
}

pub returns-then-fact-release : goal.returns-then-fact-release
returns-then-fact-release g c = record {
  steps = none_within _ _ c.requires;
  yields = λ trusted.
      let old = (state g.S.Store c.args.tx.now.conn.now).now.trees in
      drops_nothing c.args.release old old c.args.fact.now (of_delays c.args.fact.now (sym c.is_no_delays.ensures ∙ c.if-is_no_delays.false)) (λ same. omega (arith, ap (λ (f : FactRow). f.sender) same, c.if-fact-release.true)) refl;
  bad = well _;
}

pub returns-then-fact-ne0 : goal.returns-then-fact-ne0
returns-then-fact-ne0 g c = record {
  steps = none_within _ _ c.requires;
  yields = λ trusted.
      let old = (state g.S.Store c.args.tx.now.conn.now).now.trees in
      drops_nothing c.args.release old old c.args.fact.now (of_delays c.args.fact.now (sym c.is_no_delays.ensures ∙ c.if-is_no_delays.false)) (λ same. omega (arith, ap (λ (f : FactRow). f.place) same, c.if-fact-ne0.true)) refl;
  bad = well _;
}

pub returns : goal.returns
returns g c = record {
  steps = kept_within _ c.in_ok-drop_delays.ensures.steps;
  yields = λ trusted.
      drops_delays_moves c.args.release (state g.S.Store c.args.tx.now.conn.now).now.trees (state g.S.Store c.drop_delays.new.tx.conn.now).now.trees c.args.fact.now
      (delays_are c.args.release c.args.fact.now (of_delays c.args.fact.now (sym c.is_no_delays.ensures ∙ c.if-is_no_delays.false)) (omega (arith, c.if-fact-release.false)) (omega (arith, c.if-fact-ne0.false))) (c.in_ok-drop_delays.ensures.yields trusted);
  bad = well _;
}

pub returns-in_err-drop_fact : goal.returns-in_err-drop_fact
returns-in_err-drop_fact g c = failed_never_bad _ c.from_residual.ensures.0 (still_well _ _ c.from_residual.ensures.1 c.in_err-drop_fact.ensures.bad) (failed_within _ c.from_residual.ensures.0 c.in_err-drop_fact.ensures.steps)

pub returns-in_err-drop_delays : goal.returns-in_err-drop_delays
returns-in_err-drop_delays g c = failed_never_bad _ c.from_residual-in_err-drop_delays.ensures.0 (still_well _ _ c.from_residual-in_err-drop_delays.ensures.1 c.in_err-drop_delays.ensures.bad) (failed_within _ c.from_residual-in_err-drop_delays.ensures.0 c.in_err-drop_delays.ensures.steps)
