use Rattle.std.proofs.Common.{ap, subst, SFits, w64, rules, to_z-of_z}
use Rattle.sqlite.specs.Effect.{Database}
use Rattle.sqlite.specs.Held.{state}
use Rattle.office_store_testing_tables.proofs.Passed.{well, still_well}
use Rattle.office_store_testing_tables.proofs.WithinLemmas.{kept_within, failed_within, then_within, failed_never_bad}
use Rattle.office_store_testing_tables.specs.steps.FactSteps.{is_delays, IsRowidFound}
use Rattle.office_store_testing_tables.proofs.FactMoves.{drops_no_delays, drops_delays}
use Rattle.office_store_testing_tables.proofs.fact_changes.drop_delays.Goals as goal

pub returns-in-None : goal.returns-in-None
returns-in-None g c = record {
  steps = kept_within _ c.in_ok-found.ensures.looks.steps;
  yields = λ trusted.
      let old = (state g.S.Store c.args.tx.now.conn.now).now.trees in
      drops_no_delays old (state g.S.Store c.found_delays.new.tx.conn.now).now.trees c.args.number (subst (IsRowidFound (is_delays c.args.number) (old 10)) c.in-None.is (c.in_ok-found.ensures.looks.yields trusted)) (ap (λ (d : Database). d.trees) (c.in_ok-found.ensures.looks.same trusted));
  bad = well _;
}

pub returns-in_ok-take_one-in-Some : goal.returns-in_ok-take_one-in-Some
returns-in_ok-take_one-in-Some g c = record {
  steps = then_within _ c.in_ok-found.ensures.looks.steps c.in_ok-take_one-in-Some.ensures.steps;
  yields = λ trusted.
      let old = (state g.S.Store c.args.tx.now.conn.now).now.trees in
      let fits : SFits w64 c.in-Some.id = search rules in
      let before = c.in_ok-take_one-in-Some.ensures.steps.before trusted in
      drops_delays old (state g.S.Store c.found_delays.new.tx.conn.now).now.trees (state g.S.Store c.take_one.new.tx.conn.now).now.trees c.args.number c.in-Some.id
      (subst (IsRowidFound (is_delays c.args.number) (old 10)) c.in-Some.is (c.in_ok-found.ensures.looks.yields before)) (ap (λ (d : Database). d.trees) (c.in_ok-found.ensures.looks.same before)) (rw (to_z-of_z fits) at (c.in_ok-take_one-in-Some.ensures.yields trusted));
  bad = well _;
}

pub returns-in_err-found : goal.returns-in_err-found
returns-in_err-found g c = failed_never_bad _ c.from_residual.ensures.0 (still_well _ _ c.from_residual.ensures.1 c.in_err-found.ensures.bad) (failed_within _ c.from_residual.ensures.0 c.in_err-found.ensures.looks.steps)

pub returns-in_err-take_one-in-Some : goal.returns-in_err-take_one-in-Some
returns-in_err-take_one-in-Some g c =
    let exit = c.from_residual-in_err-take_one-in-Some in
    failed_never_bad _ exit.ensures.0 (still_well _ _ exit.ensures.1 c.in_err-take_one-in-Some.ensures.bad) (then_within _ c.in_ok-found.ensures.looks.steps (failed_within _ exit.ensures.0 c.in_err-take_one-in-Some.ensures.steps))
