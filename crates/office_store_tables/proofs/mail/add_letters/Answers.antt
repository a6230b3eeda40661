use Rattle.std.proofs.Common.{◌≤◌, ◌-◌, take, drop, length, true, refl, subst, arith}
use Rattle.std.proofs.lemmas.List.{take_all}
use Rattle.sqlite.specs.Held.{state}
use Rattle.office_store_testing_tables.specs.steps.TableSteps.{AddsLetters}
use Rattle.office_store_testing_tables.proofs.WithinLemmas.{none_within, kept_within, failed_within, then_within, failed_does}
use Rattle.office_store_testing_tables.proofs.Eights.{rest_length}
use Rattle.office_store_tables.proofs.KeepAllLemmas.{letters_on}
use Rattle.office_store_tables.proofs.mail.add_letters.Goals as goal

pub letters-init : goal.letters-init
letters-init g c = record {
  steps = none_within _ true c.requires;
  within = omega arith;
  changed = λ trusted. refl;
}

pub letters-preserved : goal.letters-preserved
letters-preserved g c = record {
  steps = then_within _ c.letters.invariant.steps (kept_within _ c.in_ok-count.ensures.does.steps);
  within =
      let more : c.in_ok-count.count ≤ length (take (length c.args.letters.now - c.letters.at) (drop c.letters.at c.args.letters.now)) = c.in_ok-count.ensures.count.1 in
      omega (arith, more, rest_length c.args.letters.now c.letters.at, c.letters-test.true);
  changed = λ trusted.
      letters_on (state g.S.Store c.args.tx.now.conn.now).now.trees (state g.S.Store c.letters.tx.conn.now).now.trees (state g.S.Store c.add_first.new.tx.conn.now).now.trees
      c.args.letters.now c.letters.at c.in_ok-count.count (c.letters.invariant.changed (c.in_ok-count.ensures.does.steps.before trusted)) (c.in_ok-count.ensures.does.yields trusted);
}

pub returns : goal.returns
returns g c = record {
  steps = kept_within _ c.letters.invariant.steps;
  yields = λ trusted. subst (AddsLetters (state g.S.Store c.args.tx.now.conn.now).now.trees (state g.S.Store c.letters.tx.conn.now).now.trees) (take_all c.letters.at c.args.letters.now c.letters-test.false) (c.letters.invariant.changed trusted);
}

pub returns-in_err-count : goal.returns-in_err-count
returns-in_err-count g c = failed_does _ c.from_residual.ensures.0 (then_within _ c.letters.invariant.steps (failed_within _ c.from_residual.ensures.0 c.in_err-count.ensures.does.steps))
