use Rattle.std.proofs.Common.{SFits, w64, rules, to_z-of_z}
use Rattle.office_store_testing_tables.proofs.Passed.{well, never_bad, still_well}
use Rattle.office_store_testing_tables.proofs.WithinLemmas.{kept_within, failed_within, failed_never_bad}
use Rattle.office_store_testing_tables.proofs.rowids.take_one.Goals as goal

pub returns : goal.returns
returns g c =
    let fits : SFits w64 c.args.id = search rules in
    record {
      steps = kept_within _ c.in_ok-count.ensures.steps;
      yields = λ trusted. rw (to_z-of_z fits, c.in_ok-alone.ensures.ok) at (c.in_ok-count.ensures.yields trusted);
      bad = well _;
    }

pub returns-in_err-count : goal.returns-in_err-count
returns-in_err-count g c = failed_never_bad _ c.from_residual.ensures.0 (never_bad _ c.from_residual.ensures.1) (failed_within _ c.from_residual.ensures.0 c.in_err-count.ensures.steps)

pub returns-in_err-alone : goal.returns-in_err-alone
returns-in_err-alone g c = failed_never_bad _ c.from_residual-in_err-alone.ensures.0 (still_well _ _ c.from_residual-in_err-alone.ensures.1 c.in_err-alone.ensures.bad) (kept_within _ c.in_ok-count.ensures.steps)
