use Rattle.std.proofs.Common.{sym, subst}
use Rattle.testing_rules_model.specs.Suite.{Suite}
use Rattle.testing_rules_model.specs.Unstable.{unstable_sources, unstable_rows, hints_by_number, unhints_by_number}
use Rattle.testing_rules_model.specs.Watched.{AllWatchedWork}
use Rattle.testing_rules_model.proofs.Stays.{update-keeps, none-works}
use Rattle.testing_rules_laws.proofs.laws.watched_rows_stay.Goals as goal

pub returns : goal.returns
returns c = (
  λ archs s excuses old new decisions is h.
      subst (λ (t : Suite). AllWatchedWork archs t.rows) (sym is.1)
      (update-keeps archs (unstable_sources s) (unstable_rows archs s) (hints_by_number s) (unhints_by_number s) excuses old h),
  none-works,
)
