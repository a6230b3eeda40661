use Rattle.std.proofs.Common.{rules}
use Rattle.std.proofs.lemmas.Result.{IfOk-from_err}
use Rattle.office_store_tables.proofs.finished_runs.commit_run.Goals as goal

pub returns-in_err-_written-clause-open : goal.returns-in_err-_written-clause-open
returns-in_err-_written-clause-open g c clean trusted = IfOk-from_err c.from_residual.result _ c.from_residual.ensures.0

pub returns-in_err-_written-clause-ordered : goal.returns-in_err-_written-clause-ordered
returns-in_err-_written-clause-ordered g c = IfOk-from_err c.from_residual.result _ c.from_residual.ensures.0

pub returns-in_err-_written-clause-texts : goal.returns-in_err-_written-clause-texts
returns-in_err-_written-clause-texts g c = IfOk-from_err c.from_residual.result _ c.from_residual.ensures.0

pub returns-in_err-_written-clause-done : goal.returns-in_err-_written-clause-done
returns-in_err-_written-clause-done g c trusted = IfOk-from_err c.from_residual.result _ c.from_residual.ensures.0

pub returns-clause-open : goal.returns-clause-open
returns-clause-open g c = search rules

pub returns-clause-done : goal.returns-clause-done
returns-clause-done g c = search rules
