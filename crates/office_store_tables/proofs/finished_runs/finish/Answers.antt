use Rattle.std.proofs.lemmas.Result.{IfOk-from_err}
use Rattle.office_store_tables.proofs.finished_runs.finish.Goals as goal

pub returns-in_err-said-clause-open : goal.returns-in_err-said-clause-open
returns-in_err-said-clause-open g c clean trusted = IfOk-from_err c.from_residual.result _ c.from_residual.ensures.0

pub returns-in_err-said-clause-ordered : goal.returns-in_err-said-clause-ordered
returns-in_err-said-clause-ordered g c = IfOk-from_err c.from_residual.result _ c.from_residual.ensures.0

pub returns-in_err-said-clause-texts : goal.returns-in_err-said-clause-texts
returns-in_err-said-clause-texts g c = IfOk-from_err c.from_residual.result _ c.from_residual.ensures.0

pub returns-in_err-said-clause-done : goal.returns-in_err-said-clause-done
returns-in_err-said-clause-done g c trusted = IfOk-from_err c.from_residual.result _ c.from_residual.ensures.0
