use Rattle.std.proofs.lemmas.Result.{IfOk-from_err}
use Rattle.office_store_tables.proofs.runs.finished.Goals as goal

pub returns-in_err-said-clause-value : goal.returns-in_err-said-clause-value
returns-in_err-said-clause-value g c trusted = IfOk-from_err c.from_residual.result _ c.from_residual.ensures.0
