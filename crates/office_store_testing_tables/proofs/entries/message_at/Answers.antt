use Rattle.std.proofs.lemmas.Result.{IfOk-from_err}
use Rattle.office_store_testing_tables.proofs.entries.message_at.Goals as goal

pub returns-in_err-find-clause-ok : goal.returns-in_err-find-clause-ok
returns-in_err-find-clause-ok g c trusted = IfOk-from_err c.from_residual.result _ c.from_residual.ensures.0
