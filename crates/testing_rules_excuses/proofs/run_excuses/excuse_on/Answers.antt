use Rattle.std.proofs.lemmas.Result.{IfOk-from_err}
use Rattle.testing_rules_excuses.proofs.run_excuses.excuse_on.Goals as goal

pub returns-in_err-copy : goal.returns-in_err-copy
returns-in_err-copy c = IfOk-from_err c.from_residual.result _ c.from_residual.ensures.0

pub returns-in_err-copy_version : goal.returns-in_err-copy_version
returns-in_err-copy_version c = IfOk-from_err c.from_residual-in_err-copy_version.result _ c.from_residual-in_err-copy_version.ensures.0

pub returns-in_err-copy-2 : goal.returns-in_err-copy-2
returns-in_err-copy-2 c = IfOk-from_err c.from_residual-in_err-copy-2.result _ c.from_residual-in_err-copy-2.ensures.0

pub returns-in_err-reasons_of : goal.returns-in_err-reasons_of
returns-in_err-reasons_of c = IfOk-from_err c.from_residual-in_err-reasons_of.result _ c.from_residual-in_err-reasons_of.ensures.0
