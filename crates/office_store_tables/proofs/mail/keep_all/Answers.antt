use Rattle.std.proofs.lemmas.Result.{IfOk-from_err}
use Rattle.office_store_tables.proofs.mail.keep_all.Goals as goal

pub returns-in_err-add_letters-clause-open : goal.returns-in_err-add_letters-clause-open
returns-in_err-add_letters-clause-open g c clean trusted = IfOk-from_err c.from_residual.result _ c.from_residual.ensures.0

pub returns-in_err-add_letters-clause-kept : goal.returns-in_err-add_letters-clause-kept
returns-in_err-add_letters-clause-kept g c trusted = IfOk-from_err c.from_residual.result _ c.from_residual.ensures.0

pub returns-in_err-commit-clause-open : goal.returns-in_err-commit-clause-open
returns-in_err-commit-clause-open g c clean trusted = IfOk-from_err c.from_residual-in_err-commit.result _ c.from_residual-in_err-commit.ensures.0

pub returns-in_err-commit-clause-kept : goal.returns-in_err-commit-clause-kept
returns-in_err-commit-clause-kept g c trusted = IfOk-from_err c.from_residual-in_err-commit.result _ c.from_residual-in_err-commit.ensures.0
