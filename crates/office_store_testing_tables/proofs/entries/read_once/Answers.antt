use Rattle.std.proofs.lemmas.Result.{IfOk-from_err}
use Rattle.office_store_testing_tables.proofs.ReadingLemmas.{none_read}
use Rattle.office_store_testing_tables.proofs.entries.read_once.Goals as goal

pub returns-in_err-message-clause-block : goal.returns-in_err-message-clause-block
returns-in_err-message-clause-block g c trusted = IfOk-from_err c.from_residual.result _ c.from_residual.ensures.0

pub returns-in_err-message-clause-place : goal.returns-in_err-message-clause-place
returns-in_err-message-clause-place g c = IfOk-from_err c.from_residual.result _ c.from_residual.ensures.0

pub returns-in_err-message-clause-held : goal.returns-in_err-message-clause-held
returns-in_err-message-clause-held g c trusted = IfOk-from_err c.from_residual.result _ c.from_residual.ensures.0

pub returns-then-is_last-clause-reads : goal.returns-then-is_last-clause-reads
returns-then-is_last-clause-reads g c = none_read _ _ c.requires.ours
