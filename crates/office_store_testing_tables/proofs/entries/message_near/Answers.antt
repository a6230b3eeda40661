use Rattle.std.proofs.lemmas.Result.{IfOk-from_err}
use Rattle.office_store_testing_tables.proofs.ReadingLemmas.{then_read}
use Rattle.office_store_testing_tables.proofs.entries.message_near.Goals as goal

pub returns-in_err-bring-clause-block : goal.returns-in_err-bring-clause-block
returns-in_err-bring-clause-block g c trusted = IfOk-from_err c.from_residual.result _ c.from_residual.ensures.0

pub returns-in_err-bring-clause-ok : goal.returns-in_err-bring-clause-ok
returns-in_err-bring-clause-ok g c trusted = IfOk-from_err c.from_residual.result _ c.from_residual.ensures.0

pub returns-in-None-clause-reads : goal.returns-in-None-clause-reads
returns-in-None-clause-reads g c = then_read _ c.in_ok-bring.ensures.reads c.message_at.ensures.reads
