use Rattle.std.proofs.Common.{arith}
use Rattle.std.proofs.lemmas.Result.{IfOk-from_err}
use Rattle.sqlite.specs.Held.{state}
use Rattle.office_store_testing_tables.specs.steps.TableSteps.{rowid_column}
use Rattle.office_store_testing_tables.proofs.MailLemmas.{as_many}
use Rattle.office_store_tables.proofs.mail.count.Goals as goal

pub returns-clause-count : goal.returns-clause-count
returns-clause-count g c trusted =
    let many = as_many rowid_column ((state g.S.Store c.rowids.new.conn).now.trees 1) c.in_ok-rows.rows.items (c.in_ok-rows.ensures.finds trusted) in
    let size = c.len.ensures in
    omega (arith, many, size)

pub returns-in_err-rows-clause-count : goal.returns-in_err-rows-clause-count
returns-in_err-rows-clause-count g c trusted = IfOk-from_err c.from_residual.result _ c.from_residual.ensures.0
