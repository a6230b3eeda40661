use Rattle.std.proofs.Common.{length, arith}
use Rattle.std.proofs.lemmas.Result.{IfOk-from_err}
use Rattle.sqlite.specs.Held.{state}
use Rattle.office_store_testing_tables.specs.steps.TableSteps.{rowid_column}
use Rattle.office_store_testing_tables.proofs.MailLemmas.{as_many}
use Rattle.office_store_tables.proofs.RestReads.{same_count}
use Rattle.office_store_tables.proofs.runs.has_rows.Goals as goal

pub returns-clause-own : goal.returns-clause-own
returns-clause-own g c trusted =
    let rows = (state g.S.Store c.numbers.new.conn).now.trees 3 in
    let many = as_many rowid_column rows c.in_ok-rows.rows.items (c.in_ok-rows.ensures.finds trusted) in
    let size = c.len.ensures in
    same_count (length rows) c.args.runs c.len.result (omega (arith, many, size))

pub returns-in_err-rows-clause-own : goal.returns-in_err-rows-clause-own
returns-in_err-rows-clause-own g c trusted = IfOk-from_err c.from_residual.result _ c.from_residual.ensures.0
