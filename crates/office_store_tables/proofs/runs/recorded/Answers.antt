use Rattle.std.proofs.lemmas.Result.{IfOk-from_err}
use Rattle.sqlite.specs.Held.{state}
use Rattle.office_store_tables.proofs.RunLemmas.{reported_is}
use Rattle.office_store_tables.proofs.ReportReads.{run_reads}
use Rattle.office_store_tables.proofs.runs.recorded.Goals as goal

pub returns-clause-value : goal.returns-clause-value
returns-clause-value g c trusted =
    reported_is ((state g.S.Store c.run_rows.new.conn).now.trees 3) c.args.run c.only_reports.result c.in_ok-rows.rows.items (c.in_ok-rows.ensures.finds trusted) (rw c.as_slice.ensures.value at c.only_reports.ensures.ok)

pub returns-clause-bad : goal.returns-clause-bad
returns-clause-bad g c trusted finished reported bad =
    run_reads ((state g.S.Store c.run_rows.new.conn).now.trees 3) c.args.run finished c.in_ok-rows.rows.items (c.in_ok-rows.ensures.finds trusted) reported (rw c.as_slice.ensures.value at (c.only_reports.ensures.none bad)) (rw c.as_slice.ensures.value at (c.only_reports.ensures.one bad))

pub returns-in_err-rows-clause-value : goal.returns-in_err-rows-clause-value
returns-in_err-rows-clause-value g c trusted = IfOk-from_err c.from_residual.result _ c.from_residual.ensures.0

pub returns-in_err-rows-clause-texts : goal.returns-in_err-rows-clause-texts
returns-in_err-rows-clause-texts g c = IfOk-from_err c.from_residual.result _ c.from_residual.ensures.0
