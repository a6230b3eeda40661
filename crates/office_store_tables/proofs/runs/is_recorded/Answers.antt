use Rattle.std.proofs.Common.{sym, subst}
use Rattle.std.specs.Prelude.{◌↔◌, IsTrue}
use Rattle.std.proofs.lemmas.Result.{IfOk-from_err}
use Rattle.sqlite.specs.Held.{state}
use Rattle.office_store_tables.specs.steps.Reading.{IsRecorded}
use Rattle.office_store_tables.proofs.RunCounts.{recorded_is}
use Rattle.office_store_tables.proofs.runs.is_recorded.Goals as goal

pub returns-clause-own : goal.returns-clause-own
returns-clause-own g c trusted =
    let rows = (state g.S.Store c.recorded.new.conn).now.trees 3 in
    subst (λ b. IsTrue b ↔ IsRecorded rows c.args.run) (sym c.is_some.ensures) (recorded_is rows c.args.run c.in_ok-reports.reports (c.in_ok-reports.ensures.value trusted) c.in_ok-reports.ensures.texts)

pub returns-in_err-reports-clause-own : goal.returns-in_err-reports-clause-own
returns-in_err-reports-clause-own g c trusted = IfOk-from_err c.from_residual.result _ c.from_residual.ensures.0
