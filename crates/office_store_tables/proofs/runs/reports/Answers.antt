use Rattle.std.proofs.Common.{◌≡◌, inr, Some, sym, ap, unwrap_or, ◌∙◌, arith}
use Rattle.std.proofs.lemmas.Result.{IfOk-from_err}
use Rattle.std.specs.FinMap.{get}
use Rattle.sqlite.specs.Effect.{Database}
use Rattle.sqlite.specs.Held.{state}
use Rattle.office_store_testing_tables.specs.Tables.{said_in, run_map}
use Rattle.office_store_keeper.specs.Content.{item_from_one}
use Rattle.office_store_testing_tables.specs.TableContent.{reports_to, count_said, no_reports}
use Rattle.office_store_testing_tables.proofs.Passed.{passed, no_none}
use Rattle.office_store_tables.proofs.ReportFacts.{item_past, item_is}
use Rattle.office_store_testing_tables.proofs.ReadingLemmas.{none_read, kept_read, failed_read, then_read}
use Rattle.office_store_tables.proofs.runs.reports.Goals as goal

pub returns-then-finished-run-clause-value : goal.returns-then-finished-run-clause-value
returns-then-finished-run-clause-value g c trusted =
    let db = (state g.S.Store c.finished.new.conn).now.trees in
    let count : count_said (said_in (db 0)) ≡ c.in_ok-finished.finished = sym (c.in_ok-finished.ensures.value trusted) in
    sym (ap (λ n. item_from_one c.args.run (reports_to (run_map (db 3)) n)) count ∙ item_past (run_map (db 3)) c.args.run c.in_ok-finished.finished c.if-finished-run.true)

pub returns-in-Some-clause-value : goal.returns-in-Some-clause-value
returns-in-Some-clause-value g c trusted =
    let ensures = c.in_ok-reports.ensures in
    let new = (state g.S.Store c.recorded.new.conn).now in
    let count : count_said (said_in (new.trees 0)) ≡ c.in_ok-finished.finished =
    ap (λ (d : Database). count_said (said_in (d.trees 0))) (ensures.reads.same trusted).now ∙ sym (c.in_ok-finished.ensures.value (ensures.reads.before trusted)) in
    let stands : get (run_map (new.trees 3)) c.args.run ≡ Some c.in-Some.reports = sym (ensures.value trusted) ∙ c.in-Some.is in
    sym (ap (λ n. item_from_one c.args.run (reports_to (run_map (new.trees 3)) n)) count
    ∙ item_is (run_map (new.trees 3)) c.args.run c.in_ok-finished.finished (omega (arith, c.if-run-eq0.false)) (omega (arith, c.if-finished-run.false))
    ∙ ap (λ o. Some (unwrap_or o no_reports)) stands)

pub returns-in_err-finished-clause-bad : goal.returns-in_err-finished-clause-bad
returns-in_err-finished-clause-bad g c trusted once reported bad = c.in_err-finished.ensures.bad trusted once (passed c.from_residual.result c.in_err-finished.field-0.0 _ bad c.from_residual.ensures.1)

pub returns-in_err-reports-clause-bad : goal.returns-in_err-reports-clause-bad
returns-in_err-reports-clause-bad g c trusted once reported bad =
    c.in_err-reports.ensures.bad trusted once.said.finished reported (passed c.from_residual-in_err-reports.result c.in_err-reports.field-0.0 _ bad c.from_residual-in_err-reports.ensures.1)

pub returns-in-None-clause-bad : goal.returns-in-None-clause-bad
returns-in-None-clause-bad g c trusted once reported bad =
    let ensures = c.in_ok-reports.ensures in
    let new = (state g.S.Store c.recorded.new.conn).now in
    let count : once.said.finished ≡ c.in_ok-finished.finished =
    ap count_said (sym once.is) ∙ ap (λ (d : Database). count_said (said_in (d.trees 0))) (ensures.reads.same trusted).now ∙ sym (c.in_ok-finished.ensures.value (ensures.reads.before trusted)) in
    no_none (inr (sym (ensures.value trusted) ∙ c.in-None.is)) (reported.each c.args.run (omega (arith, c.if-run-eq0.false)) (omega (arith, c.if-finished-run.false, count)))

pub returns-in_err-finished-clause-value : goal.returns-in_err-finished-clause-value
returns-in_err-finished-clause-value g c trusted = IfOk-from_err c.from_residual.result _ c.from_residual.ensures.0

pub returns-in_err-reports-clause-value : goal.returns-in_err-reports-clause-value
returns-in_err-reports-clause-value g c trusted = IfOk-from_err c.from_residual-in_err-reports.result _ c.from_residual-in_err-reports.ensures.0

pub returns-then-run-eq0-clause-reads : goal.returns-then-run-eq0-clause-reads
returns-then-run-eq0-clause-reads g c = none_read _ _ c.requires.ours

pub returns-in_err-reports-clause-reads : goal.returns-in_err-reports-clause-reads
returns-in_err-reports-clause-reads g c = then_read _ c.in_ok-finished.ensures.reads (failed_read _ c.from_residual-in_err-reports.ensures.0 c.in_err-reports.ensures.reads)

pub returns-in-Some-clause-reads : goal.returns-in-Some-clause-reads
returns-in-Some-clause-reads g c = then_read _ c.in_ok-finished.ensures.reads (kept_read _ c.in_ok-reports.ensures.reads)

pub returns-in-None-clause-reads : goal.returns-in-None-clause-reads
returns-in-None-clause-reads g c = then_read _ c.in_ok-finished.ensures.reads (kept_read _ c.in_ok-reports.ensures.reads)
