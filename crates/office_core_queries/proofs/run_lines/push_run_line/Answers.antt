use Rattle.std.proofs.Common.{[], unwrap_or, ap, ◌++◌, ◌∙◌, string_bytes}
use Rattle.office_core.proofs.CarryFacts.{asks_twice}
use Rattle.office_core_queries.specs.RunLines.{run_line}
use Rattle.office_core_queries.proofs.ReportFacts.{line_answered}
use Rattle.office_core_queries.proofs.run_lines.push_run_line.Goals as goal

pub returns-in_err-update-clause-asks : goal.returns-in_err-update-clause-asks
returns-in_err-update-clause-asks g c = asks_twice g.K.Keeper c.args.office.now c.excuses_text.new.self c.update_text.new.self c.in_ok-excuses.ensures.asks.asks c.in_err-update.ensures.asks.asks

pub returns-in_err-push_run-clause-asks : goal.returns-in_err-push_run-clause-asks
returns-in_err-push_run-clause-asks g c = asks_twice g.K.Keeper c.args.office.now c.excuses_text.new.self c.update_text.new.self c.in_ok-excuses.ensures.asks.asks c.in_ok-update.ensures.asks.asks

pub returns-clause-asks : goal.returns-clause-asks
returns-clause-asks g c = asks_twice g.K.Keeper c.args.office.now c.excuses_text.new.self c.update_text.new.self c.in_ok-excuses.ensures.asks.asks c.in_ok-update.ensures.asks.asks

pub returns-clause-text : goal.returns-clause-text
returns-clause-text g c =
    let keeper = g.K.Keeper in
    let run = c.args.run in
    let e = c.in_ok-excuses.ensures in
    let u = c.in_ok-update.ensures in
    λ h first last.
    c.in_ok-push_run.ensures
    ∙ ap (λ t. string_bytes c.args.text.now ++ t)
    (ap (λ x. run_line run x c.text_in-2.result.now) c.text_in.ensures ∙ ap (run_line run (unwrap_or c.in_ok-excuses.excuses [])) c.text_in-2.ensures
    ∙ line_answered keeper c.args.office.now c.excuses_text.new.self c.update_text.new.self run c.in_ok-excuses.excuses c.in_ok-update.update e.asks.asks u.asks.asks e.text u.text h first last)
