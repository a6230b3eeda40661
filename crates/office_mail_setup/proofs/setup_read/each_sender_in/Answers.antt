use Rattle.std.proofs.Common.{get_or, sym, ap, ◌∙◌}
use Rattle.std.proofs.lemmas.List.{drop_more, drop_all}
use Rattle.std.proofs.lemmas.Result.{err_from_is_err_and}
use Rattle.office_mail_setup.specs.WholeText.{each_of}
use Rattle.office_mail_setup.specs.Setup.{sender_in}
use Rattle.office_mail_setup.proofs.Each.{begins_with_none, each_step, each_fails, each_ends}
use Rattle.office_mail_setup.proofs.SetupAnswerFacts.{setup_fails_as}
use Rattle.office_mail_setup.proofs.Views.{sender_lines, no_line}
use Rattle.office_mail_setup.proofs.setup_read.each_sender_in.Goals as goal

pub lines-init : goal.lines-init
lines-init c = rw c.new-senders.ensures.items (begins_with_none (each_of sender_in (sender_lines c.args.lines.now)))

pub lines-preserved : goal.lines-preserved
lines-preserved c =
    let cut = ap sender_lines (drop_more c.args.lines.now c.lines.line-index no_line c.lines-test.true) in
    rw c.in_ok-push.ensures.items (sym (each_step sender_in c.lines.senders.items _ _ _ _ cut c.in_ok-sender_in.ensures) ∙ c.lines.invariant)

pub returns-in_err-sender_in : goal.returns-in_err-sender_in
returns-in_err-sender_in c =
    let cut = ap sender_lines (drop_more c.args.lines.now c.lines.line-index no_line c.lines-test.true) in
    let p = err_from_is_err_and c.from_residual.result c.from_residual.ensures.1 in
    let line = get_or c.args.lines.now c.lines.line-index no_line in
    rw (p.1, p.2) (setup_fails_as c.in_err-sender_in.field-0.0 (sender_in (line.name.now, line.role.now)) (each_of sender_in (sender_lines c.args.lines.now))
    (λ f bad. sym c.lines.invariant ∙ each_fails sender_in c.lines.senders.items _ _ _ f cut bad)
    c.in_err-sender_in.ensures)

pub returns : goal.returns
returns c = sym c.lines.invariant ∙ each_ends sender_in c.lines.senders.items _ (ap sender_lines (drop_all c.lines.line-index c.args.lines.now c.lines-test.false))
