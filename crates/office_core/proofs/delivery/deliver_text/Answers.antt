use Rattle.std.proofs.Common.{ap, ◌∙◌}
use Rattle.office_mail.specs.Read.{read}
use Rattle.office_core.proofs.OfficeFacts.{answer_fault, answer_read}
use Rattle.office_core.proofs.delivery.deliver_text.Goals as goal

pub keep_or_compare-answer-requires-clause-read : goal.keep_or_compare-answer-requires-clause-read
keep_or_compare-answer-requires-clause-read g c = ap (read c.args.setup.now) c.in-Ok.ensures.text ∙ c.in-Ok.ensures.message

pub returns-in-Ok-clause-answer : goal.returns-in-Ok-clause-answer
returns-in-Ok-clause-answer g c = λ trusted.
    let kept = (g.K.Keeper.content c.args.keeper.now).kept in
    answer_read c.args.setup.now kept c.args.text.now c.in-Ok.message c.keep_or_compare-answer.result c.in-Ok.ensures.message (rw c.in-Ok.ensures.text at (c.keep_or_compare-answer.ensures.answer trusted))

pub returns-in-Err-clause-answer : goal.returns-in-Err-clause-answer
returns-in-Err-clause-answer g c = λ trusted.
    answer_fault c.args.setup.now (g.K.Keeper.content c.args.keeper.now).kept c.args.text.now c.in-Err.fault c.in-Err.ensures.fault
