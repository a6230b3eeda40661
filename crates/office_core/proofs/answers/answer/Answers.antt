use Rattle.office_mail.specs.Read.{read}
use Rattle.office_core.proofs.AnsweringFacts.{fault_is, read_is}
use Rattle.office_core.proofs.OfficeFacts.{answer_fault, answer_read}
use Rattle.office_core.proofs.answers.answer.Goals as goal

pub returns-in-Ok-clause-answer : goal.returns-in-Ok-clause-answer
returns-in-Ok-clause-answer g c = λ trusted.
    let setup = c.args.setup.now in
    let text = c.args.text.now in
    answer_read setup (g.K.Keeper.content c.args.keeper.now).kept text c.in-Ok.message c.answer_message-answer.result (read_is (read setup text) c.in-Ok.message c.in-Ok.ensures.exact) (c.answer_message-answer.ensures.answer trusted)

pub returns-in-Err-clause-answer : goal.returns-in-Err-clause-answer
returns-in-Err-clause-answer g c = λ trusted.
    let setup = c.args.setup.now in
    let text = c.args.text.now in
    answer_fault setup (g.K.Keeper.content c.args.keeper.now).kept text c.in-Err.fault (fault_is (read setup text) c.in-Err.fault c.in-Err.ensures.exact)
