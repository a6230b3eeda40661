use Rattle.office_mail.specs.Read.{read}
use Rattle.office_core.proofs.AnsweringFacts.{read_is}
use Rattle.office_core.proofs.GatherFacts.{takes_fault, fault_read}
use Rattle.office_core.proofs.batch.gather.Goals as goal

pub returns-in-Ok-clause-takes : goal.returns-in-Ok-clause-takes
returns-in-Ok-clause-takes g c =
    let setup = c.args.setup.now in
    let text = c.args.text.now in
    c.answer_message-answer.ensures.takes setup (read_is (read setup text) c.in-Ok.message (rw c.as_slice.ensures at c.in-Ok.ensures.exact))

pub returns-in-Ok-clause-placed : goal.returns-in-Ok-clause-placed
returns-in-Ok-clause-placed g c = c.answer_message-answer.ensures.placed c.args.setup.now c.in-Ok.ensures.place

pub returns-in-Err-2-clause-takes : goal.returns-in-Err-2-clause-takes
returns-in-Err-2-clause-takes g c = λ trusted free.
    takes_fault c.args.setup.now (g.K.Keeper.content c.args.keeper.now).kept c.args.letters.now.items c.args.text.now c.in-Err.fault
    (fault_read c.args.setup.now c.args.text.now c.in-Err.fault (rw c.as_slice.ensures at c.in-Err.ensures.exact) (c.is_short.ensures c.if-is_short.false))
