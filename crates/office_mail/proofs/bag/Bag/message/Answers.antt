use Rattle.std.proofs.lemmas.Result.{IfOk-from_err, err_from_is_err_and}
use Rattle.office_mail.proofs.BagFacts.{goes_on_twice, message_stops, whole_message}
use Rattle.office_mail.proofs.bag.Bag.message.Goals as goal

pub returns-in_err-body-clause-fault : goal.returns-in_err-body-clause-fault
returns-in_err-body-clause-fault g c =
    let line = rw c.in-Some.is at c.in_ok-length.ensures.line in
    let p = err_from_is_err_and c.from_residual-in_err-body.result c.from_residual-in_err-body.ensures.1 in
    rw (p.1, p.2) (message_stops c.args.self.now c.header.new.self c.body.new.self c.in-Some.length c.in_err-body.field-0.0 line.0 line.1 c.in_err-body.ensures.fault)

pub returns-clause-message : goal.returns-clause-message
returns-clause-message g c =
    let line = rw c.in-Some.is at c.in_ok-length.ensures.line in
    whole_message c.args.self.now c.header.new.self c.body.new.self c.in-Some.length c.in_ok-body.field-0.items line.0 line.1 c.in_ok-body.ensures.whole

pub returns-in_err-body-clause-goes_on : goal.returns-in_err-body-clause-goes_on
returns-in_err-body-clause-goes_on g c = goes_on_twice c.args.self.now c.header.new.self c.body.new.self c.header.ensures.goes_on c.body.ensures.goes_on

pub returns-clause-goes_on : goal.returns-clause-goes_on
returns-clause-goes_on g c = goes_on_twice c.args.self.now c.header.new.self c.body.new.self c.header.ensures.goes_on c.body.ensures.goes_on

pub returns-in_err-length-clause-message : goal.returns-in_err-length-clause-message
returns-in_err-length-clause-message g c = IfOk-from_err c.from_residual.result _ c.from_residual.ensures.0

pub returns-in_err-length-clause-room : goal.returns-in_err-length-clause-room
returns-in_err-length-clause-room g c = IfOk-from_err c.from_residual.result _ c.from_residual.ensures.0

pub returns-in_err-body-clause-message : goal.returns-in_err-body-clause-message
returns-in_err-body-clause-message g c = IfOk-from_err c.from_residual-in_err-body.result _ c.from_residual-in_err-body.ensures.0

pub returns-in_err-body-clause-room : goal.returns-in_err-body-clause-room
returns-in_err-body-clause-room g c = IfOk-from_err c.from_residual-in_err-body.result _ c.from_residual-in_err-body.ensures.0
