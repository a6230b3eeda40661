use Rattle.std.proofs.Common.{refl, sym, ap, ◌∙◌}
use Rattle.office_mail.specs.Read.{read}
use Rattle.office_core_facts.proofs.TakenFacts.{ok_read}
use Rattle.office_core_breaks.specs.Asked.{change_in}
use Rattle.office_core_breaks.proofs.AskedFacts.{gives_due, gives_fault}
use Rattle.office_core_breaks.proofs.asked.change_by_text.Goals as goal

pub returns-in-Ok : goal.returns-in-Ok
returns-in-Ok c =
    let setup = c.args.setup.now in
    let text = c.args.text.now in
    gives_due c.change_in.result (change_in (read setup text)) (c.change_in.ensures ∙ ap change_in (sym (ok_read setup text c.in-Ok.message c.in-Ok.ensures.exact)))

pub returns-in-Err : goal.returns-in-Err
returns-in-Err c = gives_fault c.in-Err.fault (read c.args.setup.now c.args.text.now) change_in refl c.in-Err.ensures.exact
