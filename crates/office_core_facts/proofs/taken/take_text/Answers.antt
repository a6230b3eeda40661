use Rattle.std.proofs.Common.{◌≡◌, Ok, Err, Option, sym, subst}
use Rattle.std.proofs.lemmas.Result.{on_ok_weaker}
use Rattle.testing_rules_model.specs.Covered.{CoveredItem}
use Rattle.office_mail.specs.declared.message.MailFault.TheVariants.{NoMemory}
use Rattle.office_mail.specs.Kept.{Place}
use Rattle.office_core_facts.specs.steps.Taking.{Took}
use Rattle.office_core_facts.proofs.TakenFacts.{err_read, ok_read, took_nothing}
use Rattle.office_core_facts.proofs.WalkFacts.{item_is}
use Rattle.office_core_facts.proofs.taken.take_text.Goals as goal

pub returns-in-Ok : goal.returns-in-Ok
returns-in-Ok c =
    let p : Place = (c.args.sender, c.args.number) in
    let setup = c.args.setup.now in
    let text = c.args.text.now in
    let message = c.in-Ok.message in
    on_ok_weaker c.take_body.result
    (λ took. subst (λ (o : Option CoveredItem). Took o c.args.facts.now c.take_body.new.facts) (sym (item_is setup p text (Ok message) (ok_read setup text message c.in-Ok.ensures.exact))) took)
    c.take_body.ensures

pub returns-in-Err : goal.returns-in-Err
returns-in-Err c =
    let p : Place = (c.args.sender, c.args.number) in
    let setup = c.args.setup.now in
    let text = c.args.text.now in
    let fault = c.in-Err.fault in
    let f = c.args.facts.now in
    on_ok_weaker c.no_message.result
    (λ (other : fault ≡ NoMemory → ⊥). subst (λ (o : Option CoveredItem). Took o f f) (sym (item_is setup p text (Err fault) (err_read setup text fault c.in-Err.ensures.exact other))) (took_nothing f))
    c.no_message.ensures
