use Rattle.std.proofs.Common.{◌≡◌, Some, Option, sym, ap, ◌∙◌}
use Rattle.std.proofs.lemmas.Result.{IfOk-weaker}
use Rattle.office_mail.specs.declared.message.MailFault.{MailFault}
use Rattle.office_mail.specs.declared.message.MailFault.TheVariants.{NoMemory}
use Rattle.office_mail.specs.Read.{read}
use Rattle.office_core_facts.proofs.TakenFacts.{ok_read}
use Rattle.office_core_facts.proofs.TakenFacts.{err_read}
use Rattle.office_core_outcome.specs.Hints.{refusal_in}
use Rattle.office_core_outcome.proofs.hints.refusal_in.Goals as goal

pub returns-in-Ok : goal.returns-in-Ok
returns-in-Ok c = sym (ap refusal_in (ok_read c.args.setup.now c.args.text.now c.in-Ok.message c.in-Ok.ensures.exact))

pub returns-in-Err : goal.returns-in-Err
returns-in-Err c =
    let setup = c.args.setup.now in
    let text = c.args.text.now in
    let fault = c.in-Err.fault in
    IfOk-weaker c.refused_for.result (λ (o : Option MailFault). (o ≡ Some fault) × (fault ≡ NoMemory → ⊥)) (λ (o : Option MailFault). o ≡ refusal_in (read setup text))
    (λ o told. told.0 ∙ sym (ap refusal_in (err_read setup text fault c.in-Err.ensures.exact told.1)))
    c.refused_for.ensures
