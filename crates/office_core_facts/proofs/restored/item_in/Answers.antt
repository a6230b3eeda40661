use Rattle.std.proofs.Common.{◌≡◌, inr, Ok, Err, sym, subst}
use Rattle.std.proofs.lemmas.Result.{IfOk-weaker}
use Rattle.testing_rules_items.specs.declared.item.Item.TheVariants.{Nothing}
use Rattle.office_mail.specs.declared.message.MailFault.TheVariants.{NoMemory}
use Rattle.office_mail.specs.Kept.{Place}
use Rattle.office_core_facts.specs.Outcome.{item_at}
use Rattle.office_core_facts.specs.steps.Taking.{IsSaidItem}
use Rattle.office_core_facts.proofs.TakenFacts.{ok_read}
use Rattle.office_core_facts.proofs.TakenFacts.{err_read}
use Rattle.office_core_facts.proofs.WalkFacts.{item_is}
use Rattle.office_core_facts.proofs.restored.item_in.Goals as goal

pub returns-in-Ok : goal.returns-in-Ok
returns-in-Ok c =
    let setup = c.args.setup.now in
    let text = c.args.text.now in
    let message = c.in-Ok.message in
    λ p. subst (λ o. IsSaidItem o p.0 p.1 c.item_of.result) (sym (item_is setup p text (Ok message) (ok_read setup text message c.in-Ok.ensures.exact))) (c.item_of.ensures p)

pub returns-in-Err : goal.returns-in-Err
returns-in-Err c =
    let setup = c.args.setup.now in
    let text = c.args.text.now in
    let fault = c.in-Err.fault in
    IfOk-weaker c.no_item.result (λ item. (item ≡ Nothing) × (fault ≡ NoMemory → ⊥)) (λ item. (p : Place) → IsSaidItem (item_at setup (p, text)) p.0 p.1 item)
    (λ item none p. inr (item_is setup p text (Err fault) (err_read setup text fault c.in-Err.ensures.exact none.1), none.0))
    c.no_item.ensures
