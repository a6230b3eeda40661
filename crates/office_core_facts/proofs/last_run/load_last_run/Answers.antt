use Rattle.std.proofs.Common.{◌≡◌, None, List, length, sym, ap, subst, ◌∙◌}
use Rattle.testing_rules_model.specs.Covered.{Covered}
use Rattle.testing_rules_model.specs.StandsFor.{StandsFor}
use Rattle.testing_rules_model.specs.Suite.{Suite}
use Rattle.office_mail.specs.declared.message.RunOrder.{RunOrder}
use Rattle.office_mail.specs.Runs.{latest_day}
use Rattle.office_store_keeper.specs.Content.{Content}
use Rattle.office_core_facts.specs.Outcome.{covered_items}
use Rattle.office_core_facts.specs.steps.Last.{facts_in}
use Rattle.office_core_facts.proofs.LastStand.{dated_none}
use Rattle.office_core_facts.proofs.last_run.load_last_run.Goals as goal

pub returns-in_default-clause-last : goal.returns-in_default-clause-last
returns-in_default-clause-last g c = λ trusted legible office finished was.
    let orders : List RunOrder = c.args.finished.now.orders.items in
    let none : latest_day orders ≡ None = ap latest_day (sym c.deref.ensures.value) ∙ sym c.latest_day.ensures ∙ c.in_default.is in
    sym (finished.all office) ∙ dated_none orders none

pub returns-in-Ok-clause-last : goal.returns-in-Ok-clause-last
returns-in-Ok-clause-last g c = λ trusted legible office finished was.
    let setup = c.args.setup.now in
    let content : Content = g.K.Keeper.content c.args.keeper.now in
    let mail : Covered = covered_items setup content.kept (length content.reports) in
    let facts = c.in_ok-facts.facts in
    let earlier = c.in-Ok.ensures.looks.before trusted in
    let readable = c.in-Ok.ensures.looks.legible trusted (c.in_ok-facts.ensures.looks.legible earlier legible) in
    let testing : c.in-Ok.testing ≡ content.testing = c.in-Ok.ensures.value trusted readable ∙ ap (λ (m : Content). m.testing) (c.in_ok-facts.ensures.looks.same earlier) in
    record {
      number = finished.count;
      dated = ap latest_day (sym (finished.orders office) ∙ sym c.deref.ensures.value) ∙ sym c.latest_day.ensures ∙ c.in-Some.is;
      stands = subst (λ (t : Suite). StandsFor (facts_in facts) mail t) (sym testing) (c.in_ok-facts.ensures.stand earlier office (c.deref-2.ensures.value ∙ finished.orders office) was);
      testing = testing ∙ office.testing_is;
    }

pub returns-in-Ok-clause-testing : goal.returns-in-Ok-clause-testing
returns-in-Ok-clause-testing g c = λ trusted legible. c.in-Ok.ensures.value trusted legible ∙ sym (ap (λ (m : Content). m.testing) (c.in-Ok.ensures.looks.same trusted))
