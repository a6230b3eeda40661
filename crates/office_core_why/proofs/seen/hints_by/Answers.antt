use Rattle.std.proofs.Common.{◌≡◌, List, sym, ap, subst, ◌∙◌}
use Rattle.testing_rules_items.specs.Words.{Text}
use Rattle.testing_rules_model.specs.StandsFor.{StandsFor}
use Rattle.testing_rules_model.specs.Suite.{Suite}
use Rattle.office_mail.specs.declared.message.RunOrder.{RunOrder}
use Rattle.office_mail.specs.Runs.{cover_of}
use Rattle.office_store_keeper.specs.Content.{Content}
use Rattle.office_core_why.specs.Hints.{hints_text}
use Rattle.office_core_why.proofs.seen.hints_by.Goals as goal

pub give_back-requires : goal.give_back-requires
give_back-requires g c = record {
  same = λ trusted legible. c.in_ok-testing.ensures.value trusted legible ∙ sym (ap (λ (m : Content). m.testing) (c.in_ok-testing.ensures.looks.same trusted));
}

pub returns-clause-text : goal.returns-clause-text
returns-clause-text g c = λ trusted legible s stands.
    let a = c.args in
    let content : Content = g.K.Keeper.content a.keeper.now in
    let text : Text = c.in_ok-told.field-0 in
    let earlier = c.give_back.ensures.before trusted in
    let testing : c.in_ok-testing.testing ≡ content.testing = c.in_ok-testing.ensures.value earlier (c.in_ok-testing.ensures.looks.legible earlier legible) in
    subst (λ (os : List RunOrder). text ≡ hints_text a.setup.now a.finished.now.count (cover_of os) s content.testing) c.deref.ensures.value
    (subst (λ (t : Suite). StandsFor a.facts.now s t → text ≡ hints_text a.setup.now a.finished.now.count (cover_of c.deref.result.now) s t) testing (c.in_ok-told.ensures s) stands)
