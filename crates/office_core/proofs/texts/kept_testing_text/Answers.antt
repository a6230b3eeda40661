use Rattle.std.proofs.Common.{◌≡◌, sym, ap, subst, ◌∙◌}
use Rattle.testing_rules_model.specs.Suite.{Suite}
use Rattle.office_store_keeper.specs.Content.{Content}
use Rattle.office_core_facts.specs.Outcome.{testing_text}
use Rattle.office_core.proofs.texts.kept_testing_text.Goals as goal

pub give_back-requires : goal.give_back-requires
give_back-requires g c = record {
  same = λ trusted legible. c.in_ok-testing.ensures.value trusted legible ∙ sym (ap (λ (m : Content). m.testing) (c.in_ok-testing.ensures.looks.same trusted));
}

pub returns-clause-text : goal.returns-clause-text
returns-clause-text g c = λ trusted legible.
    let a = c.args in
    let earlier = c.give_back.ensures.before trusted in
    subst (λ (t : Suite). c.in_ok-text.field-0 ≡ testing_text a.setup.now a.finished t)
    (c.in_ok-testing.ensures.value earlier (c.in_ok-testing.ensures.looks.legible earlier legible)) c.in_ok-text.ensures
