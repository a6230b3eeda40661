use Rattle.std.proofs.Common.{List, subst, ◌∙◌}
use Rattle.std.proofs.lemmas.Result.{IfOk-weaker}
use Rattle.testing_rules_items.specs.Words.{Text}
use Rattle.testing_rules_model.specs.Covered.{Covered}
use Rattle.testing_rules_model.specs.StandsFor.{StandsFor}
use Rattle.office_core_why.specs.Why.{IsTold, IsToldOf, sender_names}
use Rattle.office_core_why.proofs.told.lines_from_run.Goals as goal

pub returns-clause-told : goal.returns-clause-told
returns-clause-told c =
    let a = c.args in
    let asked = a.asked.now in
    let setup = a.setup.now in
    let f = a.facts.now in
    let t = a.testing.now in
    let names : List Text = c.deref.result.now in
    let archs : List Text = c.archs-archs.result.now in
    IfOk-weaker c.lines_after_run.result
    (λ text. (s : Covered) → StandsFor f s t → IsToldOf names archs s t asked.run asked.date a.reports.now asked.source.now text)
    (λ text. (s : Covered) → StandsFor f s t → IsTold setup s t asked.run asked.date a.reports.now asked.source.now text)
    (λ text told s stands.
    subst (λ (x : List Text). IsToldOf (sender_names setup) x s t asked.run asked.date a.reports.now asked.source.now text) c.archs-archs.ensures.same
    (subst (λ (x : List Text). IsToldOf x archs s t asked.run asked.date a.reports.now asked.source.now text) (c.deref.ensures.value ∙ c.in_ok-senders.ensures) (told s stands)))
    c.lines_after_run.ensures.told
