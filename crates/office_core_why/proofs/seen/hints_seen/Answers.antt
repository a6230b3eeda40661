use Rattle.std.proofs.Common.{◌≡◌, IfOk, length, subst, ◌∙◌}
use Rattle.std.proofs.lemmas.Result.{IfOk-weaker}
use Rattle.testing_rules_model.specs.Covered.{Covered}
use Rattle.testing_rules_model.specs.StandsFor.{StandsFor}
use Rattle.office_mail.specs.Runs.{cover_of}
use Rattle.office_store_keeper.specs.Content.{Content}
use Rattle.office_core_why.specs.Hints.{IsHintsText, hints_text}
use Rattle.office_core_why.proofs.SeenFacts.{hints_told}
use Rattle.office_core_why.proofs.seen.hints_seen.Goals as goal

pub returns-clause-text : goal.returns-clause-text
returns-clause-text g c = λ trusted legible office are was.
    let a = c.args in
    let setup = a.setup.now in
    let finished = a.finished.now in
    let content : Content = g.K.Keeper.content a.keeper.now in
    let facts = c.in_ok-seen.seen.facts in
    let earlier = c.hints_by-told.ensures.looks.before trusted in
    let stands = c.in_ok-seen.ensures.stand earlier office (c.deref.ensures.value ∙ are.orders office) was in
    IfOk-weaker c.hints_by-told.result
    (λ text. (s : Covered) → StandsFor facts s content.testing → text ≡ hints_text setup finished.count (cover_of finished.orders.items) s content.testing)
    (IsHintsText setup content.kept (length content.reports))
    (λ text told. hints_told setup content finished stands.0 text office are stands.1 (told stands.0 stands.2))
    (subst (λ (m : Content). IfOk c.hints_by-told.result (λ text. (s : Covered) → StandsFor facts s m.testing → text ≡ hints_text setup finished.count (cover_of finished.orders.items) s m.testing))
    (c.in_ok-seen.ensures.looks.same earlier) (c.hints_by-told.ensures.text trusted (c.in_ok-seen.ensures.looks.legible earlier legible)))
