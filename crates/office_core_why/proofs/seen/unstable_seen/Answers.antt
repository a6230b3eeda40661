use Rattle.std.proofs.Common.{◌≡◌, List, length, subst, ◌∙◌}
use Rattle.testing_rules_items.specs.Words.{Text}
use Rattle.office_store_keeper.specs.Content.{Content}
use Rattle.office_core_why.specs.UnstableText.{unstable_text}
use Rattle.office_core_why.proofs.SeenFacts.{unstable_told}
use Rattle.office_core_why.proofs.seen.unstable_seen.Goals as goal

pub returns-clause-text : goal.returns-clause-text
returns-clause-text g c = λ trusted office are was.
    let a = c.args in
    let setup = a.setup.now in
    let content : Content = g.K.Keeper.content a.keeper.now in
    let text : Text = c.in_ok-told.field-0 in
    let stands = c.in_ok-seen.ensures.stand trusted office (c.deref.ensures.value ∙ are.orders office) was in
    unstable_told setup content.kept (length content.reports) a.finished.now.count stands.0 text are.count stands.1
    (subst (λ (archs : List Text). text ≡ unstable_text archs a.finished.now.count stands.0) c.archs.ensures.same (c.in_ok-told.ensures stands.0 content.testing stands.2))
