use Rattle.std.proofs.Common.{◌≡◌, ◌≤◌, ℕ, List, length, slice_index, sym, ap, subst, ◌∙◌, arith}
use Rattle.testing_rules_model.specs.StandsFor.{StandsFor}
use Rattle.testing_rules_model.specs.Suite.{Suite}
use Rattle.office_mail.specs.declared.message.RunOrder.{RunOrder}
use Rattle.office_mail.specs.Runs.{cover_of}
use Rattle.office_store_keeper.specs.Content.{Content}
use Rattle.office_core_orders.proofs.ReadyCount.{ready_bound}
use Rattle.office_core_facts.proofs.CoveredFacts.{stands_within}
use Rattle.office_core_facts.specs.Seen.{items_within}
use Rattle.office_core_outcome.proofs.snapshot.snapshot_over.Goals as goal

pub known_to-requires : goal.known_to-requires
known_to-requires g c = record {
  ahead = λ s low. subst (λ (os : List RunOrder). cover_of os s ≤ slice_index c.args.next.now.covers.now s) (sym c.deref.ensures.value) (c.requires.ahead s low);
}

pub returns-clause-kept : goal.returns-clause-kept
returns-clause-kept g c = λ trusted legible.
    c.in_ok-testing.ensures.value trusted legible ∙ ap (λ (m : Content). m.testing) (c.in_ok-left.ensures.looks.same (c.in_ok-testing.ensures.looks.before trusted))

pub returns-clause-is : goal.returns-clause-is
returns-clause-is g c = λ trusted legible office finished was.
    let setup = c.args.setup.now in
    let content : Content = g.K.Keeper.content c.args.keeper.now in
    let covers : ℕ → ℕ = slice_index c.args.next.now.covers.now in
    let facts = c.in_ok-left.left.facts in
    let earlier = c.in_ok-testing.ensures.looks.before trusted in
    let same : c.in_ok-testing.testing ≡ content.testing = c.in_ok-testing.ensures.value trusted legible ∙ ap (λ (m : Content). m.testing) (c.in_ok-left.ensures.looks.same earlier) in
    record {
      run = omega (arith, c.saturating_add-run.ensures, finished.count, ready_bound setup content.kept (length content.reports) office.places office.ready);
      behind = c.cover_at-behind.ensures ∙ ap covers c.release_place.ensures;
      stand = subst (λ (t : Suite). StandsFor facts (items_within setup content.kept covers) t) (sym same)
          (stands_within setup content.kept covers facts content.testing office.places (c.in_ok-left.ensures.stand earlier office (c.deref.ensures.value ∙ finished.orders office) was));
      before = same ∙ office.testing_is;
    }
