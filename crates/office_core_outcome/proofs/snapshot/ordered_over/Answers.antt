use Rattle.std.proofs.Common.{◌≡◌, ◌+◌, List, length, sym, ap, subst, ◌∙◌}
use Rattle.testing_rules_model.specs.StandsFor.{StandsFor}
use Rattle.testing_rules_model.specs.Suite.{Suite}
use Rattle.office_mail.specs.declared.message.RunOrder.{RunOrder}
use Rattle.office_mail.specs.Runs.{cover_of, latest_day, orders_to}
use Rattle.office_store_keeper.specs.Content.{Content}
use Rattle.office_core_facts.proofs.CoveredFacts.{stands_within}
use Rattle.office_core_facts.specs.Seen.{items_within, release}
use Rattle.office_core_outcome.proofs.snapshot.ordered_over.Goals as goal

pub returns-clause-kept : goal.returns-clause-kept
returns-clause-kept g c = λ trusted legible.
    c.in_ok-testing.ensures.value trusted legible ∙ ap (λ (m : Content). m.testing) (c.in_ok-left.ensures.looks.same (c.in_ok-testing.ensures.looks.before trusted))

pub returns-clause-is : goal.returns-clause-is
returns-clause-is g c = λ trusted legible office first count at day.
    let setup = c.args.setup.now in
    let content : Content = g.K.Keeper.content c.args.keeper.now in
    let orders : List RunOrder = c.args.next.now.orders.now in
    let facts = c.in_ok-left.left.facts in
    let earlier = c.in_ok-testing.ensures.looks.before trusted in
    let same : c.in_ok-testing.testing ≡ content.testing = c.in_ok-testing.ensures.value trusted legible ∙ ap (λ (m : Content). m.testing) (c.in_ok-left.ensures.looks.same earlier) in
    let all : orders ≡ orders_to setup content.kept (length content.reports + 1) = first.same ∙ ap (orders_to setup content.kept) count in
    record {
      dated = sym (ap latest_day all) ∙ day;
      is = record {
        run = at ∙ count;
        behind = c.cover_of-behind.ensures ∙ ap (cover_of orders) c.release_place.ensures ∙ ap (λ (os : List RunOrder). cover_of os (release setup)) all;
        stand = subst (λ (t : Suite). StandsFor facts (items_within setup content.kept (cover_of (orders_to setup content.kept (length content.reports + 1)))) t) (sym same)
            (subst (λ (os : List RunOrder). StandsFor facts (items_within setup content.kept (cover_of os)) content.testing) all
            (stands_within setup content.kept (cover_of orders) facts content.testing office.places (c.in_ok-left.ensures.stand earlier office first count)));
        before = same ∙ office.testing_is;
      };
    }
