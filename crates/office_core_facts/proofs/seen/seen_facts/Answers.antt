use Rattle.std.proofs.Common.{◌≡◌, ◌<◌, ◌≤◌, ℕ, List, IfOk, IfSome, length, slice_index, refl, sym, subst}
use Rattle.std.proofs.lemmas.Result.{IfOk-weaker}
use Rattle.testing_rules_model.specs.Covered.{Covered}
use Rattle.testing_rules_model.specs.StandsFor.{StandsFor}
use Rattle.office_mail.specs.Runs.{cover_of, orders_to}
use Rattle.office_store_keeper.specs.Content.{Content}
use Rattle.office_core_facts.specs.declared.covered.KnownFacts.{KnownFacts}
use Rattle.office_core_facts.specs.Known.{AreKnown}
use Rattle.office_core_facts.specs.Seen.{IsSeen, IsUnbroken, items_within}
use Rattle.office_core_facts.specs.State.{IsOffice}
use Rattle.office_core_facts.specs.steps.Walk.{said_within}
use Rattle.office_core_facts.proofs.CoveredFacts.{stands_within}
use Rattle.office_core_facts.proofs.seen.seen_facts.Goals as goal

pub known_to-requires : goal.known_to-requires
known_to-requires g c = record {
  ahead = λ s low. subst (λ (l : List ℕ). cover_of c.args.orders.now s ≤ slice_index l s) (sym c.deref.ensures.value) (c.in_ok-covers.ensures.ahead s low);
}

pub returns-clause-stand : goal.returns-clause-stand
returns-clause-stand g c = λ trusted office are was.
    let setup = c.args.setup.now in
    let content : Content = g.K.Keeper.content c.args.keeper.now in
    let covers : List ℕ = c.deref.result.now in
    let earlier = c.known_to.ensures.looks.before trusted in
    let unbroken : (s : ℕ) → s < length setup.senders → IsUnbroken content.kept s (slice_index covers s) = λ s low.
    subst (λ (l : List ℕ). IsUnbroken content.kept s (slice_index l s)) (sym c.deref.ensures.value) (c.in_ok-covers.ensures.unbroken earlier office are s low) in
    IfOk-weaker c.known_to.result
    (λ left. StandsFor left.facts (said_within setup content.kept (slice_index covers) (length setup.senders)) content.testing)
    (λ left. (seen : Covered) × IsSeen setup content.kept seen × StandsFor left.facts seen content.testing)
    (λ left stand. (items_within setup content.kept (slice_index covers), record { covers = slice_index covers; unbroken = unbroken; is = refl }, stands_within setup content.kept (slice_index covers) left.facts content.testing office.places stand))
    (subst (λ (m : Content). IsOffice setup m → c.args.orders.now ≡ orders_to setup m.kept (length m.reports) → IfSome c.args.known.now (λ (k : KnownFacts). AreKnown setup m k)
    → IfOk c.known_to.result (λ left. StandsFor left.facts (said_within setup m.kept (slice_index covers) (length setup.senders)) m.testing))
    (c.in_ok-covers.ensures.looks.same earlier) (c.known_to.ensures.stand trusted) office are was)
