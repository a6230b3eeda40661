use Rattle.std.proofs.Common.{IfSome, is_none, length, sym, ap, subst, ◌∙◌}
use Rattle.office_store_keeper.specs.Content.{Content}
use Rattle.office_core_facts.specs.declared.covered.KnownFacts.{KnownFacts}
use Rattle.office_core_facts.specs.Known.{AreKnown}
use Rattle.office_core_outcome.specs.steps.Snapshot.{HasTesting, IsFoundSnapshot}
use Rattle.office_core_outcome.proofs.SnapshotFacts.{found_dated, found_trial}
use Rattle.office_core_outcome.proofs.proposal_search.propose.Goals as goal

pub give_back-requires : goal.give_back-requires
give_back-requires g c =
    let content : Content = g.K.Keeper.content c.args.keeper.now in
    record {
      same = λ trusted legible. c.in_ok-before.ensures.before ∙ subst (HasTesting content) c.in-Some.is (c.in_ok-found.ensures.kept trusted legible) ∙ sym (ap (λ (m : Content). m.testing) (c.in_ok-found.ensures.looks.same trusted));
    }

pub returns-clause-proposed : goal.returns-clause-proposed
returns-clause-proposed g c = λ trusted legible office.
    let setup = c.args.setup.now in
    let content : Content = g.K.Keeper.content c.args.keeper.now in
    let readable : Type 0 = g.K.Keeper.is_legible c.trial_snapshot.new.keeper in
    let earlier = c.give_back.ensures.before trusted in
    c.in_ok-before.ensures.proposed content.kept (length content.reports) c.args.terms
    (found_trial setup content readable c.args.terms c.in-Some.snapshot (subst (IsFoundSnapshot setup content readable c.args.terms) c.in-Some.is (c.in_ok-found.ensures.found earlier office))
    (c.in_ok-found.ensures.looks.legible earlier legible))

pub returns-in_default-clause-dated : goal.returns-in_default-clause-dated
returns-in_default-clause-dated g c = λ trusted office.
    let content : Content = g.K.Keeper.content c.args.keeper.now in
    sym (ap is_none c.in_default.is) ∙ found_dated c.args.setup.now content (g.K.Keeper.is_legible c.trial_snapshot.new.keeper) c.args.terms c.in_ok-found.found (c.in_ok-found.ensures.found trusted office)

pub returns-clause-dated : goal.returns-clause-dated
returns-clause-dated g c = λ trusted office.
    let content : Content = g.K.Keeper.content c.args.keeper.now in
    sym (ap is_none c.in-Some.is)
    ∙ found_dated c.args.setup.now content (g.K.Keeper.is_legible c.trial_snapshot.new.keeper) c.args.terms c.in_ok-found.found (c.in_ok-found.ensures.found (c.give_back.ensures.before trusted) office)

pub returns-clause-known : goal.returns-clause-known
returns-clause-known g c = λ trusted.
    subst (λ (m : Content). IfSome c.trial_snapshot.new.known (λ (k : KnownFacts). AreKnown c.args.setup.now m k)) (sym (c.give_back.ensures.same trusted)) (c.in_ok-found.ensures.known (c.give_back.ensures.before trusted))
