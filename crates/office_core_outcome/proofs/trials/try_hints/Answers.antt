use Rattle.std.proofs.Common.{IfSome, length, sym, ap, subst, ◌∙◌}
use Rattle.office_store_keeper.specs.Content.{Content}
use Rattle.office_core_facts.specs.declared.covered.KnownFacts.{KnownFacts}
use Rattle.office_core_facts.specs.Known.{AreKnown}
use Rattle.office_core_outcome.specs.steps.Snapshot.{HasTesting, IsFoundSnapshot}
use Rattle.office_core_outcome.proofs.SnapshotFacts.{no_date, found_trial}
use Rattle.office_core_outcome.proofs.trials.try_hints.Goals as goal

pub give_back-requires : goal.give_back-requires
give_back-requires g c =
    let content : Content = g.K.Keeper.content c.args.keeper.now in
    record {
      same = λ trusted legible. c.in_ok-before.ensures.before ∙ subst (HasTesting content) c.in-Some.is (c.in_ok-found.ensures.kept trusted legible) ∙ sym (ap (λ (m : Content). m.testing) (c.in_ok-found.ensures.looks.same trusted));
    }

pub returns-in_default-clause-tried : goal.returns-in_default-clause-tried
returns-in_default-clause-tried g c = λ trusted legible office.
    let setup = c.args.setup.now in
    let content : Content = g.K.Keeper.content c.args.keeper.now in
    let readable : Type 0 = g.K.Keeper.is_legible c.trial_snapshot.new.keeper in
    no_date setup content readable c.args.terms c.args.hints.now (subst (IsFoundSnapshot setup content readable c.args.terms) c.in_default.is (c.in_ok-found.ensures.found trusted office))

pub returns-clause-tried : goal.returns-clause-tried
returns-clause-tried g c = λ trusted legible office.
    let setup = c.args.setup.now in
    let content : Content = g.K.Keeper.content c.args.keeper.now in
    let readable : Type 0 = g.K.Keeper.is_legible c.trial_snapshot.new.keeper in
    let earlier = c.give_back.ensures.before trusted in
    c.in_ok-before.ensures.tried content.kept (length content.reports) c.args.terms
    (found_trial setup content readable c.args.terms c.in-Some.snapshot (subst (IsFoundSnapshot setup content readable c.args.terms) c.in-Some.is (c.in_ok-found.ensures.found earlier office))
    (c.in_ok-found.ensures.looks.legible earlier legible))

pub returns-clause-known : goal.returns-clause-known
returns-clause-known g c = λ trusted.
    subst (λ (m : Content). IfSome c.trial_snapshot.new.known (λ (k : KnownFacts). AreKnown c.args.setup.now m k)) (sym (c.give_back.ensures.same trusted)) (c.in_ok-found.ensures.known (c.give_back.ensures.before trusted))
