use Rattle.std.proofs.Common.{Option, IfOk, IfSome, sym, subst}
use Rattle.office_store_keeper.specs.Content.{Content}
use Rattle.office_core_facts.specs.declared.covered.KnownFacts.{KnownFacts}
use Rattle.office_core_facts.specs.Known.{AreKnown}
use Rattle.office_core_facts.specs.steps.Last.{OfRuns}
use Rattle.office_core_outcome.specs.steps.Snapshot.{HasTesting, IsFoundSnapshot}
use Rattle.office_core_outcome.proofs.snapshot.trial_snapshot.Goals as goal

pub returns-clause-kept : goal.returns-clause-kept
returns-clause-kept g c = λ trusted legible.
    let after = c.snapshot_after.ensures in
    subst (λ (m : Content). IfOk c.snapshot_after.result (HasTesting m)) (c.in_ok-finished.ensures.looks.same (after.looks.before trusted)) (after.kept trusted legible)

pub returns-clause-found : goal.returns-clause-found
returns-clause-found g c = λ trusted office.
    let a = c.args in
    let setup = a.setup.now in
    let finished = c.in_ok-finished.ensures in
    let after = c.snapshot_after.ensures in
    let earlier = after.looks.before trusted in
    let same = finished.looks.same earlier in
    let legible : Type 0 = g.K.Keeper.is_legible c.snapshot_after.new.keeper in
    let known : Option KnownFacts = c.finished_runs.new.known in
    subst (λ (m : Content). OfRuns setup m c.in_ok-finished.finished known (IfOk c.snapshot_after.result (IsFoundSnapshot setup m legible a.terms))) same (after.found trusted) office (finished.finished earlier)
    (subst (λ (m : Content). IfSome known (λ (k : KnownFacts). AreKnown setup m k)) same (finished.known earlier))

pub returns-clause-known : goal.returns-clause-known
returns-clause-known g c = λ trusted.
    let after = c.snapshot_after.ensures in
    subst (λ (m : Content). IfSome c.finished_runs.new.known (λ (k : KnownFacts). AreKnown c.args.setup.now m k)) (sym (after.looks.same trusted)) (c.in_ok-finished.ensures.known (after.looks.before trusted))
