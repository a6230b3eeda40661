use Rattle.std.proofs.Common.{◌≡◌, ℕ, length, slice_index, sym, ap, subst, ◌∙◌, refl}
use Rattle.testing_rules_laws.specs.Covered.{Covered}
use Rattle.testing_rules_laws.specs.KeptFacts.{KeptFacts}
use Rattle.testing_rules_laws.specs.StandsFor.{StandsFor}
use Rattle.testing_rules_laws.specs.Suite.{Suite}
use Rattle.testing_rules_laws.specs.Watched.{AllWatchedWork}
use Rattle.office_mail.specs.Lists.{Lists}
use Rattle.office_store_keeper.specs.Content.{Content}
use Rattle.office_store_keeper.specs.FactSet.{AreHoldable, facts_after}
use Rattle.office_store_keeper.specs.Provenance.{AreOwnTexts}
use Rattle.office_core_facts.specs.Known.{AreUnderWay}
use Rattle.office_core_facts.specs.Outcome.{outcome}
use Rattle.office_core_facts.specs.steps.Walk.{said_within}
use Rattle.office_core_facts.proofs.GivenFacts.{given_by_mail, known_by_mail}
use Rattle.office_core_store.proofs.LookFacts.{looked_fails, looked_none, looked_then}
use Rattle.office_core.proofs.results.decide_run.Goals as goal

pub returns-in-Ok-clause-outcome : goal.returns-in-Ok-clause-outcome
returns-in-Ok-clause-outcome g c = λ trusted legible s stands.
    let content : Content = g.K.Keeper.content c.args.keeper.now in
    let t2 = c.in-Ok.ensures.looks.before trusted in
    let testing : c.in_ok-testing.testing ≡ content.testing = c.in_ok-testing.ensures.value t2 (c.in_ok-testing.ensures.looks.legible t2 legible) in
    c.in_ok-earlier.ensures.ok s (subst (StandsFor c.args.known.now.facts s) (sym testing) stands) ∙ ap (λ (t : Suite). outcome c.args.setup.now c.args.run c.args.date s t) testing

pub returns-in-Ok-clause-watched : goal.returns-in-Ok-clause-watched
returns-in-Ok-clause-watched g c = λ trusted legible works.
    let content : Content = g.K.Keeper.content c.args.keeper.now in
    let t2 = c.in-Ok.ensures.looks.before trusted in
    let testing : c.in_ok-testing.testing ≡ content.testing = c.in_ok-testing.ensures.value t2 (c.in_ok-testing.ensures.looks.legible t2 legible) in
    c.in_ok-earlier.ensures.watched (subst (λ (t : Suite). AllWatchedWork c.args.setup.now.archs t.rows) (sym testing) works)

pub returns-in-Ok-clause-known : goal.returns-in-Ok-clause-known
returns-in-Ok-clause-known g c = λ trusted way.
    let setup = c.args.setup.now in
    let t : Suite = c.in_ok-testing.testing in
    let lists : g.K.Keeper.setup c.next_testing.new.keeper ≡ setup = c.in_ok-testing.ensures.looks.setup ∙ c.requires.lists in
    known_by_mail setup (g.K.Keeper.setup c.next_testing.new.keeper).archs _ t c.in_ok-earlier.left.testing (ap (λ (u : Lists). u.archs) lists) c.in_ok-testing.ensures.archs
    (c.in_ok-earlier.ensures.given _ way.tells.said)

pub returns-in-Ok-clause-given : goal.returns-in-Ok-clause-given
returns-in-Ok-clause-given g c = λ trusted legible way own.
    let setup = c.args.setup.now in
    let content : Content = g.K.Keeper.content c.args.keeper.now in
    let t2 = c.in-Ok.ensures.looks.before trusted in
    let t : Suite = c.in_ok-testing.testing in
    let testing : t ≡ content.testing = c.in_ok-testing.ensures.value t2 (c.in_ok-testing.ensures.looks.legible t2 legible) in
    given_by_mail setup content t c.in_ok-earlier.left.testing own testing (c.in_ok-earlier.ensures.given _ way.tells.said)

pub returns-in-Ok-clause-kept : goal.returns-in-Ok-clause-kept
returns-in-Ok-clause-kept g c = λ trusted legible stands.
    let setup = c.args.setup.now in
    let content : Content = g.K.Keeper.content c.args.keeper.now in
    let f = c.args.known.now.facts in
    let n : ℕ = length setup.senders in
    let t2 = c.in-Ok.ensures.looks.before trusted in
    let same : g.K.Keeper.content c.next_testing.new.keeper ≡ content = c.in_ok-testing.ensures.looks.same t2 in
    let testing : c.in_ok-earlier.earlier ≡ content.testing = c.in_ok-earlier.ensures.before ∙ c.in_ok-testing.ensures.value t2 (c.in_ok-testing.ensures.looks.legible t2 legible) in
    let s : Covered = said_within setup content.kept (slice_index c.args.known.now.taken.items) n in
    subst (λ (m : Content). let l : Covered = said_within setup m.kept (slice_index c.args.known.now.taken.items) n in
    StandsFor f l c.in_ok-earlier.earlier → KeptFacts c.follow_testing.new.known.facts l c.in_ok-earlier.left.testing) same
    (c.in-Ok.ensures.kept trusted) (subst (StandsFor f s) (sym testing) stands)

pub returns-in-Ok-clause-way : goal.returns-in-Ok-clause-way
returns-in-Ok-clause-way g c = λ trusted was.
    let setup = c.args.setup.now in
    let content : Content = g.K.Keeper.content c.args.keeper.now in
    let t2 = c.in-Ok.ensures.looks.before trusted in
    let same : g.K.Keeper.content c.next_testing.new.keeper ≡ content = c.in_ok-testing.ensures.looks.same t2 in
    subst (λ (m : Content). AreUnderWay setup m c.args.known.now.facts → AreUnderWay setup m c.follow_testing.new.known.facts) same (c.in-Ok.ensures.way trusted) was

pub returns-in-Ok-clause-held : goal.returns-in-Ok-clause-held
returns-in-Ok-clause-held g c = λ trusted way own.
    let setup = c.args.setup.now in
    let content : Content = g.K.Keeper.content c.args.keeper.now in
    let t2 = c.in-Ok.ensures.looks.before trusted in
    let same : g.K.Keeper.content c.next_testing.new.keeper ≡ content = c.in_ok-testing.ensures.looks.same t2 in
    subst (λ (m : Content). AreUnderWay setup m c.args.known.now.facts → AreOwnTexts setup m.kept → AreHoldable setup (facts_after c.in-Ok.changes m.facts)) same (c.in-Ok.ensures.held trusted) way own

pub returns-in-Err-clause-looks : goal.returns-in-Err-clause-looks
returns-in-Err-clause-looks g c =
    let keeper = g.K.Keeper in
    let a = c.args.keeper.now in
    let d = c.next_testing.new.keeper in
    let so = looked_then keeper a a d (looked_none keeper a) c.in_ok-testing.ensures.looks in
    looked_fails keeper a d c.follow_testing.new.keeper c.in-Err.fault c.in-Err.fault _ refl refl so c.in-Err.ensures.looks
