use Rattle.std.proofs.Common.{◌≡◌, ℕ, length, slice_index, sym, subst, refl}
use Rattle.testing_rules_laws.specs.Covered.{Covered}
use Rattle.testing_rules_laws.specs.KeptFacts.{KeptFacts}
use Rattle.testing_rules_laws.specs.StandsFor.{StandsFor}
use Rattle.testing_rules_laws.specs.Watched.{AllWatchedWork}
use Rattle.office_mail.specs.Runs.{cover_of}
use Rattle.office_store_keeper.specs.Content.{Content}
use Rattle.office_store_keeper.specs.FactSet.{AreHoldable, facts_after}
use Rattle.office_store_keeper.specs.Provenance.{AreOwnTexts, IsGiven}
use Rattle.office_core_facts.specs.Known.{AreUnderWay}
use Rattle.office_core_facts.specs.Outcome.{outcome}
use Rattle.office_core_facts.specs.steps.Outcome.{outcome_in}
use Rattle.office_core_facts.specs.steps.Walk.{said_within}
use Rattle.office_core.proofs.RunFacts.{next_run}
use Rattle.office_core_facts.proofs.TakenFacts.{said_within-same}
use Rattle.office_core.proofs.results.next_outcome.Goals as goal

pub returns-in-Ok-clause-outcome : goal.returns-in-Ok-clause-outcome
returns-in-Ok-clause-outcome g c = λ trusted legible office first size run.
    let setup = c.args.setup.now in
    let content : Content = g.K.Keeper.content c.args.keeper.now in
    let facts = c.in_ok-known.known.facts in
    let left = c.in-Ok.ensures in
    let t1 = left.looks.before trusted in
    let same : g.K.Keeper.content c.facts.new.keeper ≡ content = c.in_ok-known.ensures.looks.same t1 in
    next_run setup content c.args.orders.now c.args.run c.in-Some.date facts content.testing _ office first size run refl c.in-Some.ensures (c.in_ok-known.ensures.stand t1 office first size)
    (subst (λ (m : Content). (s : Covered) → StandsFor facts s m.testing → outcome_in c.in-Ok.done ≡ outcome setup c.args.run c.in-Some.date s m.testing) same (left.outcome trusted (c.in_ok-known.ensures.looks.legible t1 legible)))

pub returns-in-Ok-clause-watched : goal.returns-in-Ok-clause-watched
returns-in-Ok-clause-watched g c = λ trusted legible.
    let left = c.in-Ok.ensures in
    let t1 = left.looks.before trusted in
    let archs = c.args.setup.now.archs in
    subst (λ (m : Content). AllWatchedWork archs m.testing.rows → AllWatchedWork archs c.in-Ok.done.testing.rows) (c.in_ok-known.ensures.looks.same t1) (left.watched trusted (c.in_ok-known.ensures.looks.legible t1 legible))

pub returns-in-Ok-clause-given : goal.returns-in-Ok-clause-given
returns-in-Ok-clause-given g c = λ trusted legible.
    let setup = c.args.setup.now in
    let facts = c.in_ok-known.known.facts in
    let left = c.in-Ok.ensures in
    let t1 = left.looks.before trusted in
    subst (λ (m : Content). AreUnderWay setup m facts → AreOwnTexts setup m.kept → IsGiven setup m c.in-Ok.done.testing) (c.in_ok-known.ensures.looks.same t1) (left.given trusted (c.in_ok-known.ensures.looks.legible t1 legible)) (c.in_ok-known.ensures.way t1)

pub returns-in-Ok-clause-known : goal.returns-in-Ok-clause-known
returns-in-Ok-clause-known g c = λ trusted.
    let left = c.in-Ok.ensures in
    let t1 = left.looks.before trusted in
    left.known trusted (subst (λ (m : Content). AreUnderWay c.args.setup.now m c.in_ok-known.known.facts) (sym (c.in_ok-known.ensures.looks.same t1)) (c.in_ok-known.ensures.way t1))

pub returns-in-Ok-clause-kept : goal.returns-in-Ok-clause-kept
returns-in-Ok-clause-kept g c = λ trusted legible office first size.
    let setup = c.args.setup.now in
    let content : Content = g.K.Keeper.content c.args.keeper.now in
    let f = c.in_ok-known.known.facts in
    let n : ℕ = length setup.senders in
    let taken : ℕ → ℕ = slice_index c.in_ok-known.known.taken.items in
    let left = c.in-Ok.ensures in
    let t1 = left.looks.before trusted in
    let same : g.K.Keeper.content c.facts.new.keeper ≡ content = c.in_ok-known.ensures.looks.same t1 in
    let said : said_within setup content.kept taken n ≡ said_within setup content.kept (cover_of c.args.orders.now) n =
    said_within-same setup content.kept taken (cover_of c.args.orders.now) n c.in_ok-known.ensures.taken in
    subst (λ (s : Covered). KeptFacts c.decide_run.new.known.facts s c.in-Ok.done.testing) said
    (subst (λ (m : Content). StandsFor f (said_within setup m.kept taken n) m.testing → KeptFacts c.decide_run.new.known.facts (said_within setup m.kept taken n) c.in-Ok.done.testing) same (left.kept trusted (c.in_ok-known.ensures.looks.legible t1 legible))
    (subst (λ (s : Covered). StandsFor f s content.testing) (sym said) (c.in_ok-known.ensures.stand t1 office first size)))

pub returns-in-Ok-clause-way : goal.returns-in-Ok-clause-way
returns-in-Ok-clause-way g c = λ trusted.
    let setup = c.args.setup.now in
    let left = c.in-Ok.ensures in
    let t1 = left.looks.before trusted in
    subst (λ (m : Content). AreUnderWay setup m c.in_ok-known.known.facts → AreUnderWay setup m c.decide_run.new.known.facts) (c.in_ok-known.ensures.looks.same t1) (left.way trusted) (c.in_ok-known.ensures.way t1)

pub returns-in-Ok-clause-held : goal.returns-in-Ok-clause-held
returns-in-Ok-clause-held g c = λ trusted.
    let setup = c.args.setup.now in
    let left = c.in-Ok.ensures in
    let t1 = left.looks.before trusted in
    subst (λ (m : Content). AreUnderWay setup m c.in_ok-known.known.facts → AreOwnTexts setup m.kept → AreHoldable setup (facts_after c.in-Ok.done.facts m.facts)) (c.in_ok-known.ensures.looks.same t1) (left.held trusted) (c.in_ok-known.ensures.way t1)
