use Rattle.std.proofs.Common.{◌≡◌, ◌+◌, ◌++◌, ◌∷◌, [], length, OnOk, sym, subst, arith}
use Rattle.sqlite.specs.Held.{state}
use Rattle.office_store_keeper.specs.Content.{reports_in, with_run}
use Rattle.office_store_keeper.specs.Provenance.{IsGiven}
use Rattle.office_store_keeper.specs.FactSet.{AreHoldable, facts_after}
use Rattle.office_store_tables.specs.TableContent.{content_in}
use Rattle.office_store.specs.TablesState.{IsLegibleStore}
use Rattle.office_store_tables.specs.Tables.{IsTrusted}
use Rattle.office_store.proofs.ContentFacts.{reports_on, facts_on, content_on}
use Rattle.office_store.proofs.KeeperFacts.{keeps_by}
use Rattle.office_store.proofs.LegibleFinish.{finish_store_on}
use Rattle.office_store.proofs.on_sqlite.TablesKeeper.take_finished.Goals as goal

-- it is the next run
next_run : (g : _) (c : goal.After-count g) → IsTrusted (state g.S.Store c.finish.new.conn) → c.args.run ≡ length (content_in c.self.inside.setup (state g.S.Store c.self.inside.conn).now.trees).reports + 1
next_run g c trusted =
    subst (λ v. IsTrusted (state g.S.Store v.conn) → c.args.run ≡ length (content_in v.setup (state g.S.Store v.conn).now.trees).reports + 1) (sym c.self.view_is) c.requires.next (c.finish.ensures.before trusted)

pub returns-clause-reports : goal.returns-clause-reports
returns-clause-reports g c trusted =
    let inside = c.self.inside in
    let next = (state g.S.Store c.finish.new.conn).now.trees in
    subst (λ v. OnOk c.count.result ((content_in inside.setup next).reports ≡ (content_in v.setup (state g.S.Store v.conn).now.trees).reports ++ reports_in c.args.done ∷ [])) c.self.view_is
    (reports_on c.count.result c.finish.result c.count.ensures.same inside.setup (state g.S.Store inside.conn).now.trees next c.args.run c.args.done (c.finish.ensures.done trusted) (next_run g c trusted))

pub returns-clause-facts : goal.returns-clause-facts
returns-clause-facts g c trusted =
    let inside = c.self.inside in
    let next = (state g.S.Store c.finish.new.conn).now.trees in
    subst (λ v. AreHoldable v.setup (facts_after c.args.done.facts (content_in v.setup (state g.S.Store v.conn).now.trees).facts)
    → OnOk c.count.result ((content_in inside.setup next).facts ≡ facts_after c.args.done.facts (content_in v.setup (state g.S.Store v.conn).now.trees).facts)) c.self.view_is
    (λ holdable. facts_on c.count.result c.finish.result c.count.ensures.same inside.setup (state g.S.Store inside.conn).now.trees next c.args.run c.args.done (c.finish.ensures.done trusted) holdable)

pub returns-clause-done : goal.returns-clause-done
returns-clause-done g c trusted =
    let inside = c.self.inside in
    let next = (state g.S.Store c.finish.new.conn).now.trees in
    subst (λ v. IsLegibleStore v.setup (state g.S.Store v.conn).now.trees v.in_memory → IsGiven v.setup (content_in v.setup (state g.S.Store v.conn).now.trees) c.args.done.testing → AreHoldable v.setup (facts_after c.args.done.facts (content_in v.setup (state g.S.Store v.conn).now.trees).facts)
    → OnOk c.count.result (content_in inside.setup next ≡ with_run (content_in v.setup (state g.S.Store v.conn).now.trees) c.args.done)) c.self.view_is
    (λ was given holdable. content_on c.count.result c.finish.result c.count.ensures.same inside.setup (state g.S.Store inside.conn).now.trees next c.args.run c.args.done (c.finish.ensures.done trusted) c.finish.ensures.ordered (next_run g c trusted) given holdable)

pub returns-clause-legible : goal.returns-clause-legible
returns-clause-legible g c trusted =
    let inside = c.self.inside in
    let old = (state g.S.Store inside.conn).now in
    let new = (state g.S.Store c.finish.new.conn).now in
    let memory = c.finish.new.in_memory in
    subst (λ v. IsLegibleStore v.setup (state g.S.Store v.conn).now.trees v.in_memory → IsGiven v.setup (content_in v.setup (state g.S.Store v.conn).now.trees) c.args.done.testing → AreHoldable v.setup (facts_after c.args.done.facts (content_in v.setup (state g.S.Store v.conn).now.trees).facts) → IsLegibleStore inside.setup new.trees memory) c.self.view_is
    (λ was given holdable. finish_store_on c.finish.result inside.setup old new c.args.run c.args.done memory (c.finish.ensures.done trusted) (c.finish.ensures.err trusted) c.finish.ensures.texts c.finish.ensures.ordered c.finish.ensures.left c.finish.ensures.none
    (omega (arith, c.ranges.run.fits)) (next_run g c trusted) given holdable was.tables)

pub returns-clause-keeps : goal.returns-clause-keeps
returns-clause-keeps g c =
    let done = c.finish.ensures in
    keeps_by g.S.Store c.finish.new.conn c.count.new.refusals c.finish.new.in_memory c.count.result c.finish.result c.self.view_is c.count.ensures.same c.count.ensures.counted done.before done.lasts done.open (λ trusted is own. done.bad trusted is.office)
