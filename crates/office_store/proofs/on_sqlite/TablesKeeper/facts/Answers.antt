use Rattle.std.proofs.Common.{◌≡◌, IfOk, subst}
use Rattle.sqlite.specs.Effect.{Database}
use Rattle.sqlite.specs.Held.{state}
use Rattle.office_store_keeper.specs.FactSet.{rows_in}
use Rattle.office_store_tables.specs.TableContent.{content_in}
use Rattle.office_store.proofs.KeeperFacts.{value_before, reads_by}
use Rattle.office_store.proofs.on_sqlite.TablesKeeper.facts.Goals as goal

pub returns-clause-value : goal.returns-clause-value
returns-clause-value g c trusted =
    let inside = c.self.inside in
    let old = state g.S.Store inside.conn in
    let new = state g.S.Store c.facts.new.conn in
    subst (λ v. IfOk c.count.result (λ rows. rows ≡ rows_in (content_in v.setup (state g.S.Store v.conn).now.trees).facts)) c.self.view_is
    (value_before c.count.result c.facts.result (λ (d : Database) rows. rows ≡ rows_in (content_in inside.setup d.trees).facts) old new c.count.ensures.same (c.facts.ensures.reads.same trusted) (c.facts.ensures.value trusted))

pub returns-clause-reads : goal.returns-clause-reads
returns-clause-reads g c =
    reads_by g.S.Store c.facts.new.conn c.count.new.refusals c.self.inside.in_memory c.count.result c.facts.result c.self.view_is c.count.ensures.same c.count.ensures.counted c.facts.ensures.reads (λ is. is)
    (λ trusted is own. c.facts.ensures.bad trusted is.facts)
