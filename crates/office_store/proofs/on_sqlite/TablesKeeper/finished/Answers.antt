use Rattle.std.proofs.Common.{◌≡◌, length, IfOk, subst}
use Rattle.sqlite.specs.Effect.{Database}
use Rattle.sqlite.specs.Held.{state}
use Rattle.office_store_tables.specs.TableContent.{content_in}
use Rattle.office_store.proofs.KeeperFacts.{value_before, count_is, reads_by}
use Rattle.office_store.proofs.on_sqlite.TablesKeeper.finished.Goals as goal

pub returns-clause-value : goal.returns-clause-value
returns-clause-value g c trusted =
    let inside = c.self.inside in
    let old = state g.S.Store inside.conn in
    let new = state g.S.Store c.finished.new.conn in
    subst (λ v. IfOk c.count.result (λ n. n ≡ length (content_in v.setup (state g.S.Store v.conn).now.trees).reports)) c.self.view_is
    (value_before c.count.result c.finished.result (λ (d : Database) n. n ≡ length (content_in inside.setup d.trees).reports) old new c.count.ensures.same (c.finished.ensures.reads.same trusted)
    (subst (λ k. IfOk c.finished.result (λ n. n ≡ k)) (count_is inside.setup new.now.trees) (c.finished.ensures.value trusted)))

pub returns-clause-reads : goal.returns-clause-reads
returns-clause-reads g c =
    reads_by g.S.Store c.finished.new.conn c.count.new.refusals c.self.inside.in_memory c.count.result c.finished.result c.self.view_is c.count.ensures.same c.count.ensures.counted c.finished.ensures.reads (λ is. is)
    (λ trusted is own. c.finished.ensures.bad trusted is.office)
