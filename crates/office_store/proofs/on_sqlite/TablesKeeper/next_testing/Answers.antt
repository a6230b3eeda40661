use Rattle.std.proofs.Common.{◌≡◌, IfOk, sym, subst}
use Rattle.sqlite.specs.Held.{state}
use Rattle.office_store_tables.specs.TableContent.{content_in}
use Rattle.office_store.specs.TablesState.{IsLegibleStore}
use Rattle.office_store.proofs.KeeperFacts.{store_before, next_is, reads_by}
use Rattle.office_store.proofs.on_sqlite.TablesKeeper.next_testing.Goals as goal

pub returns-clause-value : goal.returns-clause-value
returns-clause-value g c trusted =
    let inside = c.self.inside in
    let old = state g.S.Store inside.conn in
    let new = state g.S.Store c.next_testing.new.conn in
    let same = c.next_testing.ensures.reads.same trusted in
    subst (λ v. IsLegibleStore inside.setup new.now.trees c.next_testing.new.in_memory → IfOk c.count.result (λ testing. testing ≡ (content_in v.setup (state g.S.Store v.conn).now.trees).testing)) c.self.view_is
    (λ is.
    let was = store_before inside.setup old new inside.in_memory same (subst (IsLegibleStore inside.setup new.now.trees) c.next_testing.ensures.stays is) in
    next_is c.count.result c.next_testing.result inside.setup old new inside.in_memory c.count.ensures.same same was.testing (c.next_testing.ensures.value trusted))

pub returns-clause-reads : goal.returns-clause-reads
returns-clause-reads g c =
    reads_by g.S.Store c.next_testing.new.conn c.count.new.refusals c.next_testing.new.in_memory c.count.result c.next_testing.result c.self.view_is c.count.ensures.same c.count.ensures.counted c.next_testing.ensures.reads (subst (IsLegibleStore c.self.inside.setup (state g.S.Store c.next_testing.new.conn).now.trees) (sym c.next_testing.ensures.stays))
    (λ trusted is own. c.next_testing.ensures.bad trusted is.mail is.testing)
