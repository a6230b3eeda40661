use Rattle.sqlite.specs.Held.{state}
use Rattle.office_store_tables.proofs.Whole.{not_crowded}
use Rattle.office_store.proofs.KeeperFacts.{reads_by}
use Rattle.office_store.proofs.on_sqlite.TablesKeeper.find.Goals as goal

pub returns-clause-reads : goal.returns-clause-reads
returns-clause-reads g c =
    reads_by g.S.Store c.find.new.conn c.count.new.refusals c.self.inside.in_memory c.count.result c.find.result c.self.view_is c.count.ensures.same c.count.ensures.counted c.find.ensures.reads (λ is. is)
    (λ trusted is own bad. not_crowded ((state g.S.Store c.find.new.conn).now.trees 1) is.mail (c.find.ensures.bad trusted bad))
