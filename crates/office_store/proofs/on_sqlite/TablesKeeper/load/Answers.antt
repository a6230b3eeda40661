use Rattle.sqlite.specs.Held.{state}
use Rattle.office_store_tables.proofs.Whole.{not_crowded}
use Rattle.office_store.proofs.KeeperFacts.{reads_by}
use Rattle.office_store.proofs.on_sqlite.TablesKeeper.load.Goals as goal

pub returns-clause-reads : goal.returns-clause-reads
returns-clause-reads g c =
    reads_by g.S.Store c.load.new.conn c.count.new.refusals c.self.inside.in_memory c.count.result c.load.result c.self.view_is c.count.ensures.same c.count.ensures.counted c.load.ensures.reads (λ is. is)
    (λ trusted is own bad. not_crowded ((state g.S.Store c.load.new.conn).now.trees 1) is.mail (c.load.ensures.bad trusted bad))
