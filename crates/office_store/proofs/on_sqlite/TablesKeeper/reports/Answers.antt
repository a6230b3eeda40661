use Rattle.office_store.proofs.KeeperFacts.{reads_by}
use Rattle.office_store.proofs.on_sqlite.TablesKeeper.reports.Goals as goal

pub returns-clause-reads : goal.returns-clause-reads
returns-clause-reads g c =
    reads_by g.S.Store c.reports.new.conn c.count.new.refusals c.self.inside.in_memory c.count.result c.reports.result c.self.view_is c.count.ensures.same c.count.ensures.counted c.reports.ensures.reads (λ is. is)
    (λ trusted is own. c.reports.ensures.bad trusted is.office is.runs)
