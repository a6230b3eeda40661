use Rattle.std.proofs.Common.{◌≡◌, ◌≤◌, None, IfOk, subst}
use Rattle.std.specs.Prelude.{◌↔◌, IsTrue}
use Rattle.std.specs.FinMap.{len}
use Rattle.sqlite.specs.Held.{state}
use Rattle.office_store_tables.specs.Tables.{kept_rows}
use Rattle.office_store.specs.TablesState.{IsLegibleStore}
use Rattle.office_store.proofs.KeeperFacts.{whole_found, reads_by}
use Rattle.office_store.proofs.on_sqlite.TablesKeeper.is_whole.Goals as goal

pub returns-clause-whole : goal.returns-clause-whole
returns-clause-whole g c trusted =
    let inside = c.self.inside in
    let old = state g.S.Store inside.conn in
    let new = state g.S.Store c.is_whole.new.conn in
    subst (λ v. c.args.texts ≤ len (kept_rows ((state g.S.Store v.conn).now.trees 1)) → IfOk c.count.result (λ whole. IsTrue whole ↔ (IsLegibleStore inside.setup new.now.trees None × (len (kept_rows ((state g.S.Store v.conn).now.trees 1)) ≡ c.args.texts)))) c.self.view_is
    (whole_found c.count.result c.is_whole.result inside.setup old new c.args.texts c.count.ensures.same (c.is_whole.ensures.reads.same trusted) (c.is_whole.ensures.whole trusted))

pub returns-clause-reads : goal.returns-clause-reads
returns-clause-reads g c =
    reads_by g.S.Store c.is_whole.new.conn c.count.new.refusals None c.count.result c.is_whole.result c.self.view_is c.count.ensures.same c.count.ensures.counted c.is_whole.ensures.reads (λ is. record { tables = is.tables; testing = tt })
    (λ trusted is own. c.is_whole.ensures.bad trusted is)
