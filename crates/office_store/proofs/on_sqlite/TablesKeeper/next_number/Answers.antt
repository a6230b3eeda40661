use Rattle.std.proofs.Common.{IfOk, subst}
use Rattle.sqlite.specs.Effect.{Database}
use Rattle.sqlite.specs.Held.{state}
use Rattle.office_store_keeper.specs.Content.{IsNextNumber}
use Rattle.office_store_tables.specs.Tables.{kept_rows}
use Rattle.office_store.proofs.KeeperFacts.{value_before, reads_by}
use Rattle.office_store.proofs.NumberFacts.{own_small}
use Rattle.office_store_tables.proofs.Whole.{not_crowded}
use Rattle.office_store.proofs.on_sqlite.TablesKeeper.next_number.Goals as goal

pub returns-clause-next : goal.returns-clause-next
returns-clause-next g c trusted =
    let inside = c.self.inside in
    let old = state g.S.Store inside.conn in
    let new = state g.S.Store c.next_number.new.conn in
    subst (λ v. IfOk c.count.result (λ number. IsNextNumber (kept_rows ((state g.S.Store v.conn).now.trees 1)) c.args.sender c.args.from number)) c.self.view_is
    (value_before c.count.result c.next_number.result (λ (d : Database) number. IsNextNumber (kept_rows (d.trees 1)) c.args.sender c.args.from number) old new c.count.ensures.same (c.next_number.ensures.reads.same trusted) (c.next_number.ensures.next trusted))

pub returns-clause-reads : goal.returns-clause-reads
returns-clause-reads g c =
    reads_by g.S.Store c.next_number.new.conn c.count.new.refusals c.self.inside.in_memory c.count.result c.next_number.result c.self.view_is c.count.ensures.same c.count.ensures.counted c.next_number.ensures.reads (λ is. is)
    (λ trusted is own bad. not_crowded ((state g.S.Store c.next_number.new.conn).now.trees 1) is.mail (c.next_number.ensures.bad trusted bad (own_small c.self.inside.setup (kept_rows ((state g.S.Store c.next_number.new.conn).now.trees 1)) own)))
