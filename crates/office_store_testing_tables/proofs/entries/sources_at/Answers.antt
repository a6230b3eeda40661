use Rattle.std.proofs.Common.{◌≡◌, map, take, Some, sym, subst}
use Rattle.std.proofs.lemmas.Result.{IfOk-from_err}
use Rattle.sqlite.specs.Effect.{Database}
use Rattle.sqlite.specs.Held.{state}
use Rattle.office_store_testing_tables.specs.Tables.{kept_rows}
use Rattle.office_store_testing_tables.specs.steps.TableContent.{source_of}
use Rattle.office_store_testing_tables.proofs.Passed.{passed, no_none}
use Rattle.office_store_testing_tables.proofs.EntryLists.{read_more}
use Rattle.office_store_testing_tables.proofs.ReadingLemmas.{kept_read, failed_read, then_read}
use Rattle.office_store_testing_tables.proofs.entries.sources_at.Goals as goal

pub rows-preserved : goal.rows-preserved
rows-preserved g c =
    let ensures = c.in_ok-source.ensures in
    let invariant = c.rows.invariant in
    let read = λ (d : Database). source_of c.args.setup.now (kept_rows (d.trees 1)) in
    let new = state g.S.Store c.source_at.new.conn in
    record {
      reads = then_read _ invariant.reads (kept_read _ ensures.reads);
      block = λ trusted. ensures.block trusted;
      so_far = λ trusted.
          read_more (read new.now) c.args.rows.now c.rows.row-index c.row-item.result c.in_ok-source.source c.rows.sources.items c.push.new.self.items c.rows-test.true c.row-item.is
          (subst (λ (d : Database). map (read d) (take c.rows.row-index c.args.rows.now) ≡ map Some c.rows.sources.items) (sym (ensures.reads.same trusted).now) (invariant.so_far (ensures.reads.before trusted)))
          (ensures.ok trusted) c.in_ok-push.ensures.items;
    }

pub returns-in_err-source-clause-bad : goal.returns-in_err-source-clause-bad
returns-in_err-source-clause-bad g c trusted bad reads =
    let each = reads c.row-item.result (c.rows.row-index, c.rows-test.true, sym c.row-item.is) in
    let fault = passed c.from_residual.result c.in_err-source.field-0.0 _ bad c.from_residual.ensures.1 in
    no_none (c.in_err-source.ensures.bad trusted fault each.0) each.1

pub returns-in_err-source-clause-ok : goal.returns-in_err-source-clause-ok
returns-in_err-source-clause-ok g c trusted = IfOk-from_err c.from_residual.result _ c.from_residual.ensures.0

pub returns-in_err-push-clause-ok : goal.returns-in_err-push-clause-ok
returns-in_err-push-clause-ok g c trusted = IfOk-from_err c.from_residual-in_err-push.result _ c.from_residual-in_err-push.ensures.0

pub returns-in_err-source-clause-reads : goal.returns-in_err-source-clause-reads
returns-in_err-source-clause-reads g c = then_read _ c.rows.invariant.reads (failed_read _ c.from_residual.ensures.0 c.in_err-source.ensures.reads)

pub returns-in_err-push-clause-reads : goal.returns-in_err-push-clause-reads
returns-in_err-push-clause-reads g c = then_read _ c.rows.invariant.reads (kept_read _ c.in_ok-source.ensures.reads)

pub returns-clause-reads : goal.returns-clause-reads
returns-clause-reads g c = kept_read _ c.rows.invariant.reads
