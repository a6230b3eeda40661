use Rattle.std.proofs.Common.{◌≡◌, length, sym, ap, ◌∙◌}
use Rattle.std.specs.Prelude.{◌↔◌, IsTrue}
use Rattle.std.proofs.lemmas.Result.{IfOk-from_err, IfOk-weaker}
use Rattle.sqlite.specs.Effect.{Database}
use Rattle.sqlite.specs.Held.{state}
use Rattle.office_store_testing_tables.specs.Legible.{AreReported}
use Rattle.office_store_testing_tables.proofs.ReadingLemmas.{kept_read, then_read}
use Rattle.office_store_tables.proofs.RunCounts.{reported_from, reported_each}
use Rattle.office_store_tables.proofs.runs.are_reported.Goals as goal

pub returns-clause-own : goal.returns-clause-own
returns-clause-own g c trusted =
    let ensures = c.are_recorded.ensures in
    let one = (state g.S.Store c.has_rows.new.conn).now in
    let two = (state g.S.Store c.are_recorded.new.conn).now in
    let size : length (two.trees 3) ≡ c.args.runs =
    ap (λ (d : Database). length (d.trees 3)) (ensures.reads.same trusted).now ∙ (c.in_ok-own.ensures.own (ensures.reads.before trusted)).0 c.if-not-own.false in
    IfOk-weaker c.are_recorded.result _ (λ own. IsTrue own ↔ AreReported (two.trees 3) c.args.runs)
    (λ own both. (λ is. reported_from (two.trees 3) c.args.runs size (both.0 is), λ reported. both.1 (reported_each (two.trees 3) c.args.runs reported))) (ensures.own trusted)

pub returns-then-not-own-clause-own : goal.returns-then-not-own-clause-own
returns-then-not-own-clause-own g c trusted = (
  λ e. absurd (let x = e in cc),
  λ reported. sym c.if-not-own.true ∙ (c.in_ok-own.ensures.own trusted).1 reported.count,
)

pub returns-in_err-own-clause-own : goal.returns-in_err-own-clause-own
returns-in_err-own-clause-own g c trusted = IfOk-from_err c.from_residual.result _ c.from_residual.ensures.0

pub returns-clause-reads : goal.returns-clause-reads
returns-clause-reads g c = then_read _ c.in_ok-own.ensures.reads c.are_recorded.ensures.reads

pub returns-then-not-own-clause-reads : goal.returns-then-not-own-clause-reads
returns-then-not-own-clause-reads g c = kept_read _ c.in_ok-own.ensures.reads
