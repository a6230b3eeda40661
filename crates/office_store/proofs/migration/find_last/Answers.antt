use Rattle.std.proofs.Common.{◌≡◌, Some, None, IfOk, subst}
use Rattle.sqlite.specs.Effect.{Database}
use Rattle.sqlite.specs.Held.{state}
use Rattle.office_store_keeper.specs.Content.{letters_within}
use Rattle.office_store_tables.specs.Tables.{IsWhole, kept_rows}
use Rattle.office_store_tables.specs.TableContent.{release_place}
use Rattle.office_store.specs.steps.MigratingSteps.{told_on}
use Rattle.office_store_tables.proofs.Passed.{passed}
use Rattle.office_store.proofs.RangeFacts.{tells_on, uncovered, untold}
use Rattle.office_store_tables.proofs.WithinLemmas.{failed_within, failed_looks}
use Rattle.office_store.proofs.LookLemmas.{then_looks}
use Rattle.office_store.proofs.migration.find_last.Goals as goal

pub returns-clause-looks : goal.returns-clause-looks
returns-clause-looks g c = then_looks _ c.in_ok-to.ensures.looks c.last_delays_number.ensures.looks (λ trusted.
    let setup = c.args.setup.now in
    let old = (state g.S.Store c.args.tx.now.conn.now).now in
    let first = c.last_delays_number.ensures.looks.steps.before trusted in
    tells_on setup (kept_rows (old.trees 1)) c.args.finished c.in_ok-to.to c.last_delays_number.result (c.in_ok-to.ensures.looks.yields first)
    (subst (λ (d : Database). IfOk c.last_delays_number.result (λ last. told_on setup None (letters_within (kept_rows (d.trees 1)) (release_place setup) 1 c.in_ok-to.to) ≡ Some last)) (c.in_ok-to.ensures.looks.same first) (c.last_delays_number.ensures.looks.yields trusted)))

pub returns-in_err-to-clause-looks : goal.returns-in_err-to-clause-looks
returns-in_err-to-clause-looks g c = failed_looks _ c.from_residual.ensures.0 (failed_within _ c.from_residual.ensures.0 c.in_err-to.ensures.looks.steps)

pub returns-clause-bad : goal.returns-clause-bad
returns-clause-bad g c trusted bad whole =
    let setup = c.args.setup.now in
    let old = (state g.S.Store c.args.tx.now.conn.now).now in
    let first = c.last_delays_number.ensures.looks.steps.before trusted in
    let none = subst (λ (d : Database). IsWhole (kept_rows (d.trees 1)) (d.trees 1) → told_on setup None (letters_within (kept_rows (d.trees 1)) (release_place setup) 1 c.in_ok-to.to) ≡ None) (c.in_ok-to.ensures.looks.same first) (c.last_delays_number.ensures.bad trusted bad) in
    untold setup (kept_rows (old.trees 1)) c.args.finished c.in_ok-to.to (c.in_ok-to.ensures.looks.yields first) (none whole)

pub returns-in_err-to-clause-bad : goal.returns-in_err-to-clause-bad
returns-in_err-to-clause-bad g c trusted bad whole =
    uncovered c.args.setup.now (kept_rows ((state g.S.Store c.args.tx.now.conn.now).now.trees 1)) c.args.finished
    (c.in_err-to.ensures.bad trusted (passed c.from_residual.result c.in_err-to.field-0.0 _ bad c.from_residual.ensures.1) whole)
