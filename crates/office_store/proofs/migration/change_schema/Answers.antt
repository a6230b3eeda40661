use Rattle.sqlite.specs.Held.{state}
use Rattle.office_store.proofs.MigrateLemmas.{migrated, unreadable, other_kept, none_kept, opened_bad, opened_same}
use Rattle.office_store_tables.proofs.WithinLemmas.{kept_within, failed_within, then_within}
use Rattle.office_store.proofs.migration.change_schema.Goals as goal

pub returns-clause-migrated : goal.returns-clause-migrated
returns-clause-migrated g c trusted =
    let three = c.in_ok-added.ensures.steps.before trusted in
    let two = c.in_ok-last.ensures.looks.steps.before three in
    let one = c.in_ok-finished.ensures.looks.steps.before two in
    let zero = c.in_ok-_made.ensures.steps.before one in
    migrated c.args.setup.now (state g.S.Store c.args.tx.now.conn.now).now (state g.S.Store c.widen.new.tx.conn.now).now (state g.S.Store c.judged.new.tx.conn.now).now (state g.S.Store c.find_last.new.tx.conn.now).now (state g.S.Store c.write_anew.new.tx.conn.now).now
    c.in_ok-finished.finished c.in_ok-last.last c.args.text.now c.requires.valid (c.requires.building zero).schema_is (c.in_ok-added.ensures.steps.on trusted).inside.schema c.requires.text (c.in_ok-_made.ensures.widened one).rows
    (c.in_ok-finished.ensures.looks.yields two) (c.in_ok-finished.ensures.looks.same two) (c.in_ok-last.ensures.looks.yields three) (c.in_ok-last.ensures.looks.same three) (c.in_ok-added.ensures.yields trusted)

pub returns-in_err-last-clause-bad : goal.returns-in_err-last-clause-bad
returns-in_err-last-clause-bad g c trusted bad =
    let two = c.in_err-last.ensures.looks.steps.before trusted in
    let one = c.in_ok-finished.ensures.looks.steps.before two in
    let zero = c.in_ok-_made.ensures.steps.before one in
    unreadable c.args.setup.now (state g.S.Store c.args.tx.now.conn.now).now (state g.S.Store c.widen.new.tx.conn.now).now (state g.S.Store c.judged.new.tx.conn.now).now c.in_ok-finished.finished (c.requires.building zero).schema_is
    (c.in_ok-_made.ensures.widened one).rows (c.in_ok-finished.ensures.looks.yields two) (c.in_ok-finished.ensures.looks.same two)
    (c.in_err-last.ensures.bad trusted (opened_bad c.from_residual-in_err-last.result c.in_err-last.field-0.0 bad c.from_residual-in_err-last.ensures.1))

pub returns-in_err-finished-clause-other : goal.returns-in_err-finished-clause-other
returns-in_err-finished-clause-other g c trusted other =
    let one = c.in_err-finished.ensures.looks.steps.before trusted in
    let zero = c.in_ok-_made.ensures.steps.before one in
    other_kept c.args.setup.now (state g.S.Store c.args.tx.now.conn.now).now (state g.S.Store c.widen.new.tx.conn.now).now (c.requires.building zero).schema_is (c.in_ok-_made.ensures.widened one).rows
    (c.in_err-finished.ensures.other trusted (opened_same c.from_residual-in_err-finished.result c.in_err-finished.field-0.0 _ other c.from_residual-in_err-finished.ensures.1))

pub returns-in_err-finished-clause-unknown : goal.returns-in_err-finished-clause-unknown
returns-in_err-finished-clause-unknown g c trusted unknown =
    let one = c.in_err-finished.ensures.looks.steps.before trusted in
    none_kept (state g.S.Store c.args.tx.now.conn.now).now (state g.S.Store c.widen.new.tx.conn.now).now (c.in_ok-_made.ensures.widened one).rows
    (c.in_err-finished.ensures.unknown trusted (opened_same c.from_residual-in_err-finished.result c.in_err-finished.field-0.0 _ unknown c.from_residual-in_err-finished.ensures.1))

pub returns-in_err-finished-clause-steps : goal.returns-in_err-finished-clause-steps
returns-in_err-finished-clause-steps g c = then_within _ c.in_ok-_made.ensures.steps (failed_within _ c.from_residual-in_err-finished.ensures.0 c.in_err-finished.ensures.looks.steps)

pub returns-in_err-last-clause-steps : goal.returns-in_err-last-clause-steps
returns-in_err-last-clause-steps g c = then_within _ (then_within _ c.in_ok-_made.ensures.steps c.in_ok-finished.ensures.looks.steps) (failed_within _ c.from_residual-in_err-last.ensures.0 c.in_err-last.ensures.looks.steps)

pub returns-in_err-added-clause-steps : goal.returns-in_err-added-clause-steps
returns-in_err-added-clause-steps g c = then_within _ (then_within _ (then_within _ c.in_ok-_made.ensures.steps c.in_ok-finished.ensures.looks.steps) c.in_ok-last.ensures.looks.steps) (failed_within _ c.from_residual-in_err-added.ensures.0 c.in_err-added.ensures.steps)

pub returns-clause-steps : goal.returns-clause-steps
returns-clause-steps g c = then_within _ (then_within _ (then_within _ c.in_ok-_made.ensures.steps c.in_ok-finished.ensures.looks.steps) c.in_ok-last.ensures.looks.steps) (kept_within _ c.in_ok-added.ensures.steps)
