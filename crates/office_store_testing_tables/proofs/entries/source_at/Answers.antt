use Rattle.std.proofs.Common.{Some, inr, sym, ◌∙◌}
use Rattle.std.proofs.lemmas.Result.{IfOk-from_err}
use Rattle.sqlite.specs.Held.{state}
use Rattle.office_store_testing_tables.specs.Tables.{kept_rows}
use Rattle.office_store_testing_tables.specs.steps.TableSteps.{IsCrowded}
use Rattle.office_store_testing_tables.proofs.EntryReads.{source_none, source_by_parts, source_missing}
use Rattle.office_store_testing_tables.proofs.Passed.{passed}
use Rattle.office_store_testing_tables.proofs.ReadingLemmas.{none_read}
use Rattle.office_store_testing_tables.proofs.entries.source_at.Goals as goal

pub returns-in_err-name-clause-bad : goal.returns-in_err-name-clause-bad
returns-in_err-name-clause-bad g c trusted bad shown = inr (source_none c.args.reading.now.setup.now (kept_rows ((state g.S.Store c.args.conn.now).now.trees 1)) c.args.row.now (c.in_err-name.ensures.bad (passed c.from_residual.result c.in_err-name.field-0.0 _ bad c.from_residual.ensures.1)) shown)

pub returns-in_err-message-clause-bad : goal.returns-in_err-message-clause-bad
returns-in_err-message-clause-bad g c trusted bad shown =
    let db = (state g.S.Store c.message_near.new.conn).now.trees in
    source_missing c.args.reading.now.setup.now (kept_rows (db 1)) c.args.row.now (IsCrowded (db 1)) c.in_ok-name.name.now c.in_ok-name.sender c.in_ok-name.number c.in_ok-name.ensures.ok (c.in_err-message.ensures.bad trusted (passed c.from_residual-in_err-message.result c.in_err-message.field-0.0 _ bad c.from_residual-in_err-message.ensures.1))

pub returns-in-Some-clause-ok : goal.returns-in-Some-clause-ok
returns-in-Some-clause-ok g c trusted =
    source_by_parts c.args.reading.now.setup.now (kept_rows ((state g.S.Store c.message_near.new.conn).now.trees 1)) c.args.row.now c.in_ok-name.name.now c.in_ok-name.sender c.in_ok-name.number (Some c.in_ok-message.message) c.in_ok-name.ensures.ok (c.in_ok-message.ensures.ok trusted)
    ∙ sym c.in-Some.ensures

pub returns-in-None-clause-bad : goal.returns-in-None-clause-bad
returns-in-None-clause-bad g c trusted bad shown =
    inr (source_by_parts c.args.reading.now.setup.now (kept_rows ((state g.S.Store c.message_near.new.conn).now.trees 1)) c.args.row.now c.in_ok-name.name.now c.in_ok-name.sender c.in_ok-name.number (Some c.in_ok-message.message) c.in_ok-name.ensures.ok (c.in_ok-message.ensures.ok trusted)
    ∙ sym c.in-None.ensures)

pub returns-in_err-name-clause-block : goal.returns-in_err-name-clause-block
returns-in_err-name-clause-block g c trusted = IfOk-from_err c.from_residual.result _ c.from_residual.ensures.0

pub returns-in_err-name-clause-ok : goal.returns-in_err-name-clause-ok
returns-in_err-name-clause-ok g c trusted = IfOk-from_err c.from_residual.result _ c.from_residual.ensures.0

pub returns-in_err-message-clause-block : goal.returns-in_err-message-clause-block
returns-in_err-message-clause-block g c trusted = IfOk-from_err c.from_residual-in_err-message.result _ c.from_residual-in_err-message.ensures.0

pub returns-in_err-message-clause-ok : goal.returns-in_err-message-clause-ok
returns-in_err-message-clause-ok g c trusted = IfOk-from_err c.from_residual-in_err-message.result _ c.from_residual-in_err-message.ensures.0

pub returns-in_err-name-clause-reads : goal.returns-in_err-name-clause-reads
returns-in_err-name-clause-reads g c = none_read _ _ c.requires.ours
