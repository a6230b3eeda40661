use Rattle.std.proofs.Common.{inr, sym, ◌∙◌}
use Rattle.std.proofs.lemmas.Result.{IfOk-from_err}
use Rattle.sqlite.specs.Held.{state}
use Rattle.office_store_testing_tables.specs.Tables.{kept_rows}
use Rattle.office_store_testing_tables.specs.steps.TableSteps.{IsCrowded}
use Rattle.office_store_testing_tables.specs.steps.Nearby.{read_binary}
use Rattle.office_store_testing_tables.proofs.Passed.{passed}
use Rattle.office_store_testing_tables.proofs.EntryReads.{row_none, row_missing, row_by_last, row_known}
use Rattle.office_store_testing_tables.proofs.ReadingLemmas.{none_read}
use Rattle.office_store_testing_tables.proofs.entries.row_at.Goals as goal

pub returns-in_err-entry-clause-bad : goal.returns-in_err-entry-clause-bad
returns-in_err-entry-clause-bad g c trusted bad shown =
    inr (row_none c.args.reading.now.setup.now (kept_rows ((state g.S.Store c.args.conn.now).now.trees 1)) c.args.row.now (c.in_err-entry.ensures.bad (passed c.from_residual.result c.in_err-entry.field-0.0 _ bad c.from_residual.ensures.1)) shown)

pub returns-in_err-read_once-clause-bad : goal.returns-in_err-read_once-clause-bad
returns-in_err-read_once-clause-bad g c trusted bad shown =
    let db = (state g.S.Store c.read_once.new.conn).now.trees in
    let e = c.in_ok-entry.entry in
    row_missing c.args.reading.now.setup.now (kept_rows (db 1)) c.args.row.now (IsCrowded (db 1)) e.arch e.name.now e.sender e.number e.place c.in_ok-entry.ensures.ok
    (c.in_err-read_once.ensures.bad trusted (passed c.from_residual-in_err-read_once.result c.in_err-read_once.field-0.0 _ bad c.from_residual-in_err-read_once.ensures.1))

pub returns-in-Some-clause-known : goal.returns-in-Some-clause-known
returns-in-Some-clause-known g c =
    let e = c.in_ok-entry.entry in
    row_known c.args.reading.now.setup.now.archs e.arch e.name.now e.sender e.number e.place (read_binary e.place c.read_once.new.last) c.in-Some.given (sym (rw c.archs.ensures.same at c.in_ok-given.ensures.named) ∙ c.in-Some.is)

pub returns-in-Some-clause-ok : goal.returns-in-Some-clause-ok
returns-in-Some-clause-ok g c trusted =
    let e = c.in_ok-entry.entry in
    row_by_last c.args.reading.now.setup.now (kept_rows ((state g.S.Store c.read_once.new.conn).now.trees 1)) c.args.row.now e.arch e.name.now e.sender e.number e.place c.read_once.new.last c.in_ok-entry.ensures.ok c.in_ok-read_once.ensures.place (c.in_ok-read_once.ensures.held trusted)
    ∙ sym (rw c.archs.ensures.same at c.in_ok-given.ensures.named) ∙ c.in-Some.is

pub returns-in-None-clause-bad : goal.returns-in-None-clause-bad
returns-in-None-clause-bad g c trusted bad shown =
    let e = c.in_ok-entry.entry in
    inr (row_by_last c.args.reading.now.setup.now (kept_rows ((state g.S.Store c.read_once.new.conn).now.trees 1)) c.args.row.now e.arch e.name.now e.sender e.number e.place c.read_once.new.last c.in_ok-entry.ensures.ok c.in_ok-read_once.ensures.place (c.in_ok-read_once.ensures.held trusted)
    ∙ sym (rw c.archs.ensures.same at c.in_ok-given.ensures.named) ∙ c.in-None.is)

pub returns-in_err-entry-clause-block : goal.returns-in_err-entry-clause-block
returns-in_err-entry-clause-block g c trusted = IfOk-from_err c.from_residual.result _ c.from_residual.ensures.0

pub returns-in_err-entry-clause-known : goal.returns-in_err-entry-clause-known
returns-in_err-entry-clause-known g c = IfOk-from_err c.from_residual.result _ c.from_residual.ensures.0

pub returns-in_err-entry-clause-ok : goal.returns-in_err-entry-clause-ok
returns-in_err-entry-clause-ok g c trusted = IfOk-from_err c.from_residual.result _ c.from_residual.ensures.0

pub returns-in_err-entry-clause-held : goal.returns-in_err-entry-clause-held
returns-in_err-entry-clause-held g c trusted = IfOk-from_err c.from_residual.result _ c.from_residual.ensures.0

pub returns-in_err-read_once-clause-block : goal.returns-in_err-read_once-clause-block
returns-in_err-read_once-clause-block g c trusted = IfOk-from_err c.from_residual-in_err-read_once.result _ c.from_residual-in_err-read_once.ensures.0

pub returns-in_err-read_once-clause-known : goal.returns-in_err-read_once-clause-known
returns-in_err-read_once-clause-known g c = IfOk-from_err c.from_residual-in_err-read_once.result _ c.from_residual-in_err-read_once.ensures.0

pub returns-in_err-read_once-clause-ok : goal.returns-in_err-read_once-clause-ok
returns-in_err-read_once-clause-ok g c trusted = IfOk-from_err c.from_residual-in_err-read_once.result _ c.from_residual-in_err-read_once.ensures.0

pub returns-in_err-read_once-clause-held : goal.returns-in_err-read_once-clause-held
returns-in_err-read_once-clause-held g c trusted = IfOk-from_err c.from_residual-in_err-read_once.result _ c.from_residual-in_err-read_once.ensures.0

pub returns-in_err-given-clause-block : goal.returns-in_err-given-clause-block
returns-in_err-given-clause-block g c trusted = IfOk-from_err c.from_residual-in_err-given.result _ c.from_residual-in_err-given.ensures.0

pub returns-in_err-given-clause-known : goal.returns-in_err-given-clause-known
returns-in_err-given-clause-known g c = IfOk-from_err c.from_residual-in_err-given.result _ c.from_residual-in_err-given.ensures.0

pub returns-in_err-given-clause-ok : goal.returns-in_err-given-clause-ok
returns-in_err-given-clause-ok g c trusted = IfOk-from_err c.from_residual-in_err-given.result _ c.from_residual-in_err-given.ensures.0

pub returns-in_err-given-clause-held : goal.returns-in_err-given-clause-held
returns-in_err-given-clause-held g c trusted = IfOk-from_err c.from_residual-in_err-given.result _ c.from_residual-in_err-given.ensures.0

pub returns-in_err-entry-clause-reads : goal.returns-in_err-entry-clause-reads
returns-in_err-entry-clause-reads g c = none_read _ _ c.requires.ours
