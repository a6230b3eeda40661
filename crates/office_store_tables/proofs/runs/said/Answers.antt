use Rattle.std.proofs.Common.{◌∙◌}
use Rattle.std.proofs.lemmas.Result.{IfOk-from_err}
use Rattle.sqlite.specs.Held.{state}
use Rattle.office_store_tables.proofs.RunLemmas.{said_is}
use Rattle.office_store_tables.proofs.SaidFacts.{said_shown}
use Rattle.office_store_tables.proofs.RestReads.{says_once}
use Rattle.office_store_tables.proofs.runs.said.Goals as goal

pub returns-clause-value : goal.returns-clause-value
returns-clause-value g c trusted =
    said_is ((state g.S.Store c.office_rows.new.conn).now.trees 0) c.only_said.result c.in_ok-rows.rows.items (c.in_ok-rows.ensures.finds trusted) (rw c.as_slice.ensures.value at c.only_said.ensures.ok)

pub returns-clause-bad : goal.returns-clause-bad
returns-clause-bad g c trusted once bad =
    c.only_said.ensures.bad bad once.said once.schema once.finished once.setup (c.as_slice.ensures.value ∙ said_shown ((state g.S.Store c.office_rows.new.conn).now.trees 0) c.in_ok-rows.rows.items (c.in_ok-rows.ensures.finds trusted) once)

pub returns-in_err-rows-clause-value : goal.returns-in_err-rows-clause-value
returns-in_err-rows-clause-value g c trusted = IfOk-from_err c.from_residual.result _ c.from_residual.ensures.0

pub returns-clause-once : goal.returns-clause-once
returns-clause-once g c trusted =
    says_once ((state g.S.Store c.office_rows.new.conn).now.trees 0) c.only_said.result c.in_ok-rows.rows.items (c.in_ok-rows.ensures.finds trusted) (rw c.as_slice.ensures.value at c.only_said.ensures.ok) c.only_said.ensures.fits (returns-clause-value g c trusted)

pub returns-in_err-rows-clause-once : goal.returns-in_err-rows-clause-once
returns-in_err-rows-clause-once g c trusted = IfOk-from_err c.from_residual.result _ c.from_residual.ensures.0
