use Rattle.std.proofs.lemmas.Result.{IfOk-from_err}
use Rattle.sqlite.specs.Held.{state}
use Rattle.office_store_tables.proofs.RestReads.{own_count_is}
use Rattle.office_store_tables.proofs.checks.own_count.Goals as goal

pub returns-clause-own : goal.returns-clause-own
returns-clause-own g c trusted =
    let once = c.in_ok-said.ensures.once trusted in
    own_count_is c.args.setup.now ((state g.S.Store c.said.new.conn).now.trees 0) once.0 c.in_ok-said.said c.count_said.result once.1 c.count_said.ensures.own

pub returns-in_err-said-clause-own : goal.returns-in_err-said-clause-own
returns-in_err-said-clause-own g c trusted = IfOk-from_err c.from_residual.result _ c.from_residual.ensures.0
