use Rattle.std.proofs.Common.{sym, ◌∙◌}
use Rattle.office_store_testing_tables.proofs.FactReads.{fact_none, fact_misplaced}
use Rattle.office_store_testing_tables.proofs.Passed.{passed}
use Rattle.office_store_testing_tables.proofs.fact_rows.fact_said.Goals as goal

pub returns-in_err-fact-clause-bad : goal.returns-in_err-fact-clause-bad
returns-in_err-fact-clause-bad c bad shown = fact_none c.args.row.now (c.in_err-fact.ensures.bad (passed c.from_residual.result c.in_err-fact.field-0.0 _ bad c.from_residual.ensures.1)) shown

pub returns-then-not-may_stand-clause-bad : goal.returns-then-not-may_stand-clause-bad
returns-then-not-may_stand-clause-bad c bad shown =
    fact_misplaced c.args.row.now c.in_ok-fact.fact.kind c.in_ok-fact.fact.place c.in_ok-fact.ensures.is.0 c.in_ok-fact.ensures.is.1 (sym c.may_stand.ensures ∙ c.if-not-may_stand.true)
