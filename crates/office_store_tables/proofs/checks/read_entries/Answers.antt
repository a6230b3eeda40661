use Rattle.std.proofs.Common.{sym, subst}
use Rattle.std.proofs.lemmas.Result.{IfOk-from_err}
use Rattle.sqlite.specs.Effect.{Database}
use Rattle.office_store_testing_tables.specs.Legible.{AreNamed}
use Rattle.office_store_testing_tables.proofs.Passed.{passed}
use Rattle.office_store_testing_tables.proofs.ReadingLemmas.{kept_read, failed_read, then_read}
use Rattle.office_store_tables.proofs.checks.read_entries.Goals as goal

pub returns-clause-legible : goal.returns-clause-legible
returns-clause-legible g c trusted = (
  subst (λ (d : Database). AreNamed c.args.setup.now d.trees) (sym (c.in_ok-rows.ensures.reads.same trusted).now) (c.in_ok-suite.ensures.legible (c.in_ok-rows.ensures.reads.before trusted)),
  c.in_ok-rows.ensures.legible trusted,
)

pub returns-in_err-suite-clause-legible : goal.returns-in_err-suite-clause-legible
returns-in_err-suite-clause-legible g c trusted = IfOk-from_err c.from_residual.result _ c.from_residual.ensures.0

pub returns-in_err-rows-clause-legible : goal.returns-in_err-rows-clause-legible
returns-in_err-rows-clause-legible g c trusted = IfOk-from_err c.from_residual-in_err-rows.result _ c.from_residual-in_err-rows.ensures.0

pub returns-in_err-suite-clause-bad : goal.returns-in_err-suite-clause-bad
returns-in_err-suite-clause-bad g c trusted whole named read bad = c.in_err-suite.ensures.bad trusted whole named (passed c.from_residual.result c.in_err-suite.field-0.0 _ bad c.from_residual.ensures.1)

pub returns-in_err-rows-clause-bad : goal.returns-in_err-rows-clause-bad
returns-in_err-rows-clause-bad g c trusted whole named read bad = c.in_err-rows.ensures.bad trusted read (passed c.from_residual-in_err-rows.result c.in_err-rows.field-0.0 _ bad c.from_residual-in_err-rows.ensures.1)

pub returns-in_err-rows-clause-reads : goal.returns-in_err-rows-clause-reads
returns-in_err-rows-clause-reads g c = then_read _ c.in_ok-suite.ensures.reads (failed_read _ c.from_residual-in_err-rows.ensures.0 c.in_err-rows.ensures.reads)

pub returns-clause-reads : goal.returns-clause-reads
returns-clause-reads g c = then_read _ c.in_ok-suite.ensures.reads (kept_read _ c.in_ok-rows.ensures.reads)
