use Rattle.std.proofs.Common.{◌≤◌, ◌+◌, true, false, ℕ, refl, sym, subst, ◌∙◌, arith}
use Rattle.std.proofs.lemmas.Result.{IfOk-from_err}
use Rattle.sqlite.specs.Effect.{Database}
use Rattle.sqlite.specs.Held.{state}
use Rattle.office_store_tables.specs.steps.Reading.{IsRecorded}
use Rattle.office_store_testing_tables.proofs.Passed.{passed}
use Rattle.office_store_testing_tables.proofs.ReadingLemmas.{none_read, kept_read, failed_read, then_read}
use Rattle.office_store_tables.proofs.RunCounts.{recorded_more}
use Rattle.office_store_tables.proofs.runs.are_recorded.Goals as goal

pub runs-init : goal.runs-init
runs-init g c = record {
  reads = none_read _ _ c.requires.ours;
  each = λ trusted run low high. absurd (omega (arith, low, high));
}

pub runs-preserved : goal.runs-preserved
runs-preserved g c =
    let ensures = c.in_ok-own.ensures in
    let invariant = c.runs.invariant in
    record {
      reads = then_read _ invariant.reads (kept_read _ ensures.reads);
      each = λ trusted.
          let rows = (state g.S.Store c.is_recorded.new.conn).now.trees 3 in
          recorded_more rows c.runs.done
          (subst (λ (d : Database). (run : ℕ) → 1 ≤ run → run ≤ c.runs.done → IsRecorded (d.trees 3) run) (sym (ensures.reads.same trusted).now) (invariant.each (ensures.reads.before trusted)))
          ((ensures.own trusted).0 c.if-not-own.false);
    }

pub returns-clause-own : goal.returns-clause-own
returns-clause-own g c trusted = (
  λ _ run low high. let past = c.runs-test.false in c.runs.invariant.each trusted run low (omega (arith, high, past)),
  λ _. refl,
)

pub returns-then-not-own-clause-own : goal.returns-then-not-own-clause-own
returns-then-not-own-clause-own g c trusted = (
  λ e. absurd (let x = e in cc),
  λ each.
      let low = c.runs-test.true in
      sym c.if-not-own.true ∙ (c.in_ok-own.ensures.own trusted).1 (each (c.runs.done + 1) (omega arith) (omega (arith, low))),
)

pub returns-then-not-own-clause-reads : goal.returns-then-not-own-clause-reads
returns-then-not-own-clause-reads g c = then_read _ c.runs.invariant.reads (kept_read _ c.in_ok-own.ensures.reads)

pub returns-in_err-own-clause-own : goal.returns-in_err-own-clause-own
returns-in_err-own-clause-own g c trusted = IfOk-from_err c.from_residual.result _ c.from_residual.ensures.0

pub returns-in_err-own-clause-bad : goal.returns-in_err-own-clause-bad
returns-in_err-own-clause-bad g c trusted finished reported bad = c.in_err-own.ensures.bad trusted finished reported (passed c.from_residual.result c.in_err-own.field-0.0 _ bad c.from_residual.ensures.1)

pub returns-in_err-own-clause-reads : goal.returns-in_err-own-clause-reads
returns-in_err-own-clause-reads g c = then_read _ c.runs.invariant.reads (failed_read _ c.from_residual.ensures.0 c.in_err-own.ensures.reads)

pub returns-clause-reads : goal.returns-clause-reads
returns-clause-reads g c = kept_read _ c.runs.invariant.reads
