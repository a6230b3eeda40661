use Rattle.std.proofs.Common.{◌+◌, ap, subst, ◌∙◌, refl, arith}
use Rattle.std.proofs.lemmas.Result.{err_from_is_err_and}
use Rattle.office_core.specs.Preserves.{StoreRefused}
use Rattle.office_core_replay.specs.steps.Ending.{WritesRun, WritesRunFront}
use Rattle.office_core_facts.specs.OfficeState.{OfficeState}
use Rattle.office_core_facts.specs.State.{state_of}
use Rattle.office_core.proofs.CarryFacts.{asks_none, asks_twice, holds_first, holds_next, refused_first, refused_next, state_asked}
use Rattle.office_core_replay.proofs.EndFacts.{reports_none, reports_more, reports_front}
use Rattle.office_core_replay.proofs.end.write_reports.Goals as goal

pub loop-done-init : goal.loop-done-init
loop-done-init g c =
    let s = c.args.office.now in
    record {
      asks = asks_none g.K.Keeper s;
      so_far = λ h some all. reports_none (state_of g.K.Keeper s) c.args.before (g.W.Sink.written c.args.writer.now) (StoreRefused g.K.Keeper s s);
      within = λ some. some;
      failures = refl;
    }

pub loop-done-preserved : goal.loop-done-preserved
loop-done-preserved g c =
    let keeper = g.K.Keeper in
    let written = g.W.Sink.written in
    let s0 = c.args.office.now in
    let s1 = c.loop-done.office in
    let s2 = c.write_run.new.office in
    let l = c.loop-done.invariant in
    let step = c.in_ok-missing.ensures in
    record {
      asks = asks_twice keeper s0 s1 s2 l.asks step.asks;
      so_far = λ h some all.
          let h1 = holds_first keeper s0 s1 s2 step.asks.carries h in
          let h2 = holds_next keeper s0 s1 s2 l.asks.carries step.asks.carries h in
          reports_more (StoreRefused keeper s0 s1) (StoreRefused keeper s1 s2) (StoreRefused keeper s0 s2) (state_of keeper s0) c.args.before c.loop-done.done (written c.args.writer.now) (written c.loop-done.writer) (written c.write_run.new.writer) c.loop-done.lost c.in_ok-missing.missing c.either-lost.result
          (l.so_far h1 some all) (refused_first keeper s0 s1 s2 step.asks.carries)
          (subst (λ (s : OfficeState). WritesRun s (c.loop-done.done + 1) (written c.loop-done.writer) (written c.write_run.new.writer) c.in_ok-missing.missing (StoreRefused keeper s1 s2)) (state_asked keeper s0 s1 l.asks h1.0) (step.ok h2 (omega (arith, all, ap (λ (s : OfficeState). s.finished) (state_asked keeper s0 s1 l.asks h1.0)))))
          (refused_next keeper s0 s1 s2 l.asks.carries) c.either-lost.ensures;
      within = λ some. omega arith;
      failures = step.failures.clean ∙ l.failures;
    }

pub returns-in_err-missing-clause-err : goal.returns-in_err-missing-clause-err
returns-in_err-missing-clause-err g c =
    let p = err_from_is_err_and c.from_residual.result c.from_residual.ensures.1 in
    let keeper = g.K.Keeper in
    let written = g.W.Sink.written in
    let s0 = c.args.office.now in
    let s1 = c.loop-done.office in
    let s2 = c.write_run.new.office in
    let l = c.loop-done.invariant in
    let step = c.in_err-missing.ensures in
    λ h some all.
    let h1 = holds_first keeper s0 s1 s2 step.asks.carries h in
    let h2 = holds_next keeper s0 s1 s2 l.asks.carries step.asks.carries h in
    rw p.1 (reports_front (StoreRefused keeper s0 s1) (StoreRefused keeper s1 s2) (StoreRefused keeper s0 s2) (state_of keeper s0) c.args.before c.loop-done.done c.args.finished (written c.args.writer.now) (written c.loop-done.writer) (written c.write_run.new.writer) c.loop-done.lost
    (l.so_far h1 some all) (refused_first keeper s0 s1 s2 step.asks.carries)
    (subst (λ (s : OfficeState). WritesRunFront s (c.loop-done.done + 1) (written c.loop-done.writer) (written c.write_run.new.writer) (StoreRefused keeper s1 s2)) (state_asked keeper s0 s1 l.asks h1.0) (step.err h2 (omega (arith, all, ap (λ (s : OfficeState). s.finished) (state_asked keeper s0 s1 l.asks h1.0)))))
    (refused_next keeper s0 s1 s2 l.asks.carries) (omega arith))
