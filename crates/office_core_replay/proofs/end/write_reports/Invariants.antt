use Rattle.std.proofs.Common.{◌≡◌, ◌-◌, ◌≤◌}
use Rattle.office_core.specs.Preserves.{Asks, Holds, StoreRefused}
use Rattle.office_core_replay.specs.steps.Ending.{WritesReports}
use Rattle.office_core_facts.specs.State.{state_of}
use Rattle.office_core_replay.proofs.end.write_reports.Given as goal

abbrev pub invariant-loop-done : goal.invariant-loop-done
invariant-loop-done g l = record {
  asks : Asks g.K.Keeper l.fn.office l.office;
  so_far : Holds g.K.Keeper l.fn.office l.office → l.before ≤ l.finished → l.finished ≡ (state_of g.K.Keeper l.fn.office).finished → WritesReports (state_of g.K.Keeper l.fn.office) l.before l.done (g.W.Sink.written l.fn.writer) (g.W.Sink.written l.writer) l.lost (StoreRefused g.K.Keeper l.fn.office l.office);
  within : l.before ≤ l.finished → l.done ≤ l.finished;
  failures : g.W.Sink.failures l.writer ≡ g.W.Sink.failures l.fn.writer;
}

abbrev pub decreases-loop-done : goal.decreases-loop-done
decreases-loop-done g l = l.finished - l.done
