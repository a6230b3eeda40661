use Rattle.std.proofs.Common.{◌-◌, ◌≤◌}
use Rattle.std.specs.Io.KnownBytes.{Appends}
use Rattle.office_core.specs.Preserves.{Holds}
use Rattle.office_core_queries.specs.steps.Walk.{told_as}
use Rattle.office_core_queries.proofs.AskFacts.{AskedBoth}
use Rattle.office_core_queries.proofs.TextLists.{told_to}
use Rattle.office_core_queries.proofs.walk.write_sender.Given as goal

abbrev pub invariant-loop-letter : goal.invariant-loop-letter
invariant-loop-letter g l = record {
  asked : AskedBoth g.K.Keeper l.fn.office l.office (g.W.Sink.failures l.fn.writer) (g.W.Sink.failures l.writer);
  few : l.last ≤ 999_999_999;
  told : Holds g.K.Keeper l.fn.office l.office → Appends (g.W.Sink.written l.fn.writer) (g.W.Sink.written l.writer) (told_to (told_as l.form (g.K.Keeper.setup l.fn.office)) (g.K.Keeper.content l.fn.office).kept l.sender l.last);
}

abbrev pub decreases-loop-letter : goal.decreases-loop-letter
decreases-loop-letter g l = 999_999_999 - l.last
