use Rattle.std.proofs.Common.{◌≤◌, length, flat_map}
use Rattle.std.specs.Io.KnownBytes.{Appends}
use Rattle.office_core.specs.Preserves.{Holds}
use Rattle.office_core_queries.specs.Export.{texts_to}
use Rattle.office_core_queries.specs.steps.Walk.{told_as}
use Rattle.office_core_queries.proofs.AskFacts.{AskedBoth}
use Rattle.office_core_queries.proofs.walk.write_mail.Given as goal

abbrev pub invariant-senders : goal.invariant-senders
invariant-senders g l = record {
  asked : AskedBoth g.K.Keeper l.fn.office l.office (g.W.Sink.failures l.fn.writer) (g.W.Sink.failures l.writer);
  within : l.sender ≤ length (g.K.Keeper.setup l.fn.office).senders;
  told : Holds g.K.Keeper l.fn.office l.office → Appends (g.W.Sink.written l.fn.writer) (g.W.Sink.written l.writer) (flat_map (told_as l.form (g.K.Keeper.setup l.fn.office)) (texts_to (g.K.Keeper.content l.fn.office).kept l.sender));
}
