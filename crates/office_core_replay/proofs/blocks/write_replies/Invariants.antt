use Rattle.std.proofs.Common.{◌≡◌, flat_map, take}
use Rattle.std.specs.Io.KnownBytes.{Appends}
use Rattle.office_core_replies.specs.Replies.{reply_line}
use Rattle.office_core_replay.proofs.blocks.write_replies.Given as goal

abbrev pub invariant-lines : goal.invariant-lines
invariant-lines g l = record {
  took : Appends (g.W.Sink.written l.fn.writer) (g.W.Sink.written l.writer) (flat_map (reply_line l.setup) (take l.place l.replies));
  failures : g.W.Sink.failures l.writer ≡ g.W.Sink.failures l.fn.writer;
}
