use Rattle.std.proofs.Common.{◌≡◌, take}
use Rattle.std.specs.Io.KnownBytes.{Appends}
use Rattle.office_mail.specs.Written.{joined}
use Rattle.office_mail.proofs.writer.write_parts.Given as goal

abbrev pub invariant-loop-part : goal.invariant-loop-part
invariant-loop-part g l = record {
  took : Appends (g.W.Sink.written l.fn.writer) (g.W.Sink.written l.writer) (joined (take l.part-index l.parts));
  failures : g.W.Sink.failures l.writer ≡ g.W.Sink.failures l.fn.writer;
}
