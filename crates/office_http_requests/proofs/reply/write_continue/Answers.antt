use Rattle.std.proofs.KnownBytes.{Appends-nil}
use Rattle.office_http_requests.proofs.reply.write_continue.Goals as goal

pub returns-clause-ok : goal.returns-clause-ok
returns-clause-ok g c = rw c.if-waits.false (Appends-nil (g.W.Sink.written c.args.writer.now))
