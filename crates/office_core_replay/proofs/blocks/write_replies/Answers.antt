use Rattle.std.proofs.Common.{rules}
use Rattle.std.proofs.lemmas.Result.{err_from_is_err_and}
use Rattle.office_core_replies.specs.Replies.{reply_line}
use Rattle.office_mail.proofs.WrittenFacts.{writes_front}
use Rattle.office_core_replay.proofs.BlockFacts.{lines_at}
use Rattle.office_core_replay.proofs.blocks.write_replies.Goals as goal

pub returns-in_err-write_reply : goal.returns-in_err-write_reply
returns-in_err-write_reply g c =
    let written = g.W.Sink.written in
    let p = err_from_is_err_and c.from_residual.result c.from_residual.ensures.1 in
    rw p.1 (writes_front g.W.Sink _ _ _ _ (lines_at (reply_line c.args.setup.now) (written c.args.writer.now) (written c.lines.writer) (written c.write_reply.new.writer) c.args.replies.now c.lines.place _ c.lines.invariant.took c.in_err-write_reply.ensures.err c.lines-test.true) (search rules))
