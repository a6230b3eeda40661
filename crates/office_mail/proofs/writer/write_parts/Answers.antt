use Rattle.std.proofs.Common.{rules, arith}
use Rattle.std.proofs.lemmas.Result.{err_from_is_err_and}
use Rattle.office_mail.proofs.WrittenFacts.{joined_at, writes_front}
use Rattle.office_mail.proofs.writer.write_parts.Goals as goal

pub returns-in_err-write_all : goal.returns-in_err-write_all
returns-in_err-write_all g c =
    let written = g.W.Sink.written in
    let p = err_from_is_err_and c.from_residual.result c.from_residual.ensures.1 in
    rw p.1 (writes_front g.W.Sink _ _ _ _ (joined_at (written c.args.writer.now) (written c.loop-part.writer) (written c.write_all.new.writer) c.args.parts.now c.loop-part.part-index _ c.loop-part.invariant.took c.in_err-write_all.ensures.err (omega arith)) (search rules))
