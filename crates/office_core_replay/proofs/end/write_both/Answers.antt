use Rattle.std.proofs.Common.{rules, ◌∙◌}
use Rattle.std.proofs.lemmas.Result.{err_from_is_err_and}
use Rattle.std.proofs.KnownBytes.{Appends-trans}
use Rattle.office_mail.proofs.WrittenFacts.{front_after, front_before, writes_front}
use Rattle.office_core_replay.proofs.end.write_both.Goals as goal

pub returns-in_err-write_report-clause-writes : goal.returns-in_err-write_report-clause-writes
returns-in_err-write_report-clause-writes g c =
    let p = err_from_is_err_and c.from_residual.result c.from_residual.ensures.1 in
    let written = g.W.Sink.written in
    rw p.1 (writes_front g.W.Sink _ _ _ _ (front_before (written c.args.writer.now) (written c.write_report.new.writer) _ _ c.in_err-write_report.ensures.err) c.in_err-write_report.ensures.cause)

pub returns-in_err-write_report-2-clause-writes : goal.returns-in_err-write_report-2-clause-writes
returns-in_err-write_report-2-clause-writes g c =
    let p = err_from_is_err_and c.from_residual-in_err-write_report-2.result c.from_residual-in_err-write_report-2.ensures.1 in
    let written = g.W.Sink.written in
    rw p.1 (writes_front g.W.Sink _ _ _ _ (front_after (written c.args.writer.now) (written c.write_report.new.writer) (written c.write_report-2.new.writer) _ _ c.in_ok-write_report.ensures.ok c.in_err-write_report-2.ensures.err) (search rules))

pub returns-clause-writes : goal.returns-clause-writes
returns-clause-writes g c =
    let written = g.W.Sink.written in
    record {
      ok = Appends-trans (written c.args.writer.now) (written c.write_report.new.writer) (written c.write_report-2.new.writer) _ _ c.in_ok-write_report.ensures.ok c.in_ok-write_report-2.ensures.ok;
      err = tt;
      cause = tt;
      clean = c.in_ok-write_report-2.ensures.clean ∙ c.in_ok-write_report.ensures.clean;
    }
