use Rattle.std.proofs.lemmas.Result.{err_from_is_err_and}
use Rattle.office_mail.proofs.WrittenFacts.{writes_front}
use Rattle.office_http.proofs.hosts.refuse_host.Goals as goal

pub returns-in_err-code-clause-writes : goal.returns-in_err-code-clause-writes
returns-in_err-code-clause-writes g c =
    let p = err_from_is_err_and c.from_residual.result c.from_residual.ensures.1 in
    rw p.1 (writes_front g.W.Sink _ _ _ _ c.in_err-code.ensures.writes.err c.in_err-code.ensures.writes.cause)

pub returns-clause-writes : goal.returns-clause-writes
returns-clause-writes g c = record {
  ok = c.in_ok-code.ensures.writes.ok;
  err = tt;
  cause = tt;
  clean = c.in_ok-code.ensures.writes.clean;
}
