use Rattle.office_http.proofs.serve.refuse.Goals as goal

pub returns-clause-ok : goal.returns-clause-ok
returns-clause-ok g c = c.in_ok-code.ensures.writes.ok

pub returns-clause-failures : goal.returns-clause-failures
returns-clause-failures g c = record { cause = tt; clean = c.in_ok-code.ensures.writes.clean }
