use Rattle.office_http.proofs.BoundFacts.{bound}
use Rattle.office_http.proofs.service_laws.bound_mail.Goals as goal

pub returns : goal.returns
returns c = bound
