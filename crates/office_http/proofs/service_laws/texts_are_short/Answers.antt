use Rattle.office_http.proofs.CutFacts.{is_short}
use Rattle.office_http.proofs.service_laws.texts_are_short.Goals as goal

pub returns : goal.returns
returns c = is_short
