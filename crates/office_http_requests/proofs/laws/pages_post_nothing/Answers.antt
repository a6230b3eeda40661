use Rattle.office_http_requests.proofs.ForeignFacts.{foreign_asks}
use Rattle.office_http_requests.proofs.laws.pages_post_nothing.Goals as goal

pub returns : goal.returns
returns c = foreign_asks
