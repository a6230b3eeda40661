use Rattle.deb_control.proofs.Ends.{boundary_at_found}
use Rattle.office_http_requests.specs.Asked.{is_query}
use Rattle.office_http_requests.proofs.RequestFacts.{query_is_ascii}
use Rattle.office_http_requests.proofs.request.path_of.Goals as goal

pub split_at-requires : goal.split_at-requires
split_at-requires c = boundary_at_found is_query query_is_ascii c.args.target.now _ (rw c.as_bytes.ensures.value at c.in-Some.ensures)
