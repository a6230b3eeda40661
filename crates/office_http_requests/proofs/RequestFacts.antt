-- Parts of a request.
use Rattle.std.proofs.Common.{◌≡◌, ◌<◌, ℕ, true, arith}
use Rattle.std.proofs.lemmas.Bool.Decides.{nat_tests}
use Rattle.office_http_requests.specs.Asked.{is_query}

pub query_is_ascii : (c : ℕ) → is_query c ≡ true → c < 128
query_is_ascii c h = grind (arith, nat_tests)
