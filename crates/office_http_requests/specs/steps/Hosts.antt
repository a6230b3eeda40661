-- Steps beside `specs/Hosts.antt`.
use Rattle.std.specs.Prelude.{◌≡◌, ℕ, Bool, false, List, Option, Some, None, if◌then◌else◌}
use Rattle.httparse.specs.Grammar.{RequestHead}
use Rattle.office_http_requests.specs.Asked.{is_head_method}
use Rattle.office_http_requests.specs.Request.{BeginsWith}
use Rattle.office_http_requests.specs.Hosts.{has_known_host, is_for_other}

-- of a request for another host whether it is a HEAD, of any other nothing
abbrev pub method_if : Bool → RequestHead → Option Bool
method_if is_other head = if is_other then Some (is_head_method head) else None

abbrev pub other_method : List (List ℕ) → RequestHead → Option Bool
other_method hosts head = method_if (is_for_other hosts head) head

-- the bytes begin with a request that names no known host
pub record IsBeside (hosts : List (List ℕ)) (input : List ℕ) : Type 0 where
  pub head : RequestHead
  pub rest : List ℕ
  pub begins : BeginsWith input head rest
  pub beside : has_known_host hosts head ≡ false
