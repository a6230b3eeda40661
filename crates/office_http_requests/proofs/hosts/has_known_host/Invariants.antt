use Rattle.std.proofs.Common.{◌≡◌, Bor, List, ℕ, map, take}
use Rattle.std.specs.List.{list_any}
use Rattle.httparse.specs.Spans.{header_bytes}
use Rattle.office_http_requests.specs.Hosts.{is_known_host}
use Rattle.office_http_requests.proofs.hosts.has_known_host.Given as goal

-- what the fields so far name
abbrev pub invariant-loop-header : goal.invariant-loop-header
invariant-loop-header l = l.known ≡ list_any (is_known_host (map (λ (host : Bor (List ℕ)). host.now) l.hosts)) (map (header_bytes l.seen) (take l.header-index l.headers))
